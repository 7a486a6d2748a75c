-- A formula in the present row has the lengths, signs and values of the formula, where each name means the same there.
use Rattle.std.proofs.Common.{◌≡◌, ℕ, ◌≤◌, max, false, refl, sym, ap, ◌∙◌, subst, List, arith}
use Rattle.std.specs.Prelude.{nat_eq, if◌then◌else◌, unwrap_or, IsSomeAnd, IsTrue}
use Rattle.vlog_tree.specs.declared.expr.Constant.{Constant}
use Rattle.vlog_tree.specs.declared.expr.Expr.{Expr, Row_of-Expr, end_of-Expr, more_of-Expr}
use Rattle.vlog_tree.specs.declared.expr.Expr.TheVariants as e
use Rattle.vlog_tree.specs.declared.expr.Name.{Name}
use Rattle.vlog_tree.specs.declared.valuation.Entry.{Entry}
use Rattle.vlog_tree.specs.Valuation.{IsLength, meaning_of, named, depth_of}
use Rattle.vlog_tree.specs.Value.{Operand, operand_of, row_of, vector, unary_of, binary_of, choice_of, cast_of, joined, repeated, bit_of, part_of, word_of, own_defined, IsFormed, AllFormed, IsPart}
use Rattle.set_tree.specs.Formulas.{largest_offset, largest_of_row}
use Rattle.set_read_lookup.specs.Tests.{present, present_row, present_name}

-- names read up to row n mean in u, in the present row, what they mean in v; none is a memory
pub record Same (v u : List Entry) (n : ℕ) : Type 0 where
  pub meaning : (x : Name) → x.offset ≤ n → meaning_of u (present_name x) ≡ meaning_of v x
  pub left : (x : Name) → depth_of v x ≡ 0
  pub right : (x : Name) → depth_of u x ≡ 0

first_of : (a b n : ℕ) → max a b ≤ n → a ≤ n
first_of a b n h = omega (arith, h)

second_of : (a b n : ℕ) → max a b ≤ n → b ≤ n
second_of a b n h = omega (arith, h)

-- a select of a name that is no memory
select_flat : (v : List Entry) (x : Name) (a : Operand) → depth_of v x ≡ 0 → (if nat_eq (depth_of v x) 0 then bit_of (named v x) a else word_of v x a) ≡ bit_of (named v x) a
select_flat v x a h = ap (λ n. if nat_eq n 0 then bit_of (named v x) a else word_of v x a) h

module _ (v u : List Entry) (n : ℕ) (same : Same v u n) where
  named_same : (x : Name) → x.offset ≤ n → named u (present_name x) ≡ named v x
  named_same x h = ap (λ o. unwrap_or o (record { width = 1; low = 0; signed = false; value = 0 })) (same.meaning x h)

  mutual
    means : (a : Expr) → largest_offset a ≤ n → operand_of u (present a) ≡ operand_of v a
    means (e.Number k) o = refl
    means (e.Name x) o = ap (λ (k : Constant). vector k.width k.signed k.value) (named_same x o)
    means (e.Select' x h (more_of-Expr a end_of-Expr)) o =
        select_flat u (present_name x) (operand_of u (present a)) (same.right (present_name x))
        ∙ ((λ r. bit_of (named_same x (first_of x.offset (largest_offset a) n o) r) (means a (second_of x.offset (largest_offset a) n o) r)) ∙ sym (select_flat v x (operand_of v a) (same.left x)))
    means (e.Part' x span h (more_of-Expr a end_of-Expr) g (more_of-Expr b end_of-Expr)) o =
        let q = second_of x.offset (max (largest_offset a) (largest_offset b)) n o in
        λ r. part_of (named_same x (first_of x.offset (max (largest_offset a) (largest_offset b)) n o) r) span
        (means a (first_of (largest_offset a) (largest_offset b) n q) r) (means b (second_of (largest_offset a) (largest_offset b) n q) r)
    means (e.ConstantSelect' k h (more_of-Expr a end_of-Expr)) o = ap (bit_of k) (means a o)
    means (e.ConstantPart' k span h (more_of-Expr a end_of-Expr) g (more_of-Expr b end_of-Expr)) o =
        λ r. part_of k span (means a (first_of (largest_offset a) (largest_offset b) n o) r) (means b (second_of (largest_offset a) (largest_offset b) n o) r)
    means (e.Cast' cast h (more_of-Expr a end_of-Expr)) o = ap (cast_of cast) (means a o)
    means (e.Paren' h (more_of-Expr a end_of-Expr)) o = means a o
    means (e.Concat' h row) o = rows_mean row o
    means (e.Repeat' h (more_of-Expr a end_of-Expr) g row) o =
        λ r. repeated (means a (first_of (largest_offset a) (largest_of_row row) n o) r) (rows_mean row (second_of (largest_offset a) (largest_of_row row) n o) r)
    means (e.Unary' op h (more_of-Expr a end_of-Expr)) o = ap (unary_of op) (means a o)
    means (e.Binary' op h (more_of-Expr a end_of-Expr) g (more_of-Expr b end_of-Expr)) o =
        λ r. binary_of op (means a (first_of (largest_offset a) (largest_offset b) n o) r) (means b (second_of (largest_offset a) (largest_offset b) n o) r)
    means (e.Choice' h (more_of-Expr c end_of-Expr) g (more_of-Expr a end_of-Expr) i (more_of-Expr b end_of-Expr)) o =
        let q = second_of (largest_offset c) (max (largest_offset a) (largest_offset b)) n o in
        λ r. choice_of (means c (first_of (largest_offset c) (max (largest_offset a) (largest_offset b)) n o) r)
        (means a (first_of (largest_offset a) (largest_offset b) n q) r) (means b (second_of (largest_offset a) (largest_offset b) n q) r)

    rows_mean : {m : _} (row : Row_of-Expr m) → largest_of_row row ≤ n → row_of u (present_row row) ≡ row_of v row
    rows_mean end_of-Expr o = refl
    rows_mean (more_of-Expr a rest) o =
        λ r. joined (means a (first_of (largest_offset a) (largest_of_row rest) n o) r) (rows_mean rest (second_of (largest_offset a) (largest_of_row rest) n o) r)

  mutual
    pub formed_alike : (a : Expr) → largest_offset a ≤ n → IsFormed u (present a) ≡ IsFormed v a
    formed_alike (e.Number k) o = refl
    formed_alike (e.Name x) o = λ r. IsSomeAnd (same.meaning x o r) (λ k. IsLength k.width)
    formed_alike (e.Select' x h (more_of-Expr a end_of-Expr)) o =
        λ r. IsSomeAnd (same.meaning x (first_of x.offset (largest_offset a) n o) r) (λ k. IsLength k.width) × formed_alike a (second_of x.offset (largest_offset a) n o) r
    formed_alike (e.Part' x span h (more_of-Expr a end_of-Expr) g (more_of-Expr b end_of-Expr)) o =
        let l = first_of x.offset (max (largest_offset a) (largest_offset b)) n o in
        let q = second_of x.offset (max (largest_offset a) (largest_offset b)) n o in
        let f = first_of (largest_offset a) (largest_offset b) n q in
        let s = second_of (largest_offset a) (largest_offset b) n q in
        λ r. IsSomeAnd (same.meaning x l r) (λ k. IsLength k.width) × formed_alike a f r × formed_alike b s r × IsPart (named_same x l r) span (means a f r) (means b s r)
        × IsLength (part_of (named_same x l r) span (means a f r) (means b s r)).width
    formed_alike (e.ConstantSelect' k h (more_of-Expr a end_of-Expr)) o = λ r. IsLength k.width × formed_alike a o r
    formed_alike (e.ConstantPart' k span h (more_of-Expr a end_of-Expr) g (more_of-Expr b end_of-Expr)) o =
        let f = first_of (largest_offset a) (largest_offset b) n o in
        let s = second_of (largest_offset a) (largest_offset b) n o in
        λ r. IsLength k.width × formed_alike a f r × formed_alike b s r × IsPart k span (means a f r) (means b s r) × IsLength (part_of k span (means a f r) (means b s r)).width
    formed_alike (e.Cast' cast h (more_of-Expr a end_of-Expr)) o = formed_alike a o
    formed_alike (e.Paren' h (more_of-Expr a end_of-Expr)) o = formed_alike a o
    formed_alike (e.Concat' h row) o = λ r. rows_alike row o r × IsLength (rows_mean row o r).width
    formed_alike (e.Repeat' h (more_of-Expr a end_of-Expr) g row) o =
        let f = first_of (largest_offset a) (largest_of_row row) n o in
        let s = second_of (largest_offset a) (largest_of_row row) n o in
        λ r. formed_alike a f r × IsTrue (own_defined (means a f r)) × rows_alike row s r × IsLength (repeated (means a f r) (rows_mean row s r)).width
    formed_alike (e.Unary' op h (more_of-Expr a end_of-Expr)) o = formed_alike a o
    formed_alike (e.Binary' op h (more_of-Expr a end_of-Expr) g (more_of-Expr b end_of-Expr)) o =
        λ r. formed_alike a (first_of (largest_offset a) (largest_offset b) n o) r × formed_alike b (second_of (largest_offset a) (largest_offset b) n o) r
    formed_alike (e.Choice' h (more_of-Expr c end_of-Expr) g (more_of-Expr a end_of-Expr) i (more_of-Expr b end_of-Expr)) o =
        let q = second_of (largest_offset c) (max (largest_offset a) (largest_offset b)) n o in
        λ r. formed_alike c (first_of (largest_offset c) (max (largest_offset a) (largest_offset b)) n o) r
        × formed_alike a (first_of (largest_offset a) (largest_offset b) n q) r × formed_alike b (second_of (largest_offset a) (largest_offset b) n q) r

    rows_alike : {m : _} (row : Row_of-Expr m) → largest_of_row row ≤ n → AllFormed u (present_row row) ≡ AllFormed v row
    rows_alike end_of-Expr o = refl
    rows_alike (more_of-Expr a rest) o =
        λ r. formed_alike a (first_of (largest_offset a) (largest_of_row rest) n o) r × rows_alike rest (second_of (largest_offset a) (largest_of_row rest) n o) r

  pub formed_there : (a : Expr) → largest_offset a ≤ n → IsFormed u (present a) → IsFormed v a
  formed_there a o h = subst (λ P. P) (formed_alike a o) h

  pub formed_here : (a : Expr) → largest_offset a ≤ n → IsFormed v a → IsFormed u (present a)
  formed_here a o h = subst (λ P. P) (sym (formed_alike a o)) h
