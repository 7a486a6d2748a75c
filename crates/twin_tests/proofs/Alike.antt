-- Expressions that read the same in two lists of entries.
use Rattle.std.proofs.Common.{◌≡◌, ◌⊎◌, inl, inr, false, List, [], ◌∷◌, ◌++◌, Option, refl, sym, ap, ◌∙◌}
use Rattle.std.specs.Prelude.{nat_eq, if◌then◌else◌, unwrap_or, IsTrue, IsSomeAnd}
use Rattle.std.specs.Option.{option_map}
use Rattle.vlog_tree.specs.declared.expr.Constant.{Constant}
use Rattle.vlog_tree.specs.declared.expr.Expr.{Expr, Row_of-Expr, end_of-Expr, more_of-Expr}
use Rattle.vlog_tree.specs.declared.expr.Expr.TheVariants as e
use Rattle.vlog_tree.specs.declared.expr.Name.{Name as Read}
use Rattle.vlog_tree.specs.declared.valuation.Entry.{Entry}
use Rattle.vlog_tree.specs.Valuation.{IsLength, entry_at, meant, named, depth_of}
use Rattle.vlog_tree.specs.Value.{operand_of, row_of, own_defined, vector, bit_of, word_of, part_of, cast_of, unary_of, binary_of, choice_of, joined, repeated, IsPart, IsFormed, AllFormed}
use Rattle.twin_tests.specs.Leaves.{names_in, row_names_in}

-- ---- names in a list

abbrev pub Among : List Read → Read → Type 0
Among [] x = ⊥
Among (y ∷ ys) x = (y ≡ x) ⊎ Among ys x

among_left : (xs ys : List Read) (x : Read) → Among xs x → Among (xs ++ ys) x
among_left [] ys x m = absurd m
among_left (y ∷ xs) ys x (inl h) = inl h
among_left (y ∷ xs) ys x (inr m) = inr (among_left xs ys x m)

among_right : (xs ys : List Read) (x : Read) → Among ys x → Among (xs ++ ys) x
among_right [] ys x m = m
among_right (y ∷ xs) ys x m = inr (among_right xs ys x m)

-- ---- two lists of entries in which an expression reads the same

-- each of these names has the same entry in both, and no name is a memory
pub record ReadAlike (v w : List Entry) (xs : List Read) : Type 0 where
  pub entry : (x : Read) → Among xs x → entry_at v x.text x.offset ≡ entry_at w x.text x.offset
  pub plain : (x : Read) → depth_of v x ≡ 0
  pub plain_too : (x : Read) → depth_of w x ≡ 0

module _ (v w : List Entry) where
  fewer : (xs ys : List Read) → ReadAlike v w ys → ((x : Read) → Among xs x → Among ys x) → ReadAlike v w xs
  fewer xs ys h k = record { entry = λ x m. h.entry x (k x m); plain = h.plain; plain_too = h.plain_too }

  first_of : (xs ys : List Read) → ReadAlike v w (xs ++ ys) → ReadAlike v w xs
  first_of xs ys h = fewer xs (xs ++ ys) h (among_left xs ys)

  second_of : (xs ys : List Read) → ReadAlike v w (xs ++ ys) → ReadAlike v w ys
  second_of xs ys h = fewer ys (xs ++ ys) h (among_right xs ys)

  past : (x : Read) (xs : List Read) → ReadAlike v w (x ∷ xs) → ReadAlike v w xs
  past x xs h = fewer xs (x ∷ xs) h (λ y m. inr m)

  same_entry : (x : Read) (xs : List Read) → ReadAlike v w (x ∷ xs) → entry_at v x.text x.offset ≡ entry_at w x.text x.offset
  same_entry x xs h = h.entry x (inl refl)

  same_name : (x : Read) (xs : List Read) → ReadAlike v w (x ∷ xs) → named v x ≡ named w x
  same_name x xs h = ap (λ (o : Option Entry). unwrap_or (option_map meant o) (record { width = 1; low = 0; signed = false; value = 0 })) (same_entry x xs h)

  mutual
    pub same_operand : (a : Expr) → ReadAlike v w (names_in a) → operand_of v a ≡ operand_of w a
    same_operand (e.Number n) m = refl
    same_operand (e.Name x) m = ap (λ (k : Constant). vector k.width k.signed k.value) (same_name x [] m)
    same_operand (e.Select' x h (more_of-Expr a end_of-Expr)) m =
        let k = same_name x (names_in a) m in
        let o = same_operand a (past x (names_in a) m) in
        ap (λ n. if nat_eq n 0 then bit_of (named v x) (operand_of v a) else word_of v x (operand_of v a)) (m.plain x)
        ∙ ((λ r. bit_of (k r) (o r)) ∙ sym (ap (λ n. if nat_eq n 0 then bit_of (named w x) (operand_of w a) else word_of w x (operand_of w a)) (m.plain_too x)))
    same_operand (e.Part' x span h (more_of-Expr a end_of-Expr) g (more_of-Expr b end_of-Expr)) m =
        let k = same_name x (names_in a ++ names_in b) m in
        let n = past x (names_in a ++ names_in b) m in
        let o = same_operand a (first_of (names_in a) (names_in b) n) in
        let q = same_operand b (second_of (names_in a) (names_in b) n) in
        λ r. part_of (k r) span (o r) (q r)
    same_operand (e.ConstantSelect' k h (more_of-Expr a end_of-Expr)) m = ap (bit_of k) (same_operand a m)
    same_operand (e.ConstantPart' k span h (more_of-Expr a end_of-Expr) g (more_of-Expr b end_of-Expr)) m =
        let o = same_operand a (first_of (names_in a) (names_in b) m) in
        let q = same_operand b (second_of (names_in a) (names_in b) m) in
        λ r. part_of k span (o r) (q r)
    same_operand (e.Cast' cast h (more_of-Expr a end_of-Expr)) m = ap (cast_of cast) (same_operand a m)
    same_operand (e.Paren' h (more_of-Expr a end_of-Expr)) m = same_operand a m
    same_operand (e.Concat' h row) m = same_row row m
    same_operand (e.Repeat' h (more_of-Expr a end_of-Expr) g row) m =
        let o = same_operand a (first_of (names_in a) (row_names_in row) m) in
        let q = same_row row (second_of (names_in a) (row_names_in row) m) in
        λ r. repeated (o r) (q r)
    same_operand (e.Unary' op h (more_of-Expr a end_of-Expr)) m = ap (unary_of op) (same_operand a m)
    same_operand (e.Binary' op h (more_of-Expr a end_of-Expr) g (more_of-Expr b end_of-Expr)) m =
        let o = same_operand a (first_of (names_in a) (names_in b) m) in
        let q = same_operand b (second_of (names_in a) (names_in b) m) in
        λ r. binary_of op (o r) (q r)
    same_operand (e.Choice' h (more_of-Expr c end_of-Expr) g (more_of-Expr a end_of-Expr) i (more_of-Expr b end_of-Expr)) m =
        let n = second_of (names_in c) (names_in a ++ names_in b) m in
        let p = same_operand c (first_of (names_in c) (names_in a ++ names_in b) m) in
        let o = same_operand a (first_of (names_in a) (names_in b) n) in
        let q = same_operand b (second_of (names_in a) (names_in b) n) in
        λ r. choice_of (p r) (o r) (q r)

    same_row : {n : _} (row : Row_of-Expr n) → ReadAlike v w (row_names_in row) → row_of v row ≡ row_of w row
    same_row end_of-Expr m = refl
    same_row (more_of-Expr a rest) m =
        let o = same_operand a (first_of (names_in a) (row_names_in rest) m) in
        let q = same_row rest (second_of (names_in a) (row_names_in rest) m) in
        λ r. joined (o r) (q r)

  abbrev StandsAt : Option Entry → Type 0
  StandsAt o = IsSomeAnd (option_map meant o) (λ k. IsLength k.width)

  mutual
    pub same_form : (a : Expr) → ReadAlike v w (names_in a) → IsFormed v a ≡ IsFormed w a
    same_form (e.Number n) m = refl
    same_form (e.Name x) m = let t = same_entry x [] m in λ r. StandsAt (t r)
    same_form (e.Select' x h (more_of-Expr a end_of-Expr)) m =
        let t = same_entry x (names_in a) m in
        let f = same_form a (past x (names_in a) m) in
        λ r. StandsAt (t r) × f r
    same_form (e.Part' x span h (more_of-Expr a end_of-Expr) g (more_of-Expr b end_of-Expr)) m =
        let t = same_entry x (names_in a ++ names_in b) m in
        let k = same_name x (names_in a ++ names_in b) m in
        let n = past x (names_in a ++ names_in b) m in
        let i = first_of (names_in a) (names_in b) n in
        let j = second_of (names_in a) (names_in b) n in
        let f = same_form a i in
        let f' = same_form b j in
        let o = same_operand a i in
        let o' = same_operand b j in
        λ r. StandsAt (t r) × f r × f' r × IsPart (k r) span (o r) (o' r) × IsLength (part_of (k r) span (o r) (o' r)).width
    same_form (e.ConstantSelect' k h (more_of-Expr a end_of-Expr)) m = let f = same_form a m in λ r. IsLength k.width × f r
    same_form (e.ConstantPart' k span h (more_of-Expr a end_of-Expr) g (more_of-Expr b end_of-Expr)) m =
        let i = first_of (names_in a) (names_in b) m in
        let j = second_of (names_in a) (names_in b) m in
        let f = same_form a i in
        let f' = same_form b j in
        let o = same_operand a i in
        let o' = same_operand b j in
        λ r. IsLength k.width × f r × f' r × IsPart k span (o r) (o' r) × IsLength (part_of k span (o r) (o' r)).width
    same_form (e.Cast' cast h (more_of-Expr a end_of-Expr)) m = same_form a m
    same_form (e.Paren' h (more_of-Expr a end_of-Expr)) m = same_form a m
    same_form (e.Concat' h row) m =
        let f = same_forms row m in
        let o = same_row row m in
        λ r. f r × IsLength (o r).width
    same_form (e.Repeat' h (more_of-Expr a end_of-Expr) g row) m =
        let i = first_of (names_in a) (row_names_in row) m in
        let j = second_of (names_in a) (row_names_in row) m in
        let f = same_form a i in
        let f' = same_forms row j in
        let o = same_operand a i in
        let o' = same_row row j in
        λ r. f r × IsTrue (own_defined (o r)) × f' r × IsLength (repeated (o r) (o' r)).width
    same_form (e.Unary' op h (more_of-Expr a end_of-Expr)) m = same_form a m
    same_form (e.Binary' op h (more_of-Expr a end_of-Expr) g (more_of-Expr b end_of-Expr)) m =
        let f = same_form a (first_of (names_in a) (names_in b) m) in
        let f' = same_form b (second_of (names_in a) (names_in b) m) in
        λ r. f r × f' r
    same_form (e.Choice' h (more_of-Expr c end_of-Expr) g (more_of-Expr a end_of-Expr) i (more_of-Expr b end_of-Expr)) m =
        let n = second_of (names_in c) (names_in a ++ names_in b) m in
        let f = same_form c (first_of (names_in c) (names_in a ++ names_in b) m) in
        let f' = same_form a (first_of (names_in a) (names_in b) n) in
        let f'' = same_form b (second_of (names_in a) (names_in b) n) in
        λ r. f r × f' r × f'' r

    same_forms : {n : _} (row : Row_of-Expr n) → ReadAlike v w (row_names_in row) → AllFormed v row ≡ AllFormed w row
    same_forms end_of-Expr m = refl
    same_forms (more_of-Expr a rest) m =
        let f = same_form a (first_of (names_in a) (row_names_in rest) m) in
        let f' = same_forms rest (second_of (names_in a) (row_names_in rest) m) in
        λ r. f r × f' r
