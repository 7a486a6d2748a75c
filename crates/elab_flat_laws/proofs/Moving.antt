-- A moved expression means what the expression means.
use Rattle.std.proofs.Common.{◌≡◌, ℕ, ◌%◌, ◌^◌, Bool, true, false, nat_eq, nat_lt, List, Option, Some, None, sym, ap, ◌∙◌, refl}
use Rattle.std.specs.Prelude.{if◌then◌else◌}
use Rattle.std.proofs.Math.Nat.{mod-eq_of_lt}
use Rattle.std.proofs.lemmas.Bool.{ltb-true}
use Rattle.vlog_tree.specs.declared.expr.Constant.{Constant}
use Rattle.vlog_tree.specs.declared.expr.Expr.{Expr, Row_of-Expr, end_of-Expr, more_of-Expr}
use Rattle.vlog_tree.specs.declared.expr.Expr.TheVariants as e
use Rattle.vlog_tree.specs.declared.expr.Name.{Name as Read}
use Rattle.vlog_tree.specs.declared.expr.Span.{Span}
use Rattle.vlog_tree.specs.declared.valuation.Entry.{Entry}
use Rattle.vlog_tree.specs.Valuation.{meaning_of, named, depth_of, word_name}
use Rattle.vlog_tree.specs.Value.{Operand, operand_of, row_of, own, vector, plain, unary_of, binary_of, choice_of, cast_of, joined, repeated, bit_of, part_of, word_of, own_defined, NamesOnly, AllNamesOnly}
use Rattle.vlog_tree_runs.specs.Places.{Name}
use Rattle.elab_flat_laws.specs.Moved.{under, moved, moved_name, moved_select, moved_part, moved_row}
use Rattle.elab_flat_laws.specs.Laws.{SameRead, Moves}

-- what a name is as an operand
abbrev as_operand : Constant → Operand
as_operand k = vector k.width k.signed k.value

name_means : (test : Name → Bool) (ps v w : List Entry) (pre : Name) (x : Read) → Moves test ps v w pre → test x.text ≡ true →
    (o : Option Constant) → meaning_of ps x ≡ o → operand_of w (moved_name pre o x) ≡ operand_of v (e.Name x)
name_means test ps v w pre x m t None h = ap as_operand ((m.names x t h).meaning)
name_means test ps v w pre x m t (Some k) h =
    let s = m.constants x k h in
    ap (λ n. vector k.width k.signed n) (mod-eq_of_lt s.fits) ∙ sym (ap as_operand s.meaning)

word_value : (v w : List Entry) (pre : Name) (x : Read) (j : ℕ) → SameRead v w pre x → (b : Bool) → nat_lt j (depth_of v x) ≡ b →
    (if b then (named w (word_name (under pre x) j)).value % 2 ^ (named v x).width else 0) ≡ (if b then (named v (word_name x j)).value % 2 ^ (named v x).width else 0)
word_value v w pre x j s true h = ap (λ k. k.value % 2 ^ (named v x).width) (s.words j (ltb-true j (depth_of v x) h))
word_value v w pre x j s false h = refl

word_means : (v w : List Entry) (pre : Name) (x : Read) (a : Operand) → SameRead v w pre x → word_of w (under pre x) a ≡ word_of v x a
word_means v w pre x a s =
    (λ r. plain (s.meaning r).width
    (if nat_lt (own a) (s.depth r) then (named w (word_name (under pre x) (own a))).value % 2 ^ (s.meaning r).width else 0)
    (own_defined a))
    ∙ ap (λ n. plain (named v x).width n (own_defined a)) (word_value v w pre x (own a) s (nat_lt (own a) (depth_of v x)) refl)

select_means : (test : Name → Bool) (ps v w : List Entry) (pre : Name) (x : Read) (a b : Expr) → Moves test ps v w pre → test x.text ≡ true →
    operand_of w b ≡ operand_of v a → (o : Option Constant) → meaning_of ps x ≡ o →
    operand_of w (moved_select pre o x b) ≡ operand_of v (e.Select' x tt (more_of-Expr a end_of-Expr))
select_means test ps v w pre x a b m t i None h =
    let s = m.names x t h in
    let word : word_of w (under pre x) (operand_of w b) ≡ word_of v x (operand_of v a) = ap (word_of w (under pre x)) i ∙ word_means v w pre x (operand_of v a) s in
    λ r. if nat_eq (s.depth r) 0 then bit_of (s.meaning r) (i r) else word r
select_means test ps v w pre x a b m t i (Some k) h =
    let s = m.constants x k h in
    let z : operand_of v (e.Select' x tt (more_of-Expr a end_of-Expr)) ≡ bit_of (named v x) (operand_of v a) =
    ap (λ n. if nat_eq n 0 then bit_of (named v x) (operand_of v a) else word_of v x (operand_of v a)) s.depth in
    ap (bit_of k) i ∙ (sym (ap (λ c. bit_of c (operand_of v a)) s.meaning) ∙ sym z)

part_means : (test : Name → Bool) (ps v w : List Entry) (pre : Name) (x : Read) (span : Span) (a b c d : Expr) → Moves test ps v w pre → test x.text ≡ true →
    operand_of w c ≡ operand_of v a → operand_of w d ≡ operand_of v b → (o : Option Constant) → meaning_of ps x ≡ o →
    operand_of w (moved_part pre o x span c d) ≡ operand_of v (e.Part' x span tt (more_of-Expr a end_of-Expr) tt (more_of-Expr b end_of-Expr))
part_means test ps v w pre x span a b c d m t i j None h =
    let s = m.names x t h in
    λ r. part_of (s.meaning r) span (i r) (j r)
part_means test ps v w pre x span a b c d m t i j (Some k) h =
    let s = m.constants x k h in
    (λ r. part_of k span (i r) (j r)) ∙ sym (ap (λ z. part_of z span (operand_of v a) (operand_of v b)) s.meaning)

mutual
  pub moved_means : (test : Name → Bool) (ps v w : List Entry) (pre : Name) (a : Expr) → Moves test ps v w pre → NamesOnly test a →
      operand_of w (moved pre ps a) ≡ operand_of v a
  moved_means test ps v w pre (e.Number n) m d = refl
  moved_means test ps v w pre (e.Name x) m d = name_means test ps v w pre x m d (meaning_of ps x) refl
  moved_means test ps v w pre (e.Select' x h (more_of-Expr a end_of-Expr)) m d =
      select_means test ps v w pre x a (moved pre ps a) m d.0 (moved_means test ps v w pre a m d.1) (meaning_of ps x) refl
  moved_means test ps v w pre (e.Part' x span h (more_of-Expr a end_of-Expr) g (more_of-Expr b end_of-Expr)) m d =
      part_means test ps v w pre x span a b (moved pre ps a) (moved pre ps b) m d.0 (moved_means test ps v w pre a m d.1) (moved_means test ps v w pre b m d.2) (meaning_of ps x) refl
  moved_means test ps v w pre (e.ConstantSelect' k h (more_of-Expr a end_of-Expr)) m d = ap (bit_of k) (moved_means test ps v w pre a m d)
  moved_means test ps v w pre (e.ConstantPart' k span h (more_of-Expr a end_of-Expr) g (more_of-Expr b end_of-Expr)) m d =
      λ r. part_of k span (moved_means test ps v w pre a m d.0 r) (moved_means test ps v w pre b m d.1 r)
  moved_means test ps v w pre (e.Cast' cast h (more_of-Expr a end_of-Expr)) m d = ap (cast_of cast) (moved_means test ps v w pre a m d)
  moved_means test ps v w pre (e.Paren' h (more_of-Expr a end_of-Expr)) m d = moved_means test ps v w pre a m d
  moved_means test ps v w pre (e.Concat' h row) m d = row_means test ps v w pre row m d
  moved_means test ps v w pre (e.Repeat' h (more_of-Expr a end_of-Expr) g row) m d =
      λ r. repeated (moved_means test ps v w pre a m d.0 r) (row_means test ps v w pre row m d.1 r)
  moved_means test ps v w pre (e.Unary' op h (more_of-Expr a end_of-Expr)) m d = ap (unary_of op) (moved_means test ps v w pre a m d)
  moved_means test ps v w pre (e.Binary' op h (more_of-Expr a end_of-Expr) g (more_of-Expr b end_of-Expr)) m d =
      λ r. binary_of op (moved_means test ps v w pre a m d.0 r) (moved_means test ps v w pre b m d.1 r)
  moved_means test ps v w pre (e.Choice' h (more_of-Expr c end_of-Expr) g (more_of-Expr a end_of-Expr) i (more_of-Expr b end_of-Expr)) m d =
      λ r. choice_of (moved_means test ps v w pre c m d.0 r) (moved_means test ps v w pre a m d.1 r) (moved_means test ps v w pre b m d.2 r)

  row_means : {n : _} (test : Name → Bool) (ps v w : List Entry) (pre : Name) (row : Row_of-Expr n) → Moves test ps v w pre → AllNamesOnly test row →
      row_of w (moved_row pre ps row) ≡ row_of v row
  row_means test ps v w pre end_of-Expr m d = refl
  row_means test ps v w pre (more_of-Expr a rest) m d = λ r. joined (moved_means test ps v w pre a m d.0 r) (row_means test ps v w pre rest m d.1 r)
