-- The test for constant parts decides whether a formula has them.
use Rattle.std.proofs.Common.{◌≡◌, ℕ, List, [], ◌∷◌, ◌++◌, Bool, true, false, refl, sym, ap, ◌∙◌, IsTrue}
use Rattle.std.specs.Prelude.{◌&&◌}
use Rattle.vlog_tree.specs.declared.expr.Binary.{Binary}
use Rattle.vlog_tree.specs.declared.expr.Binary.TheVariants as b
use Rattle.vlog_tree.specs.declared.expr.Name.{Name}
use Rattle.vlog_tree.specs.declared.expr.Span.{Span}
use Rattle.vlog_tree.specs.declared.expr.Span.TheVariants as w
use Rattle.vlog_tree.specs.declared.expr.Expr.{Expr, Row_of-Expr, end_of-Expr, more_of-Expr}
use Rattle.vlog_tree.specs.declared.expr.Expr.TheVariants as e
use Rattle.vlog_tree.specs.Value.{NamesOnly, AllNamesOnly, HasConstantParts, AllHaveConstantParts, IsPartConstant, IsDivisionConstant}
use Rattle.set_read_lookup.specs.Faults.{names_in, names_in_row}
use Rattle.set_read_lookup.specs.Tests.{is_empty, names_nothing, is_part_constant, is_division_constant, has_constant_parts, all_have_constant_parts}

-- no name is a parameter's
abbrev pub nothing : List ℕ → Bool
nothing x = false

never : {A : Type 0} → IsTrue false → A
never h = cc

-- a test that is true exactly where P holds
pub record Tells (t : Bool) (P : Type 0) : Type 0 where
  pub holds : t ≡ true → P
  pub held : P → t ≡ true

yes : {P : Type 0} → P → Tells true P
yes p = record { holds = λ h. p; held = λ h. refl }

no : {P : Type 0} → (P → IsTrue false) → Tells false P
no f = record { holds = λ h. absurd (cc); held = λ p. never (f p) }

and_of : (s t : Bool) {P Q : Type 0} → Tells s P → Tells t Q → Tells (s && t) (P × Q)
and_of true t a b = record { holds = λ h. (a.holds refl, b.holds h); held = λ p. b.held p.1 }
and_of false t a b = record { holds = λ h. absurd (cc); held = λ p. a.held p.0 }

and : {s t : Bool} {P Q : Type 0} → Tells s P → Tells t Q → Tells (s && t) (P × Q)
and {s} {t} a b = and_of s t a b

three : (s t u : Bool) {P Q R : Type 0} → Tells s P → Tells t Q → Tells u R → Tells (s && (t && u)) (P × Q × R)
three true true u a b c = record { holds = λ h. (a.holds refl, b.holds refl, c.holds h); held = λ p. c.held p.2 }
three true false u a b c = record { holds = λ h. absurd (cc); held = λ p. b.held p.1 }
three false t u a b c = record { holds = λ h. absurd (cc); held = λ p. a.held p.0 }

by : {s t : Bool} {P : Type 0} → s ≡ t → Tells t P → Tells s P
by h a = record { holds = λ g. a.holds (sym h ∙ g); held = λ p. h ∙ a.held p }

empty_both : (xs ys : List Name) → is_empty (xs ++ ys) ≡ (is_empty xs && is_empty ys)
empty_both [] ys = refl
empty_both (x ∷ xs) ys = refl

-- lists one after another that are empty
both_empty : (xs ys : List Name) (P Q : Type 0) → Tells (is_empty xs) P → Tells (is_empty ys) Q → Tells (is_empty (xs ++ ys)) (P × Q)
both_empty xs ys P Q a b = by (empty_both xs ys) (and_of (is_empty xs) (is_empty ys) a b)

three_empty : (xs ys zs : List Name) (P Q R : Type 0) → Tells (is_empty xs) P → Tells (is_empty ys) Q → Tells (is_empty zs) R → Tells (is_empty (xs ++ (ys ++ zs))) (P × Q × R)
three_empty xs ys zs P Q R a b c =
    by (empty_both xs (ys ++ zs)) (by (ap (λ t. is_empty xs && t) (empty_both ys zs)) (three (is_empty xs) (is_empty ys) (is_empty zs) a b c))

mutual
  pub nameless : (a : Expr) → Tells (names_nothing a) (NamesOnly nothing a)
  nameless (e.Number n) = yes tt
  nameless (e.Name x) = no (λ h. h)
  nameless (e.Select' x h (more_of-Expr a end_of-Expr)) = no (λ h. h.0)
  nameless (e.Part' x span h (more_of-Expr a end_of-Expr) g (more_of-Expr c end_of-Expr)) = no (λ h. h.0)
  nameless (e.ConstantSelect' k h (more_of-Expr a end_of-Expr)) = nameless a
  nameless (e.ConstantPart' k span h (more_of-Expr a end_of-Expr) g (more_of-Expr c end_of-Expr)) = both_empty (names_in a) (names_in c) (NamesOnly nothing a) (NamesOnly nothing c) (nameless a) (nameless c)
  nameless (e.Cast' cast h (more_of-Expr a end_of-Expr)) = nameless a
  nameless (e.Paren' h (more_of-Expr a end_of-Expr)) = nameless a
  nameless (e.Concat' h row) = all_nameless row
  nameless (e.Repeat' h (more_of-Expr a end_of-Expr) g row) = both_empty (names_in a) (names_in_row row) (NamesOnly nothing a) (AllNamesOnly nothing row) (nameless a) (all_nameless row)
  nameless (e.Unary' op h (more_of-Expr a end_of-Expr)) = nameless a
  nameless (e.Binary' op h (more_of-Expr a end_of-Expr) g (more_of-Expr c end_of-Expr)) = both_empty (names_in a) (names_in c) (NamesOnly nothing a) (NamesOnly nothing c) (nameless a) (nameless c)
  nameless (e.Choice' h (more_of-Expr c end_of-Expr) g (more_of-Expr a end_of-Expr) i (more_of-Expr d end_of-Expr)) =
      three_empty (names_in c) (names_in a) (names_in d) (NamesOnly nothing c) (NamesOnly nothing a) (NamesOnly nothing d) (nameless c) (nameless a) (nameless d)

  all_nameless : {m : _} (row : Row_of-Expr m) → Tells (is_empty (names_in_row row)) (AllNamesOnly nothing row)
  all_nameless end_of-Expr = yes tt
  all_nameless (more_of-Expr a rest) = both_empty (names_in a) (names_in_row rest) (NamesOnly nothing a) (AllNamesOnly nothing rest) (nameless a) (all_nameless rest)

part_tells : (span : Span) (a c : Expr) → Tells (is_part_constant span a c) (IsPartConstant nothing span a c)
part_tells w.Fixed a c = and (nameless a) (nameless c)
part_tells w.Up a c = nameless c
part_tells w.Down a c = nameless c

division_tells : (op : Binary) (a c : Expr) → Tells (is_division_constant op a c) (IsDivisionConstant nothing op a c)
division_tells b.Div a c = and (nameless a) (nameless c)
division_tells b.Rem a c = and (nameless a) (nameless c)
division_tells b.Mul a c = yes tt
division_tells b.Add a c = yes tt
division_tells b.Sub a c = yes tt
division_tells b.Shl a c = yes tt
division_tells b.Shr a c = yes tt
division_tells b.ArithmeticShl a c = yes tt
division_tells b.ArithmeticShr a c = yes tt
division_tells b.Less a c = yes tt
division_tells b.LessEqual a c = yes tt
division_tells b.Greater a c = yes tt
division_tells b.GreaterEqual a c = yes tt
division_tells b.Equal a c = yes tt
division_tells b.NotEqual a c = yes tt
division_tells b.BitAnd a c = yes tt
division_tells b.BitXor a c = yes tt
division_tells b.BitXnor a c = yes tt
division_tells b.BitOr a c = yes tt
division_tells b.LogicalAnd a c = yes tt
division_tells b.LogicalOr a c = yes tt

mutual
  pub constant_tells : (a : Expr) → Tells (has_constant_parts a) (HasConstantParts nothing a)
  constant_tells (e.Number n) = yes tt
  constant_tells (e.Name x) = yes tt
  constant_tells (e.Select' x h (more_of-Expr a end_of-Expr)) = constant_tells a
  constant_tells (e.Part' x span h (more_of-Expr a end_of-Expr) g (more_of-Expr c end_of-Expr)) = three _ _ _ (constant_tells a) (constant_tells c) (part_tells span a c)
  constant_tells (e.ConstantSelect' k h (more_of-Expr a end_of-Expr)) = constant_tells a
  constant_tells (e.ConstantPart' k span h (more_of-Expr a end_of-Expr) g (more_of-Expr c end_of-Expr)) = three _ _ _ (constant_tells a) (constant_tells c) (part_tells span a c)
  constant_tells (e.Cast' cast h (more_of-Expr a end_of-Expr)) = constant_tells a
  constant_tells (e.Paren' h (more_of-Expr a end_of-Expr)) = constant_tells a
  constant_tells (e.Concat' h row) = all_tell row
  constant_tells (e.Repeat' h (more_of-Expr a end_of-Expr) g row) = three _ _ _ (constant_tells a) (nameless a) (all_tell row)
  constant_tells (e.Unary' op h (more_of-Expr a end_of-Expr)) = constant_tells a
  constant_tells (e.Binary' op h (more_of-Expr a end_of-Expr) g (more_of-Expr c end_of-Expr)) = three _ _ _ (constant_tells a) (constant_tells c) (division_tells op a c)
  constant_tells (e.Choice' h (more_of-Expr c end_of-Expr) g (more_of-Expr a end_of-Expr) i (more_of-Expr d end_of-Expr)) =
      three _ _ _ (constant_tells c) (constant_tells a) (constant_tells d)

  all_tell : {m : _} (row : Row_of-Expr m) → Tells (all_have_constant_parts row) (AllHaveConstantParts nothing row)
  all_tell end_of-Expr = yes tt
  all_tell (more_of-Expr a rest) = and (constant_tells a) (all_tell rest)

pub constant_holds : (a : Expr) → has_constant_parts a ≡ true → HasConstantParts nothing a
constant_holds a h = (constant_tells a).holds h

pub constant_fails : (a : Expr) → has_constant_parts a ≡ false → HasConstantParts nothing a → ⊥
constant_fails a h p = let g : has_constant_parts a ≡ true = (constant_tells a).held p in absurd (cc)
