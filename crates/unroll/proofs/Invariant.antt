-- Invariants read the first row alone.
use Rattle.std.proofs.Common.{◌≡◌, ℕ, zero, suc, ◌<◌, ◌≤◌, Some, None, List, [], ◌∷◌, ◌++◌, length, map, get_or, refl, sym, ap, ◌∙◌, arith}
use Rattle.std.specs.Prelude.{slice_get}
use Rattle.std.specs.List.{All}
use Rattle.std.proofs.lemmas.List.Elements.{All-cons, All-head, All-nil, All-tail}
use Rattle.set_tree.specs.declared.set.Rule.{Rule}
use Rattle.set_tree.specs.declared.set.Set.{Set}
use Rattle.set_tree_structure.specs.Condition.{IsFormula}
use Rattle.twin_tests.specs.Building.{IsReadable}
use Rattle.twin_tests.specs.Reading.{HasStructure}
use Rattle.twin_tests.proofs.Loops.{member_is}

all_left : {X : Type 0} (P : X → Type 0) (xs ys : List X) → All P (xs ++ ys) → All P xs
all_left P [] ys h = All-nil P
all_left P (x ∷ xs) ys h = All-cons P x xs (All-head P x (xs ++ ys) h) (all_left P xs ys (All-tail P x (xs ++ ys) h))

all_right : {X : Type 0} (P : X → Type 0) (xs ys : List X) → All P (xs ++ ys) → All P ys
all_right P [] ys h = h
all_right P (x ∷ xs) ys h = all_right P xs ys (All-tail P x (xs ++ ys) h)

all_mapped : {X A : Type 0} (P : A → Type 0) (f : X → A) (xs : List X) → All P (map f xs) → All (λ x. P (f x)) xs
all_mapped P f [] h = All-nil (λ x. P (f x))
all_mapped P f (x ∷ xs) h = All-cons (λ x. P (f x)) x xs (All-head P (f x) (map f xs) h) (all_mapped P f xs (All-tail P (f x) (map f xs) h))

invariants_formed : (set : Set) → HasStructure set → All (λ (r : Rule). IsFormula set r.formula) set.invariants
invariants_formed set s =
    let all = s.formed.formulas in
    all_mapped (IsFormula set) (λ (r : Rule). r.formula) set.invariants (all_right (IsFormula set) (map (λ (r : Rule). r.formula) set.constraints) _ (all_left (IsFormula set) _ _ (all_left (IsFormula set) _ _ (all_left (IsFormula set) _ _ all))))

pub invariant_readable : (set : Set) → HasStructure set → (i k : ℕ) (rule : Rule) → i < length set.invariants → rule ≡ get_or set.invariants i rule → 0 < k → IsReadable set k rule.formula
invariant_readable set s i k rule lt is some = record {
  formed = member_is (λ (r : Rule). IsFormula set r.formula) set.invariants i rule is lt (invariants_formed set s);
  fits = let least = s.sound.offsets.invariants rule (i, lt, sym is) in omega (arith, least, some);
}

get_at : {A : Type 0} (xs : List A) (i : ℕ) (x : A) → i < length xs → x ≡ get_or xs i x → slice_get xs i ≡ Some x
get_at [] i x lt is = absurd (omega arith)
get_at (y ∷ xs) zero x lt is = ap (λ z. Some z) (sym is)
get_at (y ∷ xs) (suc i) x lt is = get_at xs i x (omega arith) is

get_past : {A : Type 0} (xs : List A) (i : ℕ) → length xs ≤ i → slice_get xs i ≡ None
get_past [] i le = refl
get_past (y ∷ xs) zero le = absurd (omega arith)
get_past (y ∷ xs) (suc i) le = get_past xs i (omega arith)

pub got : {A : Type 0} (xs ys : List A) (i : ℕ) (x : A) → xs ≡ ys → i < length xs → x ≡ get_or xs i x → slice_get ys i ≡ Some x
got xs ys i x same lt is = ap (λ zs. slice_get zs i) (sym same) ∙ get_at xs i x lt is

pub none_got : {A : Type 0} (xs ys : List A) (i : ℕ) → xs ≡ ys → length xs ≤ i → slice_get ys i ≡ None
none_got xs ys i same le = ap (λ zs. slice_get zs i) (sym same) ∙ get_past xs i le
