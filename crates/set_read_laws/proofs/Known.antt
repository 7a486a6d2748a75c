-- The lines of a report are known by their names.
use Rattle.std.proofs.Common.{◌≡◌, ℕ, zero, suc, ◌+◌, ◌<◌, ◌≤◌, ◌||◌, Bool, true, false, List, [], ◌∷◌, ◌++◌, length, map, get_or, drop, refl, sym, ap, ◌∙◌, subst, arith, inl, inr}
use Rattle.std.specs.Prelude.{nat_eq, Result, Ok}
use Rattle.std.specs.List.{All, Contains, flat_map}
use Rattle.std.proofs.lemmas.List.Elements.{All-append, All-cons, All-contains, All-contains_itself, All-filter, All-head, All-map, All-nil, All-tail, All-weaker, Contains-get_or}
use Rattle.set_tree.specs.declared.line.Line.{Line}
use Rattle.set_tree.specs.declared.line.Line.TheVariants.{Base, Step, Reset, Operation, End, Split, SameEnd, Choose, Hand, Determine}
use Rattle.set_tree.specs.declared.set.Set.{Set}
use Rattle.set_tree.specs.Parts.{IsPosition, property_at}
use Rattle.set_tree.specs.Report.{design_lines, edge_lines, has_until, numbers_from, set_lines, until_operations}
use Rattle.set_tree_structure.specs.Condition.{IsWellFormed}
use Rattle.set_read.specs.declared.fault.SetFault.{SetFault}
use Rattle.set_read.specs.Read.{Spells}
use Rattle.set_read.proofs.Formed.{result_formed}
use Rattle.twin_tests_laws.specs.Names.{invariant_name, line_name, property_name}
use Rattle.set_read_laws.specs.LineNames.{LinesHaveNames}
use Rattle.set_read_laws.proofs.Coded.{coded, first, of_kind, second}
use Rattle.set_read_laws.proofs.Placed.{invariant_known, property_known}
use Rattle.set_read_laws.proofs.Plain.{IsPlain, operations_plain}
use Rattle.set_read_laws.proofs.Words.{has_space}

-- ---- what a report's lines speak of is there

abbrev Speaks : Set → Line → Type 0
Speaks set (Base i) = i < length set.invariants
Speaks set (Step i) = i < length set.invariants
Speaks set Reset = Unit {0}
Speaks set (Operation p) = IsPosition set p
Speaks set (End p) = IsPosition set p
Speaks set (Split p) = IsPosition set p
Speaks set (SameEnd p) = IsPosition set p
Speaks set (Choose p q) = IsPosition set p × IsPosition set q
Speaks set (Hand p q) = IsPosition set p × IsPosition set q
Speaks set (Determine p) = IsPosition set p

all_numbers : (P : ℕ → Type 0) (n k : ℕ) → ((i : ℕ) → n ≤ i → i < n + k → P i) → All P (numbers_from n k)
all_numbers P n zero h = All-nil P
all_numbers P n (suc k) h = All-cons P n (numbers_from (suc n) k) (h n (omega arith) (omega arith)) (all_numbers P (suc n) k (λ i low high. h i (omega (arith, low)) (omega (arith, high))))

all_flat : {A B : Type 0} (f : A → List B) (P : B → Type 0) (xs : List A) → All (λ x. All P (f x)) xs → All P (flat_map f xs)
all_flat f P [] h = All-nil P
all_flat f P (x ∷ xs) h = All-append P (f x) (flat_map f xs) (All-head (λ y. All P (f y)) x xs h) (all_flat f P xs (All-tail (λ y. All P (f y)) x xs h))

module _ (set : Set) (formed : IsWellFormed set) where
  of_invariants : (line : ℕ → Line) → ((i : ℕ) → i < length set.invariants → Speaks set (line i)) → All (Speaks set) (map line (numbers_from 0 (length set.invariants)))
  of_invariants line h = All-map (Speaks set) line (numbers_from 0 (length set.invariants)) (all_numbers (λ i. Speaks set (line i)) 0 (length set.invariants) (λ i low high. h i (omega (arith, high))))

  of_properties : (line : ℕ → Line) → ((p : ℕ) → IsPosition set p → Speaks set (line p)) → All (Speaks set) (map line (numbers_from 0 (suc (length set.operations))))
  of_properties line h = All-map (Speaks set) line (numbers_from 0 (suc (length set.operations))) (all_numbers (λ p. Speaks set (line p)) 0 (suc (length set.operations)) (λ p low high. h p (omega (arith, high))))

  of_operations : (P : ℕ → Type 0) → ((p : ℕ) → IsPosition set p → P p) → All P (numbers_from 1 (length set.operations))
  of_operations P h = all_numbers P 1 (length set.operations) (λ p low high. h p (omega (arith, high)))

  of_until : (line : ℕ → Line) → ((p : ℕ) → IsPosition set p → Speaks set (line p)) → All (Speaks set) (map line (until_operations set))
  of_until line h = All-map (Speaks set) line (until_operations set) (All-filter (has_until set) (λ p. Speaks set (line p)) (numbers_from 1 (length set.operations)) (of_operations (λ p. Speaks set (line p)) h))

  of_edges : (line : ℕ → ℕ → Line) → ((p q : ℕ) → IsPosition set p → IsPosition set q → Speaks set (line p q)) → All (Speaks set) (edge_lines set line)
  of_edges line h =
      all_flat (λ p. map (line p) (property_at set p).next) (Speaks set) (numbers_from 0 (suc (length set.operations)))
      (all_numbers (λ p. All (Speaks set) (map (line p) (property_at set p).next)) 0 (suc (length set.operations)) (λ p low high.
      let at : IsPosition set p = omega (arith, high) in
      All-map (Speaks set) (line p) (property_at set p).next
      (All-weaker (Contains (property_at set p).next) (λ q. Speaks set (line p q)) (λ q edge. h p q at (formed.successors p q at edge)) (property_at set p).next (All-contains_itself (property_at set p).next))))

  on_design : All (Speaks set) (design_lines set)
  on_design =
      All-append (Speaks set) (map Base (numbers_from 0 (length set.invariants))) _ (of_invariants Base (λ i lt. lt))
      (All-append (Speaks set) (map Step (numbers_from 0 (length set.invariants))) _ (of_invariants Step (λ i lt. lt))
      (All-cons (Speaks set) Reset (map Operation (numbers_from 1 (length set.operations))) tt
      (All-map (Speaks set) Operation (numbers_from 1 (length set.operations)) (of_operations (λ p. Speaks set (Operation p)) (λ p at. at)))))

  on_set : All (Speaks set) (set_lines set)
  on_set =
      All-append (Speaks set) (map End (until_operations set)) _ (of_until End (λ p at. at))
      (All-append (Speaks set) (map Split (numbers_from 0 (suc (length set.operations)))) _ (of_properties Split (λ p at. at))
      (All-append (Speaks set) (map SameEnd (until_operations set)) _ (of_until SameEnd (λ p at. at))
      (All-append (Speaks set) (edge_lines set Choose) _ (of_edges Choose (λ p q at to. (at, to)))
      (All-append (Speaks set) (edge_lines set Hand) _ (of_edges Hand (λ p q at to. (at, to))) (of_properties Determine (λ p at. at))))))

  speaks : (x : Line) → Contains (design_lines set ++ set_lines set) x → Speaks set x
  speaks x there = All-contains (Speaks set) (design_lines set ++ set_lines set) x (All-append (Speaks set) (design_lines set) (set_lines set) on_design on_set) there

-- ---- two names with a space between

spaceless_rest : (n : ℕ) (ns : List ℕ) → has_space (n ∷ ns) ≡ false → has_space ns ≡ false
spaceless_rest n ns h = or_right (nat_eq n 32) (has_space ns) h
  where
    or_right : (a b : Bool) → (a || b) ≡ false → b ≡ false
    or_right true b h = absurd (let no : true ≡ false = h in cc)
    or_right false b h = h

no_space_first : (n : ℕ) (ns : List ℕ) → has_space (n ∷ ns) ≡ false → 32 ≡ n → ⊥
no_space_first n ns h is =
    let no : true ≡ false = subst (λ m. (nat_eq m 32 || has_space ns) ≡ false) (sym is) h in
    absurd (cc)

parted : (a b c d : List ℕ) → has_space a ≡ false → has_space c ≡ false → a ++ 32 ∷ b ≡ c ++ 32 ∷ d → (a ≡ c) × (b ≡ d)
parted [] b [] d h k same = (refl, cc)
parted [] b (z ∷ c) d h k same = absurd (no_space_first z c k (cc))
parted (x ∷ a) b [] d h k same = absurd (no_space_first x a h (cc))
parted (x ∷ a) b (z ∷ c) d h k same =
    let head : x ≡ z = cc in
    let tail : a ++ 32 ∷ b ≡ c ++ 32 ∷ d = cc in
    let rest = parted a b c d (spaceless_rest x a h) (spaceless_rest z c k) tail in
    (ap (λ n. n ∷ a) head ∙ ap (λ ns. z ∷ ns) rest.0, rest.1)

-- ---- each kind

module _ (set : Set) (formed : IsWellFormed set) (plain : All IsPlain set.operations) where
  name_plain : (p : ℕ) → IsPosition set p → has_space (property_name set p) ≡ false
  name_plain zero at = refl
  name_plain (suc i) at = All-contains IsPlain set.operations (property_at set (suc i)) plain (Contains-get_or set.operations i set.first (omega arith))

  of_invariant : (line : ℕ → Line) (i j : ℕ) → i < length set.invariants → j < length set.invariants → invariant_name set i ≡ invariant_name set j → line i ≡ line j
  of_invariant line i j in_i in_j same = ap line (invariant_known set formed i j in_i in_j same)

  of_property : (line : ℕ → Line) (p q : ℕ) → IsPosition set p → IsPosition set q → property_name set p ≡ property_name set q → line p ≡ line q
  of_property line p q in_p in_q same = ap line (property_known set formed p q in_p in_q same)

  of_edge : (line : ℕ → ℕ → Line) (p q r s : ℕ) → IsPosition set p × IsPosition set q → IsPosition set r × IsPosition set s
      → property_name set p ++ 32 ∷ property_name set q ≡ property_name set r ++ 32 ∷ property_name set s → line p q ≡ line r s
  of_edge line p q r s from to same =
      let parts = parted (property_name set p) (property_name set q) (property_name set r) (property_name set s) (name_plain p from.0) (name_plain r to.0) same in
      ap (λ n. line n q) (property_known set formed p r from.0 to.0 parts.0) ∙ ap (λ n. line r n) (property_known set formed q s from.1 to.1 parts.1)

  -- lines of one kind with one name
  one_line : (x y : Line) → Speaks set x → Speaks set y → line_name set x ≡ line_name set y → (z : Line) → z ≡ y → Speaks set z × (line_name set x ≡ line_name set z)
  one_line x y in_x in_y same z is = (subst (λ u. Speaks set u) (sym is) in_y, same ∙ ap (λ u. line_name set u) (sym is))

  known : (x y : Line) → Speaks set x → Speaks set y → line_name set x ≡ line_name set y → x ≡ y
  known (Base i) y in_x in_y same =
      let is : Base (first y) ≡ y = of_kind set (Base i) y same in
      let z = one_line (Base i) y in_x in_y same (Base (first y)) is in
      of_invariant Base i (first y) in_x z.0 (ap (drop 5) z.1) ∙ is
  known (Step i) y in_x in_y same =
      let is : Step (first y) ≡ y = of_kind set (Step i) y same in
      let z = one_line (Step i) y in_x in_y same (Step (first y)) is in
      of_invariant Step i (first y) in_x z.0 (ap (drop 5) z.1) ∙ is
  known Reset y in_x in_y same = of_kind set Reset y same
  known (Operation p) y in_x in_y same =
      let is : Operation (first y) ≡ y = of_kind set (Operation p) y same in
      let z = one_line (Operation p) y in_x in_y same (Operation (first y)) is in
      of_property Operation p (first y) in_x z.0 (ap (drop 3) z.1) ∙ is
  known (End p) y in_x in_y same =
      let is : End (first y) ≡ y = of_kind set (End p) y same in
      let z = one_line (End p) y in_x in_y same (End (first y)) is in
      of_property End p (first y) in_x z.0 (ap (drop 4) z.1) ∙ is
  known (Split p) y in_x in_y same =
      let is : Split (first y) ≡ y = of_kind set (Split p) y same in
      let z = one_line (Split p) y in_x in_y same (Split (first y)) is in
      of_property Split p (first y) in_x z.0 (ap (drop 6) z.1) ∙ is
  known (SameEnd p) y in_x in_y same =
      let is : SameEnd (first y) ≡ y = of_kind set (SameEnd p) y same in
      let z = one_line (SameEnd p) y in_x in_y same (SameEnd (first y)) is in
      of_property SameEnd p (first y) in_x z.0 (ap (drop 9) z.1) ∙ is
  known (Choose p q) y in_x in_y same =
      let is : Choose (first y) (second y) ≡ y = of_kind set (Choose p q) y same in
      let z = one_line (Choose p q) y in_x in_y same (Choose (first y) (second y)) is in
      of_edge Choose p q (first y) (second y) in_x z.0 (ap (drop 7) z.1) ∙ is
  known (Hand p q) y in_x in_y same =
      let is : Hand (first y) (second y) ≡ y = of_kind set (Hand p q) y same in
      let z = one_line (Hand p q) y in_x in_y same (Hand (first y) (second y)) is in
      of_edge Hand p q (first y) (second y) in_x z.0 (ap (drop 5) z.1) ∙ is
  known (Determine p) y in_x in_y same =
      let is : Determine (first y) ≡ y = of_kind set (Determine p) y same in
      let z = one_line (Determine p) y in_x in_y same (Determine (first y)) is in
      of_property Determine p (first y) in_x z.0 (ap (drop 10) z.1) ∙ is

pub lines_have_names : LinesHaveNames
lines_have_names text set spelt x y in_x in_y same =
    let ok : Result Set SetFault = Ok set in
    let formed : IsWellFormed set = result_formed spelt.0 ok spelt.2 in
    known set formed (operations_plain text set spelt) x y (speaks set formed x in_x) (speaks set formed y in_y) same
