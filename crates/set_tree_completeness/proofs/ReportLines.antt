use Rattle.std.proofs.Common.{◌≡◌, ℕ, zero, suc, ◌+◌, ◌<◌, ◌≤◌, Bool, true, List, [], ◌∷◌, ◌++◌, length, map, get_or, slice_get, sym, ◌∙◌, ap, subst, arith, Some, inl, inr}
use Rattle.std.proofs.lemmas.List.Elements.{All-contains, Contains-append_left, Contains-append_right}
use Rattle.std.proofs.lemmas.Bool.{cases_Bool, cases_lt}
use Rattle.std.specs.List.{Contains, filter, flat_map}
use Rattle.set_tree.specs.declared.set.Set.{Set}
use Rattle.set_tree.specs.declared.line.Line.{Line}
use Rattle.set_tree.specs.declared.line.Line.TheVariants.{Base, Step, Reset, Operation, End, Split, SameEnd, Choose, Hand, Determine}
use Rattle.set_tree.specs.Meaning.{Meaning}
use Rattle.set_tree.specs.Parts.{property_at, IsPosition, HasUntil}
use Rattle.set_tree.specs.Lines.{AreValid}
use Rattle.set_tree.specs.Runs.{Design, AreDesignLinesValid}
use Rattle.set_tree.specs.Report.{numbers_from, has_until, until_operations, edge_lines, design_lines, set_lines, IsViolated, AllValid}
use Rattle.set_tree_completeness.proofs.Chain.{Contains-first, Contains-later}

contains-map : {X Y : Type 0} (f : X → Y) (xs : List X) (x : X) → (k : ℕ) → k < length xs → get_or xs k x ≡ x → Contains (map f xs) (f x)
contains-map f [] x k lt is = absurd (omega arith)
contains-map f (y ∷ xs) x zero lt is = subst (λ z. Contains (map f (y ∷ xs)) (f z)) is (Contains-first (f y) (map f xs))
contains-map f (y ∷ xs) x (suc k) lt is = Contains-later (f y) (f x) (map f xs) (contains-map f xs x k (omega arith) is)

Contains-map : {X Y : Type 0} (f : X → Y) (xs : List X) (x : X) → Contains xs x → Contains (map f xs) (f x)
Contains-map f xs x c = contains-map f xs x c.0 c.1 c.2

contains-flat_map : {X Y : Type 0} (f : X → List Y) (xs : List X) (x : X) (y : Y) → (k : ℕ) → k < length xs → get_or xs k x ≡ x → Contains (f x) y → Contains (flat_map f xs) y
contains-flat_map f [] x y k lt is in' = absurd (omega arith)
contains-flat_map f (z ∷ xs) x y zero lt is in' = Contains-append_left (f z) (flat_map f xs) y (subst (λ w. Contains (f w) y) (sym is) in')
contains-flat_map f (z ∷ xs) x y (suc k) lt is in' = Contains-append_right (f z) (flat_map f xs) y (contains-flat_map f xs x y k (omega arith) is in')

Contains-numbers_from : (p n k : ℕ) → n ≤ p → p < n + k → Contains (numbers_from n k) p
Contains-numbers_from p n zero low high = absurd (omega arith)
Contains-numbers_from p n (suc k) low high = elim (cases_lt n p) [
  | inl more ↦ Contains-later n p (numbers_from (suc n) k) (Contains-numbers_from p (suc n) k more (omega arith))
  | inr same ↦
      let is : n ≡ p = omega arith in
      subst (λ (i : ℕ). Contains (n ∷ numbers_from (suc n) k) i) is (Contains-first n (numbers_from (suc n) k))
]

contains-filter : {X : Type 0} (test : X → Bool) (xs : List X) (x : X) → (k : ℕ) → k < length xs → get_or xs k x ≡ x → test x ≡ true → Contains (filter test xs) x
contains-filter test [] x k lt is pass = absurd (omega arith)
contains-filter test (y ∷ xs) x zero lt is pass =
    let passes : test y ≡ true = ap test is ∙ pass in
    rw passes (subst (λ z. Contains (y ∷ filter test xs) z) is (Contains-first y (filter test xs)))
contains-filter test (y ∷ xs) x (suc k) lt is pass = elim (cases_Bool (test y)) [
  | inl hit ↦ rw hit (Contains-later y x (filter test xs) (contains-filter test xs x k (omega arith) is pass))
  | inr miss ↦ rw miss (contains-filter test xs x k (omega arith) is pass)
]

slice_get-contains : {X : Type 0} (xs : List X) (x : X) → (k : ℕ) → k < length xs → get_or xs k x ≡ x → slice_get xs k ≡ Some x
slice_get-contains [] x k lt is = absurd (omega arith)
slice_get-contains (y ∷ xs) x zero lt is = ap Some is
slice_get-contains (y ∷ xs) x (suc k) lt is = slice_get-contains xs x k (omega arith) is

module _ {Cycle : Type 0} (d : Design Cycle) (m : Meaning) (set : Set) where
  -- the lines of each kind stand in the list
  end_in : (p : ℕ) → HasUntil set p → Contains (until_operations set) p
  end_in p has =
      let c = Contains-numbers_from p 1 (length set.operations) (omega (arith, has.0.0)) (omega (arith, has.0.1)) in
      contains-filter (has_until set) (numbers_from 1 (length set.operations)) p c.0 c.1 c.2 has.1

  property_in : (p : ℕ) → IsPosition set p → Contains (numbers_from 0 (suc (length set.operations))) p
  property_in p at = Contains-numbers_from p 0 (suc (length set.operations)) (omega arith) (omega arith)

  edge_in : (line : ℕ → ℕ → Line) (p q : ℕ) → IsPosition set p → Contains (property_at set p).next q → Contains (edge_lines set line) (line p q)
  edge_in line p q at edge =
      let c = property_in p at in
      contains-flat_map (λ p. map (line p) (property_at set p).next) (numbers_from 0 (suc (length set.operations))) p (line p q) c.0 c.1 c.2 (Contains-map (line p) (property_at set p).next q edge)

  pub are_valid : AllValid d m set (set_lines set) → AreValid m set
  are_valid valid = record {
    end = λ p rows has v. says (End p) (Contains-append_left (map End until) _ (End p) (Contains-map End until p (end_in p has))) (rows, v);
    split = λ p n rows at v. says (Split p) (from_split (Split p) (Contains-append_left (map Split properties) _ (Split p) (Contains-map Split properties p (property_in p at)))) (n, rows, v);
    same_end = λ p xs ys has v. says (SameEnd p) (from_same_end (SameEnd p) (Contains-append_left (map SameEnd until) _ (SameEnd p) (Contains-map SameEnd until p (end_in p has)))) (xs, ys, v);
    choose = λ p q n xs ys at edge v. says (Choose p q) (from_choose (Choose p q) (Contains-append_left (edge_lines set Choose) _ (Choose p q) (edge_in Choose p q at edge))) (n, xs, ys, v);
    hand = λ p q n xs ys at edge v. says (Hand p q) (from_hand (Hand p q) (Contains-append_left (edge_lines set Hand) _ (Hand p q) (edge_in Hand p q at edge))) (n, xs, ys, v);
    determine = λ p n cover at xs ys position v. says (Determine p) (from_hand (Determine p) (Contains-append_right (edge_lines set Hand) (map Determine properties) (Determine p) (Contains-map Determine properties p (property_in p position)))) (n, cover, at, xs, ys, v);
  }
    where
      until : List ℕ
      until = until_operations set

      properties : List ℕ
      properties = numbers_from 0 (suc (length set.operations))

      says : (line : Line) → Contains (set_lines set) line → IsViolated d m set line → ⊥
      says line member = All-contains (λ line. ¬ IsViolated d m set line) (set_lines set) line valid member

      hands : List Line
      hands = edge_lines set Hand ++ map Determine properties

      chooses : List Line
      chooses = edge_lines set Choose ++ hands

      same_ends : List Line
      same_ends = map SameEnd until ++ chooses

      splits : List Line
      splits = map Split properties ++ same_ends

      from_split : (line : Line) → Contains splits line → Contains (set_lines set) line
      from_split line c = Contains-append_right (map End until) splits line c

      from_same_end : (line : Line) → Contains same_ends line → Contains (set_lines set) line
      from_same_end line c = from_split line (Contains-append_right (map Split properties) same_ends line c)

      from_choose : (line : Line) → Contains chooses line → Contains (set_lines set) line
      from_choose line c = from_same_end line (Contains-append_right (map SameEnd until) chooses line c)

      from_hand : (line : Line) → Contains hands line → Contains (set_lines set) line
      from_hand line c = from_choose line (Contains-append_right (edge_lines set Choose) hands line c)

  pub are_design_lines_valid : AllValid d m set (design_lines set) → AreDesignLinesValid d m set
  are_design_lines_valid valid = record {
    base = λ rule resets cycles member v.
        let at : slice_get set.invariants member.0 ≡ Some rule = slice_get-contains set.invariants rule member.0 member.1 member.2 in
        says (Base member.0) (Contains-append_left (map Base invariants) _ (Base member.0) (Contains-map Base invariants member.0 (invariant_in member.0 member.1))) (rule, resets, cycles, at, v);
    step = λ rule cycles member v.
        let at : slice_get set.invariants member.0 ≡ Some rule = slice_get-contains set.invariants rule member.0 member.1 member.2 in
        says (Step member.0) (from_step (Step member.0) (Contains-append_left (map Step invariants) _ (Step member.0) (Contains-map Step invariants member.0 (invariant_in member.0 member.1)))) (rule, cycles, at, v);
    reset = λ resets cycles v. says Reset (from_reset Reset (Contains-first Reset (map Operation operations))) (resets, cycles, v);
    operations = λ p cycles operation v. says (Operation p) (from_reset (Operation p) (Contains-later Reset (Operation p) (map Operation operations) (Contains-map Operation operations p (Contains-numbers_from p 1 (length set.operations) (omega (arith, operation.0)) (omega (arith, operation.1)))))) (cycles, v);
  }
    where
      invariants : List ℕ
      invariants = numbers_from 0 (length set.invariants)

      operations : List ℕ
      operations = numbers_from 1 (length set.operations)

      says : (line : Line) → Contains (design_lines set) line → IsViolated d m set line → ⊥
      says line member = All-contains (λ line. ¬ IsViolated d m set line) (design_lines set) line valid member

      invariant_in : (i : ℕ) → i < length set.invariants → Contains invariants i
      invariant_in i below = Contains-numbers_from i 0 (length set.invariants) (omega arith) (omega arith)

      resets : List Line
      resets = Reset ∷ map Operation operations

      steps : List Line
      steps = map Step invariants ++ resets

      from_step : (line : Line) → Contains steps line → Contains (design_lines set) line
      from_step line c = Contains-append_right (map Base invariants) steps line c

      from_reset : (line : Line) → Contains resets line → Contains (design_lines set) line
      from_reset line c = from_step line (Contains-append_right (map Step invariants) resets line c)
