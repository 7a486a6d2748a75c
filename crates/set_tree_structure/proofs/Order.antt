-- The first candidate that stands; and that nothing stands where no candidate does.
use Rattle.std.proofs.Common.{◌≡◌, ℕ, zero, suc, ◌+◌, ◌<◌, Bool, true, false, List, [], ◌∷◌, ◌++◌, length, map, get_or, Option, Some, None, arith, refl, sym, ap, ◌∙◌, subst, ⊎_elim}
use Rattle.std.specs.List.{find, flat_map, All}
use Rattle.std.specs.Option.{option_or}
use Rattle.std.proofs.lemmas.Bool.{cases_Bool}
use Rattle.std.proofs.lemmas.List.Elements.{All-nil, All-cons, All-weaker}
use Rattle.std.proofs.lemmas.List.Folds.{find-append}
use Rattle.std.proofs.lemmas.Option.{slice_get_within}
use Rattle.set_tree.specs.declared.set.Set.{Set}
use Rattle.set_tree.specs.Parts.{property_at, IsPosition, IsOutput}
use Rattle.set_tree_structure.specs.declared.fault.GraphFault.{GraphFault}
use Rattle.set_tree_structure.specs.declared.fault.GraphFault.TheVariants as g
use Rattle.set_tree_structure.specs.declared.fault.Place.TheVariants as at
use Rattle.set_tree_structure.specs.Condition.{IsWellFormed}
use Rattle.set_tree_structure.specs.Faults.{Stands, IsFirst, positions, candidates, invariant_faults, domain_faults, cover_faults, property_faults, edge_faults, edges_faults}
use Rattle.set_tree_structure.specs.Tests.{stands, first_fault}
use Rattle.set_tree_structure.proofs.Standing.{Decides-fault}

module _ (p : GraphFault → Bool) where
  neither : (x y : Option GraphFault) → option_or x y ≡ None → (x ≡ None) × (y ≡ None)
  neither None y h = (refl, h)
  neither (Some x) y h = cc

  -- what is found nowhere isn't found in a part
  none_append : (xs ys : List GraphFault) → find p (xs ++ ys) ≡ None → (find p xs ≡ None) × (find p ys ≡ None)
  none_append xs ys h = neither (find p xs) (find p ys) (sym (find-append p xs ys) ∙ h)

  none_cons : (x : GraphFault) (xs : List GraphFault) → find p (x ∷ xs) ≡ None → (p x ≡ false) × (find p xs ≡ None)
  none_cons x xs h = ⊎_elim
      (λ (t : p x ≡ true). let some : find p (x ∷ xs) ≡ Some x = rw t refl in cc)
      (λ (f : p x ≡ false). (f, rw f at h))
      (cases_Bool (p x))

  none_map : (f : ℕ → GraphFault) (j n k i : ℕ) → find p (map f (positions j n)) ≡ None → k < n → j + k ≡ i → p (f i) ≡ false
  none_map f j zero k i h lt is = absurd (omega arith)
  none_map f j (suc n) zero i h lt is =
      let same : j ≡ i = omega arith in
      subst (λ (m : ℕ). p (f m) ≡ false) same (none_cons (f j) (map f (positions (suc j) n)) h).0
  none_map f j (suc n) (suc k) i h lt is = none_map f (suc j) n k i (none_cons (f j) (map f (positions (suc j) n)) h).1 (omega arith) (omega arith)

  none_flat : (f : ℕ → List GraphFault) (j n k i : ℕ) → find p (flat_map f (positions j n)) ≡ None → k < n → j + k ≡ i → find p (f i) ≡ None
  none_flat f j zero k i h lt is = absurd (omega arith)
  none_flat f j (suc n) zero i h lt is =
      let same : j ≡ i = omega arith in
      subst (λ (m : ℕ). find p (f m) ≡ None) same (none_append (f j) (flat_map f (positions (suc j) n)) h).0
  none_flat f j (suc n) (suc k) i h lt is = none_flat f (suc j) n k i (none_append (f j) (flat_map f (positions (suc j) n)) h).1 (omega arith) (omega arith)

  none_each : (f : ℕ → List GraphFault) (qs : List ℕ) (k q : ℕ) → find p (flat_map f qs) ≡ None → k < length qs → get_or qs k q ≡ q → find p (f q) ≡ None
  none_each f [] k q h lt is = absurd (omega arith)
  none_each f (x ∷ qs) zero q h lt is = subst (λ (m : ℕ). find p (f m) ≡ None) is (none_append (f x) (flat_map f qs) h).0
  none_each f (x ∷ qs) (suc k) q h lt is = none_each f qs k q (none_append (f x) (flat_map f qs) h).1 (omega arith) is

  -- what is found, with what stands before and after it
  found : (xs : List GraphFault) (f : GraphFault) → find p xs ≡ Some f → (before after : List GraphFault) × (xs ≡ before ++ f ∷ after) × (p f ≡ true) × All (λ x. p x ≡ false) before
  found [] f h = cc
  found (x ∷ xs) f h = ⊎_elim
      (λ (t : p x ≡ true).
      let some : Some x ≡ Some f = rw t at h in
      let same : x ≡ f = cc in
      ([], xs, ap (λ (y : GraphFault). y ∷ xs) same, subst (λ (y : GraphFault). p y ≡ true) same t, All-nil (λ x. p x ≡ false)))
      (λ (miss : p x ≡ false).
      let rest = found xs f (rw miss at h) in
      (x ∷ rest.0, rest.1, ap (λ (ys : List GraphFault). x ∷ ys) rest.2, rest.3, All-cons (λ x. p x ≡ false) x rest.0 miss rest.4))
      (cases_Bool (p x))

-- the first of the candidates
pub first_stands : (set : Set) → IsWellFormed set → (f : GraphFault) → first_fault set ≡ Some f → IsFirst set f
first_stands set formed f h =
    let split = found (stands set) (candidates set) f h in
    record {
      earlier = split.0;
      later = split.1;
      order = split.2;
      stands = (Decides-fault set formed f).0 split.3;
      first = All-weaker (λ x. stands set x ≡ false) (λ x. ¬ Stands set x) (λ x miss here. let t : stands set x ≡ true = (Decides-fault set formed x).1 here in cc) split.0 split.4;
    }

-- the output at a position is one of the names
output_within : (set : Set) (o : ℕ) → IsOutput set o → o < length set.names
output_within set o output = slice_get_within set.names o output.0 output.1

module _ (set : Set) (formed : IsWellFormed set) (none : first_fault set ≡ None) where
  rest : find (stands set) (invariant_faults set ++ (domain_faults set ++ (flat_map (property_faults set) (positions 0 (suc (length set.operations))) ++ flat_map (edges_faults set) (positions 0 (suc (length set.operations)))))) ≡ None
  rest = (none_cons (stands set) g.HandAtReset _ none).1

  after_invariants : find (stands set) (domain_faults set ++ (flat_map (property_faults set) (positions 0 (suc (length set.operations))) ++ flat_map (edges_faults set) (positions 0 (suc (length set.operations))))) ≡ None
  after_invariants = (none_append (stands set) (invariant_faults set) _ rest).1

  after_domains : find (stands set) (flat_map (property_faults set) (positions 0 (suc (length set.operations))) ++ flat_map (edges_faults set) (positions 0 (suc (length set.operations)))) ≡ None
  after_domains = (none_append (stands set) (domain_faults set) _ after_invariants).1

  of_property : (p : ℕ) → IsPosition set p → find (stands set) (property_faults set p) ≡ None
  of_property p within =
      let both = none_append (stands set) (flat_map (property_faults set) (positions 0 (suc (length set.operations)))) (flat_map (edges_faults set) (positions 0 (suc (length set.operations)))) after_domains in
      none_flat (stands set) (property_faults set) 0 (suc (length set.operations)) p p both.0 (omega arith) (omega arith)

  of_edges : (p : ℕ) → IsPosition set p → find (stands set) (edges_faults set p) ≡ None
  of_edges p within =
      let both = none_append (stands set) (flat_map (property_faults set) (positions 0 (suc (length set.operations)))) (flat_map (edges_faults set) (positions 0 (suc (length set.operations)))) after_domains in
      none_flat (stands set) (edges_faults set) 0 (suc (length set.operations)) p p both.1 (omega arith) (omega arith)

  -- a fault that stands is a candidate, so its test fails
  fails : (f : GraphFault) → Stands set f → stands set f ≡ false
  fails g.HandAtReset h = (none_cons (stands set) g.HandAtReset _ none).0
  fails (g.Offset (at.Invariant i)) h =
      none_map (stands set) (λ i. g.Offset (at.Invariant i)) 0 (length set.invariants) i i (none_append (stands set) (invariant_faults set) _ rest).0 (slice_get_within set.invariants i h.0 h.1) (omega arith)
  fails (g.Offset (at.Output o)) h =
      none_map (stands set) (λ o. g.Offset (at.Output o)) 0 (length set.names) o o (none_append (stands set) (domain_faults set) _ after_invariants).0 (slice_get_within set.names o h.0 h.2) (omega arith)
  fails (g.IntoReset p) h = (none_cons (stands set) (g.IntoReset p) (g.Offset (at.Property p) ∷ cover_faults set p) (of_property p h.0)).0
  fails (g.Offset (at.Property p)) h =
      (none_cons (stands set) (g.Offset (at.Property p)) (cover_faults set p) (none_cons (stands set) (g.IntoReset p) (g.Offset (at.Property p) ∷ cover_faults set p) (of_property p h.0)).1).0
  fails (g.Cover p o) h =
      let rows = (none_cons (stands set) (g.Offset (at.Property p)) (cover_faults set p) (none_cons (stands set) (g.IntoReset p) (g.Offset (at.Property p) ∷ cover_faults set p) (of_property p h.0)).1).1 in
      none_map (stands set) (λ o. g.Cover p o) 0 (length set.names) o o rows (output_within set o h.1) (omega arith)
  fails (g.Tile p q o) h =
      let rows = none_each (stands set) (edge_faults set p) (property_at set p).next h.1.0 q (of_edges p h.0) h.1.1 h.1.2 in
      none_map (stands set) (λ o. g.Tile p q o) 0 (length set.names) o o rows (output_within set o h.2) (omega arith)

  pub none_stand : (f : GraphFault) → ¬ Stands set f
  none_stand f h = let t : stands set f ≡ true = (Decides-fault set formed f).1 h in let e = fails f h in cc
