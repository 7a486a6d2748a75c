-- The first of several faults that stands, as loops come to it.
use Rattle.std.proofs.Common.{◌≡◌, ℕ, zero, suc, ◌+◌, ◌-◌, ◌<◌, ◌≤◌, ◌&&◌, not, Bool, true, false, List, [], ◌∷◌, ◌++◌, length, map, drop, get_or, Option, Some, None, arith, refl, sym, ap, ◌∙◌}
use Rattle.std.specs.List.{find, flat_map}
use Rattle.std.specs.Option.{option_or}
use Rattle.std.proofs.lemmas.List.{drop_more}
use Rattle.std.proofs.lemmas.List.Folds.{find-append}
use Rattle.std.proofs.lemmas.Option.{slice_get_read, slice_get_within, slice_get-get_or, get_or_from_slice_get}
use Rattle.set_tree.specs.Parts.{property_at, IsPosition}
use Rattle.set_tree.specs.declared.set.Name.{Name}
use Rattle.set_tree.specs.declared.set.Property.{Property}
use Rattle.set_tree.specs.declared.set.Rule.{Rule}
use Rattle.set_tree.specs.declared.set.Set.{Set}
use Rattle.set_tree_structure.specs.declared.fault.GraphFault.{GraphFault}
use Rattle.set_tree_structure.specs.declared.fault.GraphFault.TheVariants as g
use Rattle.set_tree_structure.specs.declared.fault.Place.TheVariants as at
use Rattle.set_tree_structure.specs.Faults.{positions}
use Rattle.set_tree_structure.specs.Tests.{find_property, reads_within, reads_ahead, is_output_at, has_cover, stands}

-- ---- positions

positions_more : (j i n : ℕ) → i < n → positions j (n - i) ≡ j ∷ positions (j + 1) (n - (i + 1))
positions_more j i n lt =
    let e : n - i ≡ suc (n - (i + 1)) = omega arith in
    let f : suc j ≡ j + 1 = omega arith in
    rw (e, f) refl

positions_done : (j i n : ℕ) → n ≤ i → positions j (n - i) ≡ []
positions_done j i n le = let e : n - i ≡ 0 = omega arith in rw e refl

module _ (p : GraphFault → Bool) where
  pub map_next : (f : ℕ → GraphFault) (j i n : ℕ) (w : Option GraphFault) → i < n → p (f j) ≡ false → find p (map f (positions j (n - i))) ≡ w → find p (map f (positions (j + 1) (n - (i + 1)))) ≡ w
  map_next f j i n w lt miss is = sym (rw (positions_more j i n lt, miss) refl) ∙ is

  pub map_here : (f : ℕ → GraphFault) (j i n : ℕ) (w : Option GraphFault) → i < n → p (f j) ≡ true → find p (map f (positions j (n - i))) ≡ w → Some (f j) ≡ w
  map_here f j i n w lt hit is = sym (rw (positions_more j i n lt, hit) refl) ∙ is

  pub map_end : (f : ℕ → GraphFault) (j i n : ℕ) (w : Option GraphFault) → n ≤ i → find p (map f (positions j (n - i))) ≡ w → None ≡ w
  map_end f j i n w le is = sym (rw (positions_done j i n le) refl) ∙ is

  pub flat_next : (h : ℕ → List GraphFault) (j i n : ℕ) (w : Option GraphFault) → i < n → None ≡ find p (h j) → find p (flat_map h (positions j (n - i))) ≡ w → find p (flat_map h (positions (j + 1) (n - (i + 1)))) ≡ w
  flat_next h j i n w lt miss is =
      let e = find-append p (h j) (flat_map h (positions (j + 1) (n - (i + 1)))) in
      sym (rw (positions_more j i n lt, e, sym miss) refl) ∙ is

  pub flat_here : (h : ℕ → List GraphFault) (j i n : ℕ) (fault : GraphFault) (w : Option GraphFault) → i < n → Some fault ≡ find p (h j) → find p (flat_map h (positions j (n - i))) ≡ w → Some fault ≡ w
  flat_here h j i n fault w lt hit is =
      let e = find-append p (h j) (flat_map h (positions (j + 1) (n - (i + 1)))) in
      sym (rw (positions_more j i n lt, e, sym hit) refl) ∙ is

  pub flat_end : (h : ℕ → List GraphFault) (j i n : ℕ) (w : Option GraphFault) → n ≤ i → find p (flat_map h (positions j (n - i))) ≡ w → None ≡ w
  flat_end h j i n w le is = sym (rw (positions_done j i n le) refl) ∙ is

  pub each_next : (h : ℕ → List GraphFault) (qs : List ℕ) (i q : ℕ) (w : Option GraphFault) → i < length qs → q ≡ get_or qs i 0 → None ≡ find p (h q) → find p (flat_map h (drop i qs)) ≡ w → find p (flat_map h (drop (i + 1) qs)) ≡ w
  each_next h qs i q w lt at miss is =
      let e = find-append p (h q) (flat_map h (drop (i + 1) qs)) in
      let d : drop i qs ≡ q ∷ drop (i + 1) qs = drop_more qs i 0 lt ∙ ap (λ (x : ℕ). x ∷ drop (i + 1) qs) (sym at) in
      sym (rw (d, e, sym miss) refl) ∙ is

  pub each_here : (h : ℕ → List GraphFault) (qs : List ℕ) (i q : ℕ) (fault : GraphFault) (w : Option GraphFault) → i < length qs → q ≡ get_or qs i 0 → Some fault ≡ find p (h q) → find p (flat_map h (drop i qs)) ≡ w → Some fault ≡ w
  each_here h qs i q fault w lt at hit is =
      let e = find-append p (h q) (flat_map h (drop (i + 1) qs)) in
      let d : drop i qs ≡ q ∷ drop (i + 1) qs = drop_more qs i 0 lt ∙ ap (λ (x : ℕ). x ∷ drop (i + 1) qs) (sym at) in
      sym (rw (d, e, sym hit) refl) ∙ is

  -- a fault in front of four lists
  module _ (x : GraphFault) (ws bs cs ds : List GraphFault) (clear : p x ≡ false) where
    in_front : find p (x ∷ ws ++ (bs ++ (cs ++ ds))) ≡ option_or (find p ws) (option_or (find p bs) (option_or (find p cs) (find p ds)))
    in_front = rw (clear, find-append p ws (bs ++ (cs ++ ds)), find-append p bs (cs ++ ds), find-append p cs ds) refl

    pub in_first : (r : GraphFault) → Some r ≡ find p ws → Some r ≡ find p (x ∷ ws ++ (bs ++ (cs ++ ds)))
    in_first r hit = sym (in_front ∙ rw (sym hit) refl)

    pub in_second : (r : GraphFault) → None ≡ find p ws → Some r ≡ find p bs → Some r ≡ find p (x ∷ ws ++ (bs ++ (cs ++ ds)))
    in_second r a hit = sym (in_front ∙ rw (sym a, sym hit) refl)

    pub in_third : (r : GraphFault) → None ≡ find p ws → None ≡ find p bs → Some r ≡ find p cs → Some r ≡ find p (x ∷ ws ++ (bs ++ (cs ++ ds)))
    in_third r a b hit = sym (in_front ∙ rw (sym a, sym b, sym hit) refl)

    pub in_last : (r : Option GraphFault) → None ≡ find p ws → None ≡ find p bs → None ≡ find p cs → r ≡ find p ds → r ≡ find p (x ∷ ws ++ (bs ++ (cs ++ ds)))
    in_last r a b c hit = sym (in_front ∙ rw (sym a, sym b, sym c) (sym hit))

-- ---- what the test of a fault is

pub invariant_stands : (set : Set) (i : ℕ) (rule : Rule) → i < length set.invariants → rule ≡ get_or set.invariants i rule → stands set (g.Offset (at.Invariant i)) ≡ not (reads_within 0 rule.formula)
invariant_stands set i rule lt is = let e = slice_get_read set.invariants (length set.invariants) i rule refl lt is in rw e refl

pub domain_stands : (set : Set) (i : ℕ) (name : Name) → i < length set.names → name ≡ get_or set.names i name → stands set (g.Offset (at.Output i)) ≡ reads_ahead name.domain
domain_stands set i name lt is = let e = slice_get_read set.names (length set.names) i name refl lt is in rw e refl

pub cover_stands : (set : Set) (p o : ℕ) (x : Property) → find_property set p ≡ Some x → stands set (g.Cover p o) ≡ (is_output_at set o && not (has_cover p x o))
cover_stands set p o x is = rw is refl

-- a property that is found is the one at its position
pub find_is_at : (set : Set) (p : ℕ) (x : Property) → find_property set p ≡ Some x → property_at set p ≡ x
find_is_at set zero x is = let e : set.first ≡ x = cc in e
find_is_at set (suc i) x is = get_or_from_slice_get set.operations i x set.first is

pub find_within : (set : Set) (p : ℕ) (x : Property) → find_property set p ≡ Some x → IsPosition set p
find_within set zero x is = omega arith
find_within set (suc i) x is = let lt = slice_get_within set.operations i x is in omega (arith, lt)

pub find_at : (set : Set) (p : ℕ) → IsPosition set p → find_property set p ≡ Some (property_at set p)
find_at set zero within = refl
find_at set (suc i) within = let lt : i < length set.operations = omega arith in slice_get-get_or set.operations i set.first lt

pub no_hand : (set : Set) (n : ℕ) → n ≡ length set.first.hand → n ≡ 0 → stands set g.HandAtReset ≡ false
no_hand set n is none = let e : length set.first.hand ≡ 0 = sym is ∙ none in rw e refl
