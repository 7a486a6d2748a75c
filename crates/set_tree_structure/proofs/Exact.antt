-- No fault stands exactly where the structure is sound.
use Rattle.std.proofs.Common.{◌≡◌, ◌≢◌, ℕ, zero, suc, ◌<◌, Bool, true, false, List, [], ◌∷◌, length, arith, refl, sym, ◌∙◌, subst, ⊎_elim}
use Rattle.std.specs.Bool.{Decides}
use Rattle.std.specs.List.{Contains}
use Rattle.std.proofs.lemmas.Bool.{cases_Bool}
use Rattle.std.proofs.lemmas.Option.{slice_get_read, slice_get_within, get_or_from_slice_get}
use Rattle.vlog_tree.specs.declared.expr.Expr.{Expr}
use Rattle.set_tree.specs.declared.set.Set.{Set}
use Rattle.set_tree.specs.Formulas.{largest_offset, meaning_of}
use Rattle.set_tree.specs.Parts.{property_at, IsPosition, IsOperation, IsOutput}
use Rattle.set_tree.specs.Structure.{IsSound, KeepsOffsets}
use Rattle.set_tree_structure.specs.declared.fault.GraphFault.{GraphFault}
use Rattle.set_tree_structure.specs.declared.fault.GraphFault.TheVariants as g
use Rattle.set_tree_structure.specs.declared.fault.Place.TheVariants as at
use Rattle.set_tree_structure.specs.Condition.{IsWellFormed}
use Rattle.set_tree_structure.specs.Faults.{KeepsWindow, HasCover, Meets, Stands}
use Rattle.set_tree_structure.proofs.Decided.{Decides-window, Decides-cover, Decides-meets}

-- what a test decides holds where its contrary doesn't
stable : {P : Type 0} (b : Bool) → Decides b P → ¬ (¬ P) → P
stable {P} b d twice = ⊎_elim (λ (t : b ≡ true). d.0 t) (λ (f : b ≡ false). absurd (twice (λ p. let t : b ≡ true = d.1 p in cc))) (cases_Bool b)

-- a list that isn't nonempty
empty : (es : List Expr) → ¬ (es ≢ []) → es ≡ []
empty [] h = refl
empty (e ∷ es) h = absurd (h (λ is. cc))

module _ (set : Set) (formed : IsWellFormed set) (clear : (f : GraphFault) → ¬ Stands set f) where
  window : (p : ℕ) → IsPosition set p → KeepsWindow set p
  window p within = stable _ (Decides-window set p) (λ out. clear (g.Offset (at.Property p)) (within, out))

  cover : (p o : ℕ) → IsPosition set p → IsOutput set o → HasCover set p o
  cover p o within output = stable _ (Decides-cover set p o) (λ out. clear (g.Cover p o) (within, output, out))

  tile : (p q o : ℕ) → IsPosition set p → Contains (property_at set p).next q → IsOutput set o → Meets set p q o
  tile p q o within edge output = stable _ (Decides-meets set p q o (formed.bounds.lengths p within).order) (λ out. clear (g.Tile p q o) (within, edge, output, out))

  at_zero : (n : ℕ) → ¬ (0 < n) → n ≡ 0
  at_zero zero h = refl
  at_zero (suc n) h = absurd (h (omega arith))

  offsets : KeepsOffsets (meaning_of set) set
  offsets = record {
    assumptions = λ p within. (window p within).assumptions;
    commitments = λ p within. (window p within).commitments;
    hands = λ p within. (window p within).hands;
    untils = λ p e within is. (window p within).until e is;
    domains = λ o name e is domain. at_zero (largest_offset e) (λ out. clear (g.Offset (at.Output o)) (name, e, is, domain, out));
    invariants = λ rule member. at_zero (largest_offset rule.formula)
        (λ out. clear (g.Offset (at.Invariant member.0)) (rule, slice_get_read set.invariants (length set.invariants) member.0 rule refl member.1 (sym member.2), out));
  }

  -- a successor that isn't reset is an operation
  operation : (p q : ℕ) → IsPosition set p → Contains (property_at set p).next q → IsOperation set q
  operation p zero within edge = absurd (clear (g.IntoReset p) (within, edge))
  operation p (suc i) within edge = (omega arith, formed.successors p (suc i) within edge)

  pub sound : IsSound (meaning_of set) set
  sound = record {
    lengths = formed.bounds.lengths;
    reset_fixed = formed.reset_fixed;
    advances = formed.bounds.advances;
    covered = λ p o within output. (cover p o within output).one;
    covers = λ p c within member. (cover p c.output within (formed.outputs p c within member)).bounds c member refl;
    from_the_start = λ c member. (cover 0 c.output (omega arith) (formed.outputs 0 c (omega arith) member)).start c refl member refl;
    edges = operation;
    tiled = λ p q n c d within edge member after same low high. tile p q c.output within edge (formed.outputs p c within member) c d n member after refl (sym same) low high;
    reset_hands_nothing = empty set.first.hand (clear g.HandAtReset);
    offsets = offsets;
  }

-- in a sound structure no fault stands
pub none_stands : (set : Set) → IsSound (meaning_of set) set → (f : GraphFault) → Stands set f → ⊥
none_stands set s g.HandAtReset h = h s.reset_hands_nothing
none_stands set s (g.Offset (at.Invariant i)) h =
    let lt = slice_get_within set.invariants i h.0 h.1 in
    let zero' = s.offsets.invariants h.0 (i, lt, get_or_from_slice_get set.invariants i h.0 h.0 h.1) in
    omega (arith, zero', h.2)
none_stands set s (g.Offset (at.Output o)) h = let none = s.offsets.domains o h.0 h.1 h.2 h.3 in omega (arith, none, h.4)
none_stands set s (g.Offset (at.Property p)) h = h.1 (record {
  assumptions = s.offsets.assumptions p h.0;
  commitments = s.offsets.commitments p h.0;
  hands = s.offsets.hands p h.0;
  until = λ e is. s.offsets.untils p e h.0 is;
})
none_stands set s (g.IntoReset p) h = let op = s.edges p 0 h.0 h.1 in omega (arith, op.0)
none_stands set s (g.Cover p o) h = h.2 (record {
  one = s.covered p o h.0 h.1;
  bounds = λ c member same. s.covers p c h.0 member;
  start = λ c reset member same. s.from_the_start c (subst (λ (n : ℕ). Contains (property_at set n).covers c) reset member);
})
none_stands set s (g.Tile p q o) h = h.3 (λ c d n member after same next low high. s.tiled p q n c d h.0 h.1 member after (same ∙ sym next) low high)
