-- Where the faults of a set's structure stand, and in which order they are told.
use Rattle.std.specs.Prelude.{◌≡◌, ◌≢◌, ℕ, zero, suc, ◌+◌, ◌<◌, ◌≤◌, nat_eq, List, [], ◌∷◌, ◌++◌, length, map, Some, slice_get}
use Rattle.std.specs.List.{Contains, All, count_by, flat_map}
use Rattle.vlog_tree.specs.declared.expr.Expr.{Expr}
use Rattle.set_tree.specs.declared.set.Cover.{Cover}
use Rattle.set_tree.specs.declared.set.Name.{Name}
use Rattle.set_tree.specs.declared.set.Rule.{Rule}
use Rattle.set_tree.specs.declared.set.Set.{Set}
use Rattle.set_tree.specs.Formulas.{largest_offset}
use Rattle.set_tree.specs.Parts.{property_at, window_of, cover_end, IsPosition, IsOutput}
use Rattle.set_tree.specs.Structure.{IsCover}
use Rattle.set_tree_structure.specs.declared.fault.GraphFault.{GraphFault}
use Rattle.set_tree_structure.specs.declared.fault.GraphFault.TheVariants as g
use Rattle.set_tree_structure.specs.declared.fault.Place.TheVariants as at

-- no formula of P reads above its window, and its condition reads offset 0 alone
pub record KeepsWindow (set : Set) (p : ℕ) : Type 0 where
  pub assumptions : All (λ e. largest_offset e ≤ window_of set p) (property_at set p).assume
  pub commitments : All (λ e. largest_offset e ≤ window_of set p) (property_at set p).commit
  pub hands : All (λ e. largest_offset e ≤ window_of set p) (property_at set p).hand
  pub until : (e : Expr) → (property_at set p).length.until ≡ Some e → largest_offset e ≡ 0

-- P has one cover of the output; it keeps the bounds of covers, and in reset it begins at 0
pub record HasCover (set : Set) (p o : ℕ) : Type 0 where
  pub one : count_by (λ c. nat_eq c.output o) (property_at set p).covers ≡ 1
  pub bounds : (cover : Cover) → Contains (property_at set p).covers cover → cover.output ≡ o → IsCover (property_at set p) cover
  pub start : (cover : Cover) → p ≡ 0 → Contains (property_at set p).covers cover → cover.output ≡ o → cover.from ≡ 0

-- wherever P ends, its cover of the output ends where that of Q begins
abbrev pub Meets : Set → ℕ → ℕ → ℕ → Type 0
Meets set p q o =
    (cover next : Cover) (n : ℕ) → Contains (property_at set p).covers cover → Contains (property_at set q).covers next
    → cover.output ≡ o → next.output ≡ o → (property_at set p).length.low ≤ n → n ≤ (property_at set p).length.high
    → cover_end cover.to n ≡ n + next.from

-- where each fault stands
abbrev pub Stands : Set → GraphFault → Type 0
Stands set g.HandAtReset = set.first.hand ≢ []
Stands set (g.Offset (at.Invariant i)) = (rule : Rule) × (slice_get set.invariants i ≡ Some rule) × (0 < largest_offset rule.formula)
Stands set (g.Offset (at.Output o)) = (name : Name) × (e : Expr) × (slice_get set.names o ≡ Some name) × (name.domain ≡ Some e) × (0 < largest_offset e)
Stands set (g.Offset (at.Property p)) = IsPosition set p × ¬ KeepsWindow set p
Stands set (g.IntoReset p) = IsPosition set p × Contains (property_at set p).next 0
Stands set (g.Cover p o) = IsPosition set p × IsOutput set o × ¬ HasCover set p o
Stands set (g.Tile p q o) = IsPosition set p × Contains (property_at set p).next q × IsOutput set o × ¬ Meets set p q o

-- ---- the order: what reset hands over, invariants, domains, each property by itself, edges

-- n positions, from i on
abbrev pub positions : ℕ → ℕ → List ℕ
positions i zero = []
positions i (suc n) = i ∷ positions (suc i) n

abbrev pub invariant_faults : Set → List GraphFault
invariant_faults set = map (λ i. g.Offset (at.Invariant i)) (positions 0 (length set.invariants))

abbrev pub domain_faults : Set → List GraphFault
domain_faults set = map (λ o. g.Offset (at.Output o)) (positions 0 (length set.names))

-- those of a property, its covers by outputs; none stands at a position that is no output's
abbrev pub cover_faults : Set → ℕ → List GraphFault
cover_faults set p = map (λ o. g.Cover p o) (positions 0 (length set.names))

abbrev pub property_faults : Set → ℕ → List GraphFault
property_faults set p = g.IntoReset p ∷ g.Offset (at.Property p) ∷ cover_faults set p

-- those of the edges from a property, by outputs
abbrev pub edge_faults : Set → ℕ → ℕ → List GraphFault
edge_faults set p q = map (λ o. g.Tile p q o) (positions 0 (length set.names))

abbrev pub edges_faults : Set → ℕ → List GraphFault
edges_faults set p = flat_map (edge_faults set p) (property_at set p).next

-- all that may stand, in order
abbrev pub candidates : Set → List GraphFault
candidates set =
    let all = positions 0 (suc (length set.operations)) in
    g.HandAtReset ∷ invariant_faults set ++ (domain_faults set ++ (flat_map (property_faults set) all ++ flat_map (edges_faults set) all))

-- a fault stands, and none of those before it does
pub record IsFirst (set : Set) (fault : GraphFault) : Type 0 where
  pub earlier : List GraphFault
  pub later : List GraphFault
  pub order : candidates set ≡ earlier ++ fault ∷ later
  pub stands : Stands set fault
  pub first : All (λ f. ¬ Stands set f) earlier
