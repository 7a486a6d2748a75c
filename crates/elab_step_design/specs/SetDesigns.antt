-- The designs that modules are to a set.
use Rattle.std.specs.Prelude.{◌↔◌, nat_eq, Bool, List, map, if◌then◌else◌}
use Rattle.vlog_tree.specs.declared.module.Module.{Module}
use Rattle.vlog_tree_runs.specs.declared.flat.Flat.{Flat}
use Rattle.vlog_tree_runs.specs.Places.{Name, Cycle}
use Rattle.vlog_tree_runs.specs.Cycles.{IsCycleFrom, FollowsFrom, IsCycle, Follows}
use Rattle.elab_flat_laws.specs.Flattened.{KeepsRuns}
use Rattle.set_tree.specs.declared.set.Set.{Set}
use Rattle.set_tree.specs.Meaning.{Row, Meaning}
use Rattle.set_tree.specs.Runs.{Design, AreDesignLinesValid, RunsSatisfy}

-- the reset input is active
abbrev pub is_active : Set → Cycle → Bool
is_active set c = nat_eq (c set.reset) (if set.high then 1 else 0)

-- the values of the declared names
abbrev pub row_of : Set → Cycle → Row
row_of set c = map (λ n. c n.name) set.names

-- the cycles of a list of modules from its top, and of a module without instances
abbrev pub CycleFrom : List Module → Name → Type 0
CycleFrom ms top = (c : Cycle) × IsCycleFrom ms top c

abbrev pub FlatCycle : Flat → Type 0
FlatCycle f = (c : Cycle) × IsCycle f c

abbrev pub design_from : (ms : List Module) (top : Name) → Set → Design (CycleFrom ms top)
design_from ms top set = record { follows = λ c d. FollowsFrom ms top c.0 d.0; is_reset = λ c. is_active set c.0; row = λ c. row_of set c.0 }

abbrev pub flat_design : (f : Flat) → Set → Design (FlatCycle f)
flat_design f set = record { follows = λ c d. Follows f c.0 d.0; is_reset = λ c. is_active set c.0; row = λ c. row_of set c.0 }

-- ---- the laws

abbrev pub LinesAreTheSame : Type 0
LinesAreTheSame =
    (ms : List Module) (top : Name) (f : Flat) (m : Meaning) (set : Set) → KeepsRuns ms top f →
    AreDesignLinesValid (flat_design f set) m set ↔ AreDesignLinesValid (design_from ms top set) m set

abbrev pub RunsAreTheSame : Type 0
RunsAreTheSame =
    (ms : List Module) (top : Name) (f : Flat) (m : Meaning) (set : Set) → KeepsRuns ms top f → RunsSatisfy (flat_design f set) m set ↔ RunsSatisfy (design_from ms top set) m set
