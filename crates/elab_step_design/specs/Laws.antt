-- The laws of designs.
use Rattle.std.specs.Prelude.{◌↔◌}
use Rattle.set_tree.specs.declared.set.Set.{Set}
use Rattle.set_tree.specs.Meaning.{Meaning}
use Rattle.set_tree.specs.Runs.{Design, AreDesignLinesValid, RunsSatisfy}
use Rattle.elab_step_design.specs.SetDesigns.{flat_design, is_active, row_of}
use Rattle.vlog_tree_runs.specs.declared.flat.Flat.{Flat}
use Rattle.vlog_tree_runs.specs.Places.{Cycle}
use Rattle.elab_step_design.specs.Designs.{Parts, IsDesign, IsCycleOf, FollowsIn, HasRunsOf, HasOneCycle}

abbrev pub EachHasOneCycle : Type 0
EachHasOneCycle = (d : Parts) → IsDesign d → HasOneCycle d

-- the cycles of a design, and the design that it is to a set
abbrev pub DesignCycle : Parts → Type 0
DesignCycle d = (c : Cycle) × IsCycleOf d c

abbrev pub word_design : (d : Parts) → Set → Design (DesignCycle d)
word_design d set = record { follows = λ c e. FollowsIn d c.0 e.0; is_reset = λ c. is_active set c.0; row = λ c. row_of set c.0 }

abbrev pub LinesAreTheSame : Type 0
LinesAreTheSame =
    (f : Flat) (d : Parts) (m : Meaning) (set : Set) → HasRunsOf f d → AreDesignLinesValid (word_design d set) m set ↔ AreDesignLinesValid (flat_design f set) m set

abbrev pub RunsAreTheSame : Type 0
RunsAreTheSame = (f : Flat) (d : Parts) (m : Meaning) (set : Set) → HasRunsOf f d → RunsSatisfy (word_design d set) m set ↔ RunsSatisfy (flat_design f set) m set
