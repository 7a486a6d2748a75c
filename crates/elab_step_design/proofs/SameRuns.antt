-- A design and a module without instances that have the same cycles have the same valid lines.
use Rattle.std.proofs.Common.{refl}
use Rattle.elab_step_design.specs.SetDesigns.{FlatCycle, flat_design}
use Rattle.elab_step_design.proofs.Carried.{lines, runs}
use Rattle.vlog_tree_runs.specs.declared.flat.Flat.{Flat}
use Rattle.elab_step_design.specs.Designs.{Parts, HasRunsOf}
use Rattle.elab_step_design.specs.Laws.{DesignCycle, word_design, LinesAreTheSame, RunsAreTheSame}

abbrev to_flat : (f : Flat) (d : Parts) → HasRunsOf f d → DesignCycle d → FlatCycle f
to_flat f d h c = (c.0, (h.cycle c.0).1 c.1)

abbrev to_design : (f : Flat) (d : Parts) → HasRunsOf f d → FlatCycle f → DesignCycle d
to_design f d h c = (c.0, (h.cycle c.0).0 c.1)

pub lines_same : LinesAreTheSame
lines_same f d m set h = (
  lines (flat_design f set) (word_design d set) (to_design f d h) (λ a b k. (h.follows a.0 b.0 a.1 b.1).0 k) (λ a. refl) (λ a. refl) m set,
  lines (word_design d set) (flat_design f set) (to_flat f d h) (λ a b k. (h.follows a.0 b.0 ((h.cycle a.0).1 a.1) ((h.cycle b.0).1 b.1)).1 k) (λ a. refl) (λ a. refl) m set,
)

pub runs_same : RunsAreTheSame
runs_same f d m set h = (
  runs (flat_design f set) (word_design d set) (to_design f d h) (λ a b k. (h.follows a.0 b.0 a.1 b.1).0 k) (λ a. refl) (λ a. refl) m set,
  runs (word_design d set) (flat_design f set) (to_flat f d h) (λ a b k. (h.follows a.0 b.0 ((h.cycle a.0).1 a.1) ((h.cycle b.0).1 b.1)).1 k) (λ a. refl) (λ a. refl) m set,
)
