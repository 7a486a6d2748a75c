-- The law (IEEE 1364-2005, sections 4.3 and 5.4: a bound of a range is a constant of at most 64 bits).
use Rattle.std.specs.Prelude.{List}
use Rattle.vlog_tree.specs.declared.module.Module.{Module}
use Rattle.vlog_tree_runs.specs.declared.flat.Flat.{Flat}
use Rattle.vlog_tree_runs.specs.Places.{Name}
use Rattle.elab_flat_faults.specs.declared.flattening.FlatFault.TheVariants as f
use Rattle.elab_flat_faults.specs.FlatStands.{Stands}
use Rattle.elab_flat_faults.specs.Handed.{IsFlattened, AreNumbered}

-- where no constant and no length is at fault, the bits of each signal of the module without instances have numbers below 2 ^ 64
abbrev pub FlatIsNumbered : Type 0
FlatIsNumbered =
    (ms : List Module) (top : Name) (flat : Flat) → IsFlattened ms top flat → ((n : Name) → Stands ms top (f.Constant n) → ⊥) → ((n : Name) → Stands ms top (f.Width n) → ⊥) →
    AreNumbered flat
