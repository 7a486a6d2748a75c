-- Laws: a module without instances whose texts can be taken where they stand can be freed of its memories, and then be made a design.
use Rattle.vlog_tree_runs.specs.declared.flat.Flat.{Flat}
use Rattle.elab_flat_faults.specs.Handed.{AreNumbered}
use Rattle.mem_laws.specs.Spread.{spread_flat}
use Rattle.mem_laws.specs.Stands.{IsFaultless}
use Rattle.mem_laws.specs.Laws.{CanSpread}
use Rattle.mem_faults.specs.Asked.{IsReady}
use Rattle.elab_step_nets.specs.Asked.{CanElaborate}
use Rattle.desk_core_stage_laws.specs.Sized.{HasSizedTexts}

-- it has what is asked of a module that is freed of its memories
abbrev pub SizedCanSpread : Type 0
SizedCanSpread = (f : Flat) → HasSizedTexts f → CanSpread f

abbrev pub SizedIsReady : Type 0
SizedIsReady = (f : Flat) → HasSizedTexts f → IsReady f

-- where no fault of memories stands, the module without memories can be made a design
abbrev pub SpreadCanElaborate : Type 0
SpreadCanElaborate = (f : Flat) → HasSizedTexts f → IsFaultless f → CanElaborate (spread_flat f)

-- the bits of the module without memories have numbers of words where those of the module have
abbrev pub SpreadIsNumbered : Type 0
SpreadIsNumbered = (f : Flat) → HasSizedTexts f → AreNumbered f → AreNumbered (spread_flat f)
