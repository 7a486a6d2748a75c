use Rattle.desk_core_stage_laws.proofs.Elaborating.{can_elaborate}
use Rattle.desk_core_stage_laws.proofs.memories.spread_can_elaborate.Goals as goal

pub returns : goal.returns
returns c = can_elaborate
