use Rattle.desk_core_stage_laws.proofs.Elaborating.{is_numbered}
use Rattle.desk_core_stage_laws.proofs.memories.spread_is_numbered.Goals as goal

pub returns : goal.returns
returns c = is_numbered
