use Rattle.desk_core_stage_laws.proofs.Blocks.{stmt_ready}
use Rattle.desk_core_stage_laws.proofs.ready.moved_blocks_stay_ready.Goals as goal

pub returns : goal.returns
returns c = λ p q body m stands d fit. stmt_ready p q m stands body d fit
