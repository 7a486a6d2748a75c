use Rattle.desk_core_stage_laws.proofs.Sizing.{sized_texts}
use Rattle.desk_core_stage_laws.proofs.ready.flat_has_sized_texts.Goals as goal

pub returns : goal.returns
returns c = sized_texts
