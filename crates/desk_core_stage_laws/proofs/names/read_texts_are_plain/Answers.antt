use Rattle.desk_core_stage_laws.proofs.Reading.{texts_plain}
use Rattle.desk_core_stage_laws.proofs.names.read_texts_are_plain.Goals as goal

pub returns : goal.returns
returns c = texts_plain
