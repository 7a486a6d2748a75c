use Rattle.desk_core_stage_laws.proofs.NumberFacts.{are_numbered}
use Rattle.desk_core_stage_laws.proofs.numbers.flat_is_numbered.Goals as goal

pub returns : goal.returns
returns c = are_numbered
