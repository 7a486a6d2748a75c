use Rattle.desk_core_stage_laws.proofs.Asking.{can_spread, is_ready}
use Rattle.desk_core_stage_laws.proofs.memories.sized_can_spread.Goals as goal

pub returns-clause-can : goal.returns-clause-can
returns-clause-can c = can_spread

pub returns-clause-ready : goal.returns-clause-ready
returns-clause-ready c = is_ready
