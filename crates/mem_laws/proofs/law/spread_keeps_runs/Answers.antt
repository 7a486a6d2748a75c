use Rattle.mem_laws.proofs.Keeps.{keeps}
use Rattle.mem_laws.proofs.law.spread_keeps_runs.Goals as goal

pub returns : goal.returns
returns c = keeps
