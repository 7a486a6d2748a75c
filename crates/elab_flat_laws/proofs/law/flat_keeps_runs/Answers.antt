use Rattle.elab_flat_laws.proofs.Keeps.{keeps}
use Rattle.elab_flat_laws.proofs.law.flat_keeps_runs.Goals as goal

pub returns : goal.returns
returns c = keeps
