use Rattle.unroll_laws.proofs.Existing.{bound_modules_run}
use Rattle.unroll_laws.proofs.law.bound_modules_run.Goals as goal

pub returns : goal.returns
returns c = bound_modules_run
