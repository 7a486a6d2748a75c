use Rattle.elab_step_laws.proofs.Walking.{passes_are_paths}
use Rattle.elab_step_laws.proofs.law.passes_are_paths.Goals as goal

pub returns : goal.returns
returns c = passes_are_paths
