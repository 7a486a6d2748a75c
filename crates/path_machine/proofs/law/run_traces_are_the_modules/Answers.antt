use Rattle.path_machine.proofs.Carrying.{run_traces_are_the_modules}
use Rattle.path_machine.proofs.law.run_traces_are_the_modules.Goals as goal

pub returns : goal.returns
returns c = run_traces_are_the_modules
