use Rattle.elab_step_design.proofs.Carried.{lines_same, runs_same}
use Rattle.elab_step_design.proofs.flat_lines.flat_lines_are_the_modules_lines.Goals as goal

pub returns-clause-lines : goal.returns-clause-lines
returns-clause-lines c = lines_same

pub returns-clause-runs : goal.returns-clause-runs
returns-clause-runs c = runs_same
