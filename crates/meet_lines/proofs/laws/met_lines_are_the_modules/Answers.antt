use Rattle.meet_lines.proofs.Carrying.{met_lines_are_the_modules}
use Rattle.meet_lines.proofs.laws.met_lines_are_the_modules.Goals as goal

pub returns : goal.returns
returns c = met_lines_are_the_modules
