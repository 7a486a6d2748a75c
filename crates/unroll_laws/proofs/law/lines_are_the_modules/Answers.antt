use Rattle.unroll_laws.proofs.Carried.{lines_are_the_modules}
use Rattle.unroll_laws.proofs.law.lines_are_the_modules.Goals as goal

pub returns : goal.returns
returns c = lines_are_the_modules
