use Rattle.meet_lines.proofs.Testing.{obligations_decide}
use Rattle.meet_lines.proofs.laws.obligations_decide.Goals as goal

pub returns : goal.returns
returns c = obligations_decide
