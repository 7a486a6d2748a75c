use Rattle.set_read_laws.proofs.Known.{lines_have_names}
use Rattle.set_read_laws.proofs.line_names.lines_have_names.Goals as goal

pub returns : goal.returns
returns c = lines_have_names
