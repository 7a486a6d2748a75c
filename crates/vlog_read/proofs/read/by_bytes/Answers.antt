use Rattle.vlog_read.proofs.TextSteps.{others_name}
use Rattle.vlog_read.proofs.read.by_bytes.Goals as goal

pub returns-in_default-clause-within : goal.returns-in_default-clause-within
returns-in_default-clause-within c = λ ts size refused placed. others_name ts size _ c.in_default.not-Syntax refused
