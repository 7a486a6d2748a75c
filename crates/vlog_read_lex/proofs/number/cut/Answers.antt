use Rattle.vlog_read_lex.proofs.NumberLemmas.{cut_whole}
use Rattle.vlog_read_lex.proofs.number.cut.Goals as goal

pub returns-else-bits-lt64 : goal.returns-else-bits-lt64
returns-else-bits-lt64 c = cut_whole c.args.value c.args.bits c.ranges.value.fits c.if-bits-lt64.false
