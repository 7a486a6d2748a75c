use Rattle.std.proofs.Common.{◌+◌, length, arith}
use Rattle.vlog_read_lex.proofs.PieceLemmas.{gap_within}
use Rattle.vlog_read_lex.proofs.piece.paren_at.Goals as goal

pub returns-then-next-ne41-clause-within : goal.returns-then-next-ne41-clause-within
returns-then-next-ne41-clause-within c =
    rw c.gap_to.ensures (gap_within c.args.at (c.args.at + 2) (length c.args.bytes.now) c.closing.result (omega arith) c.closing.ensures.within)
