use Rattle.std.proofs.Common.{length, ◌-◌, ◌≤◌}
use Rattle.vlog_read_lex.specs.Tokens.{Pieces, LieWithin}
use Rattle.vlog_read_lex.proofs.read.read_tokens.Given as goal

abbrev pub invariant-loop-at : goal.invariant-loop-at
invariant-loop-at l = Pieces l.set l.bytes 0 l.tokens.items l.at × (l.at ≤ length l.bytes) × LieWithin (length l.bytes) l.tokens.items

abbrev pub decreases-loop-at : goal.decreases-loop-at
decreases-loop-at l = length l.bytes - l.at
