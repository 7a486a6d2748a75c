use Rattle.std.proofs.Common.{◌≡◌, ◌+◌, drop}
use Rattle.std.specs.List.{position_or_len}
use Rattle.signoff_places.specs.Tokens.{begins_from}
use Rattle.signoff_places.proofs.tokens.around.Given as goal

abbrev pub invariant-loop-at : goal.invariant-loop-at
invariant-loop-at l = l.at + position_or_len (begins_from l.byte) (drop l.at l.tokens) ≡ position_or_len (begins_from l.byte) l.tokens
