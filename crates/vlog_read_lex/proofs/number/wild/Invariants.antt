use Rattle.std.proofs.Common.{◌≡◌, drop}
use Rattle.std.specs.Prelude.{fold}
use Rattle.vlog_read_lex.specs.Numbers.{put_wild, wild}
use Rattle.vlog_read_lex.proofs.number.wild.Given as goal

abbrev pub invariant-loop-digit : goal.invariant-loop-digit
invariant-loop-digit l = fold (put_wild l.base) l.made (drop l.digit-index l.digits) ≡ wild l.base l.digits
