use Rattle.std.proofs.Common.{◌≡◌, drop, ◌<◌, ◌^◌}
use Rattle.std.specs.Prelude.{fold}
use Rattle.vlog_read_lex.specs.Numbers.{put_digit, value}
use Rattle.vlog_read_lex.proofs.number.value.Given as goal

abbrev pub invariant-loop-digit : goal.invariant-loop-digit
invariant-loop-digit l = (fold (put_digit l.fn.base) l.made (drop l.digit-index l.digits) ≡ value l.fn.base l.digits) × (l.made < 2 ^ 64)
