use Rattle.std.proofs.Common.{arith, refl}
use Rattle.vlog_read_spelling.proofs.Tokens.{kind_within}
use Rattle.vlog_read_spelling.proofs.Forms.{height_pos}
use Rattle.vlog_read_stmt.proofs.LabelSteps.{wild_read}
use Rattle.vlog_read_stmt.proofs.label.label.Goals as goal

pub after-requires : goal.after-requires
after-requires c = kind_within _ _ _ c.in-Some.ensures.1

pub returns-then-depth-eq0 : goal.returns-then-depth-eq0
returns-then-depth-eq0 c = record { higher = λ a j q. omega (arith, height_pos a, c.if-depth-eq0.true); tokens = omega (arith, kind_within _ _ _ c.in-Some.ensures.1, c.if-depth-eq0.true) }

pub returns : goal.returns
returns c = wild_read _ _ _ _ _ c.in-Some.ensures (omega (arith, c.if-depth-eq0.false)) _ refl c.after.ensures refl
