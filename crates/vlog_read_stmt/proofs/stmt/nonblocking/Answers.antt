use Rattle.std.proofs.Common.{arith, refl}
use Rattle.vlog_read_spelling.proofs.Tokens.{kind_within}
use Rattle.vlog_read_stmt.proofs.StmtSteps.{nonblocking_read, right_refuses}
use Rattle.vlog_read_stmt.proofs.stmt.nonblocking.Goals as goal

pub after-requires : goal.after-requires
after-requires c = kind_within _ _ _ c.requires.sign

pub returns : goal.returns
returns c = nonblocking_read _ _ _ c.requires.positive _ c.requires.left _ (rw c.after.ensures at c.in-Ok.ensures) c.requires.sign _ refl refl (omega (arith, c.max.ensures))

pub returns-in-Err : goal.returns-in-Err
returns-in-Err c =
    right_refuses _ _ _ c.requires.positive c.requires.other _ c.requires.left _ (rw c.after.ensures at c.in-Err.ensures)
