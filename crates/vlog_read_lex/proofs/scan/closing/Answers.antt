use Rattle.std.proofs.Common.{◌≡◌, true, false, arith}
use Rattle.vlog_read_lex.specs.Places.{has_pair}
use Rattle.vlog_read_lex.proofs.PlaceLemmas.{closing-here, closing-next, closing-end}
use Rattle.vlog_read_lex.proofs.scan.closing.Goals as goal

pub returns-then-has_pair-clause-exact : goal.returns-then-has_pair-clause-exact
returns-then-has_pair-clause-exact c =
    let h : has_pair 42 c.args.last c.args.bytes.now c.loop-at.at ≡ true = cc in
    let e = closing-here c.args.last c.args.bytes.now c.loop-at.at (omega arith) h in cc

pub loop-at-preserved : goal.loop-at-preserved
loop-at-preserved c =
    let h : has_pair 42 c.args.last c.args.bytes.now c.loop-at.at ≡ false = cc in
    let e = closing-next c.args.last c.args.bytes.now c.loop-at.at (omega arith) h in cc

pub returns-clause-exact : goal.returns-clause-exact
returns-clause-exact c = let e = closing-end c.args.last c.args.bytes.now c.loop-at.at (omega arith) in cc
