use Rattle.std.proofs.Common.{◌≡◌, true, false, get_or, arith}
use Rattle.vlog_read_lex.specs.Bytes.{has}
use Rattle.vlog_read_lex.proofs.PlaceLemmas.{run_end-here, run_end-next, run_end-end}
use Rattle.vlog_read_lex.proofs.scan.run_end.Goals as goal

pub returns-then-not-has-clause-exact : goal.returns-then-not-has-clause-exact
returns-then-not-has-clause-exact c =
    let h : has c.args.class (get_or c.args.bytes.now c.loop-at.at 0) ≡ false = cc in
    let e = run_end-here c.args.class c.args.bytes.now c.loop-at.at (omega arith) h in cc

pub loop-at-preserved : goal.loop-at-preserved
loop-at-preserved c =
    let h : has c.args.class (get_or c.args.bytes.now c.loop-at.at 0) ≡ true = cc in
    let e = run_end-next c.args.class c.args.bytes.now c.loop-at.at (omega arith) h in cc

pub returns-clause-exact : goal.returns-clause-exact
returns-clause-exact c = let e = run_end-end c.args.class c.args.bytes.now c.loop-at.at (omega arith) in cc
