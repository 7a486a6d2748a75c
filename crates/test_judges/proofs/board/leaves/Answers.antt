use Rattle.std.proofs.Common.{◌<◌, length, arith}
use Rattle.elab_step_expr.proofs.Kept.{keeps_then}
use Rattle.test_judges.proofs.Holding.{value_at, held_next, held_all}
use Rattle.test_judges.proofs.board.leaves.Goals as goal

pub leaf-requires-clause-fits : goal.leaf-requires-clause-fits
leaf-requires-clause-fits c = value_at c.args.signals.now c.args.values.now c.loop-i.i c.index-signals-i.result c.requires.values (omega arith) c.index-signals-i.is

pub loop-i-preserved : goal.loop-i-preserved
loop-i-preserved c =
    let gs = c.args.signals.now in
    let vs = c.args.values.now in
    let lt : c.loop-i.i < length gs = omega arith in
    let lv : c.loop-i.i < length vs = let e = c.requires.each in omega (arith, e, lt) in (
      keeps_then c.args.dag.now c.loop-i.dag c.leaf.new.dag c.loop-i.invariant.0 c.in_ok-next.ensures.keeps,
      held_next c.loop-i.dag c.leaf.new.dag gs c.loop-i.leaves c.push.new.self vs c.loop-i.i c.index-signals-i.result c.in_ok-next.next c.in_ok-next.ensures.keeps c.loop-i.invariant.1 lt lv c.index-signals-i.is
          c.in_ok-next.ensures.held c.in_ok-push.ensures.ok,
    )

pub returns-clause-held : goal.returns-clause-held
returns-clause-held c =
    let e = c.requires.each in
    held_all c.loop-i.dag c.args.signals.now c.loop-i.leaves c.args.values.now c.loop-i.i (omega arith) (omega (arith, e)) c.loop-i.invariant.1

pub returns-in_err-next-clause-keeps : goal.returns-in_err-next-clause-keeps
returns-in_err-next-clause-keeps c = keeps_then c.args.dag.now c.loop-i.dag c.leaf.new.dag c.loop-i.invariant.0 c.leaf.ensures.keeps

pub returns-in_err-push-clause-keeps : goal.returns-in_err-push-clause-keeps
returns-in_err-push-clause-keeps c = keeps_then c.args.dag.now c.loop-i.dag c.leaf.new.dag c.loop-i.invariant.0 c.leaf.ensures.keeps
