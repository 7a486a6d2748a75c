use Rattle.std.proofs.Common.{arith, ◌+◌, ◌<◌, ◌≤◌, List, length, refl, sym, subst}
use Rattle.elab_step_expr.specs.declared.leaves.Leaf.{Leaf}
use Rattle.elab_step_expr.proofs.Kept.{grows_then}
use Rattle.elab_step_nets.proofs.Boards.{Beginning, signal_among, beginning_next, board_begun, frees_begun}
use Rattle.elab_step_nets.proofs.Cycles.{plain_signal}
use Rattle.elab_step_nets.proofs.start.begun.Goals as goal

pub leaf-requires-clause-long : goal.leaf-requires-clause-long
leaf-requires-clause-long c = c.requires.long c.index-signals-i.result (signal_among c.args.signals.now c.loop-i.i c.index-signals-i.result c.index-signals-i.result (omega arith) c.index-signals-i.is)

pub leaf-requires-clause-plain : goal.leaf-requires-clause-plain
leaf-requires-clause-plain c = plain_signal c.args.signals.now c.index-signals-i.result c.requires.plain (signal_among c.args.signals.now c.loop-i.i c.index-signals-i.result c.index-signals-i.result (omega arith) c.index-signals-i.is)

pub loop-i-preserved : goal.loop-i-preserved
loop-i-preserved c =
    let gs = c.args.signals.now in
    let ts = c.args.nets.now in
    let g = c.index-signals-i.result in
    let n = c.requires.nets in
    let lt : c.loop-i.i < length gs = omega arith in
    let P : List Leaf → Type 0 = λ z. Beginning gs ts (c.loop-i.i + 1) c.args.dag.now c.leaf.new.dag z in
    subst P (sym c.in_ok-push.ensures.ok)
    (beginning_next gs ts c.loop-i.i c.args.dag.now c.loop-i.dag c.leaf.new.dag c.loop-i.leaves g g _ _ c.in_ok-next.next c.loop-i.invariant lt (omega (arith, n, lt)) c.index-signals-i.is refl
    c.in_ok-next.ensures.grows c.in_ok-next.ensures.frees (c.requires.long g (signal_among gs c.loop-i.i g g lt c.index-signals-i.is)) c.in_ok-next.ensures.leaf c.in_ok-next.ensures.node c.in_ok-next.ensures.begun)

pub returns-clause-board : goal.returns-clause-board
returns-clause-board c =
    let n = c.requires.nets in
    let l : length c.args.signals.now ≤ c.loop-i.i = omega arith in
    (board_begun c.args.signals.now c.args.nets.now c.loop-i.i c.args.dag.now c.loop-i.dag c.loop-i.leaves c.loop-i.invariant l (omega (arith, l, n)) c.requires.distinct).0

pub returns-clause-frees : goal.returns-clause-frees
returns-clause-frees c =
    let n = c.requires.nets in
    let l : length c.args.signals.now ≤ c.loop-i.i = omega arith in
    frees_begun c.args.signals.now c.args.nets.now c.loop-i.i c.args.dag.now c.loop-i.dag c.loop-i.leaves c.loop-i.invariant l (omega (arith, l, n))

pub returns-in_err-push-clause-grows : goal.returns-in_err-push-clause-grows
returns-in_err-push-clause-grows c = grows_then c.args.dag.now c.loop-i.dag c.leaf.new.dag c.loop-i.invariant.grows c.leaf.ensures.grows
