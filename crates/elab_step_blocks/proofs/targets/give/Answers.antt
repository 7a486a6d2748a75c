use Rattle.std.proofs.Common.{◌<◌, ◌≤◌, length, refl, arith}
use Rattle.elab_step_blocks.proofs.Giving.{target_at, target_kept, bits_at, giving_at, giving_end}
use Rattle.elab_step_blocks.proofs.Joins.{apart_same}
use Rattle.elab_step_blocks.proofs.targets.give.Goals as goal

pub put_from-requires-clause-apart : goal.put_from-requires-clause-apart
put_from-requires-clause-apart c = apart_same c.args.state.now c.loop-target.state c.loop-target.invariant.same c.requires.apart

pub put_from-requires-clause-target : goal.put_from-requires-clause-target
put_from-requires-clause-target c =
    let lt : c.loop-target.target-index < length c.args.targets.now = omega (arith, c.loop-target-test.true, c.loop-target.auto.target-index-end) in
    target_kept c.args.state.now c.loop-target.state c.args.dag.now c.loop-target.dag _ c.loop-target.invariant.same c.loop-target.invariant.keeps
    (target_at c.args.state.now c.args.dag.now c.args.targets.now c.loop-target.target-index _ _ c.requires.targets lt refl)

pub put_from-requires-clause-within : goal.put_from-requires-clause-within
put_from-requires-clause-within c =
    let lt : c.loop-target.target-index < length c.args.targets.now = omega (arith, c.loop-target-test.true, c.loop-target.auto.target-index-end) in
    bits_at c.args.targets.now c.loop-target.target-index _ _ c.loop-target.rest c.args.value.width lt refl c.loop-target.invariant.left_is c.requires.total

pub loop-target-preserved : goal.loop-target-preserved
loop-target-preserved c =
    let lt : c.loop-target.target-index < length c.args.targets.now = omega (arith, c.loop-target-test.true, c.loop-target.auto.target-index-end) in
    let p = c.in_ok-put_from.ensures in
    giving_at c.args.targets.now _ _ c.loop-target.target-index c.args.value.node c.args.value.width c.loop-target.rest c.args.state.now c.loop-target.state c.put_from.new.state
    c.args.dag.now c.loop-target.dag c.put_from.new.dag lt refl c.requires.value c.requires.targets c.loop-target.invariant p.keeps p.ready p.same p.puts

pub returns-clause-gives : goal.returns-clause-gives
returns-clause-gives c =
    let le : length c.args.targets.now ≤ c.loop-target.target-index = omega (arith, c.loop-target-test.false, c.loop-target.auto.target-index-end) in
    giving_end c.args.targets.now c.loop-target.target-index c.args.value.node c.loop-target.rest c.args.state.now c.loop-target.state c.args.dag.now c.loop-target.dag le c.loop-target.invariant
