use Rattle.std.proofs.Common.{◌≡◌, length, arith, refl}
use Rattle.desk_core_goals.proofs.LinesTold.{all_joined, join_more}
use Rattle.desk_core_goals.proofs.goals.joined.Goals as goal

pub loop-named-preserved : goal.loop-named-preserved
loop-named-preserved c =
    let at : c.len-in-loop-named.result ≡ length c.loop-named.goals.items = omega (arith, c.len-in-loop-named.ensures, c.loop-named.goals.ok.0) in
    join_more c.args.bound.now c.args.lines.now c.loop-named.goals.items _ _ _ c.in-Some.named c.len-in-loop-named.result _ _ _ c.loop-named.invariant c.in-Some.ensures.steps.0 at refl refl c.in_ok-push.ensures.items

pub returns : goal.returns
returns c = all_joined c.args.bound.now c.args.lines.now c.loop-named.goals.items _ c.loop-named.invariant (omega (arith, c.in-None.ensures.steps.0, c.loop-named.named-iterator.rest.ok.0))
