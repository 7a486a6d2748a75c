use Rattle.std.proofs.Common.{subst}
use Rattle.set_tree.specs.Formulas.{meaning_of}
use Rattle.path_machine.specs.declared.path.After.{After}
use Rattle.path_machine.specs.Steps.{IsAfter}
use Rattle.path_machine.proofs.Walking.{walk_falls, walk_step}
use Rattle.path_machine.proofs.path.path_of.Goals as goal

pub loop-steps-smaller : goal.loop-steps-smaller
loop-steps-smaller c =
    let set = c.args.sound.now in
    let m = meaning_of set in
    let rows = c.as_slice-rows.result.now in
    walk_falls m set rows c.set.ensures.sound c.loop-steps.at c.in-Next.next c.loop-steps.invariant.position (subst (λ (a : After). IsAfter m set rows c.loop-steps.at a) c.in-Next.is c.in_ok-next.ensures)

pub loop-steps-preserved : goal.loop-steps-preserved
loop-steps-preserved c =
    let set = c.args.sound.now in
    let m = meaning_of set in
    let rows = c.as_slice-rows.result.now in
    walk_step m set rows c.set.ensures.sound c.loop-steps.at c.in-Next.next c.loop-steps.steps c.push.new.self c.in_ok-push.ensures.ok (subst (λ (a : After). IsAfter m set rows c.loop-steps.at a) c.in-Next.is c.in_ok-next.ensures) c.loop-steps.invariant
