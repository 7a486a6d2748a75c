use Rattle.std.proofs.Common.{◌+◌, map, drop, subst}
use Rattle.elab_flat_scopes.specs.Borrowed.{name_meant}
use Rattle.elab_step_flow.proofs.Marking.{WithRest, step, cut}
use Rattle.elab_step_flow.proofs.marks.mark_names.Goals as goal

pub loop-name-preserved : goal.loop-name-preserved
loop-name-preserved c =
    let xs = c.args.list.now in
    let names = c.args.names.now in
    let i = c.loop-name.name-index in
    step names (map name_meant xs) c.args.set.now c.name-item.result.now (map name_meant (drop (i + 1) xs)) c.loop-name.set c.mark.new.set
    (subst (λ zs. WithRest names (map name_meant xs) c.args.set.now (map name_meant zs) c.loop-name.set) (cut xs i c.name-item.result c.loop-name-test.true c.name-item.is) c.loop-name.invariant) c.mark.ensures
