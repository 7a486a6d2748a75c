use Rattle.std.proofs.Common.{map, refl, ◌∙◌}
use Rattle.vlog_tree_runs.specs.Scopes.{own_link, place_of}
use Rattle.elab_flat_laws.specs.Flattened.{moved_link}
use Rattle.elab_flat_scopes.specs.Borrowed.{assigned_meant}
use Rattle.elab_flat_instances.specs.Unfolding.{scope_meant}
use Rattle.elab_flat.specs.Scoped.{placed}
use Rattle.elab_flat.proofs.Making.{next_made}
use Rattle.elab_flat.proofs.link.add_own.Goals as goal

pub loop-assigned-preserved : goal.loop-assigned-preserved
loop-assigned-preserved c =
    let p = place_of (scope_meant c.args.scope.now) in
    let x = c.assigned-item.result in
    next_made (λ xs. map moved_link (map (own_link p) (map assigned_meant xs))) (λ a. moved_link (own_link p (assigned_meant a))) (λ a xs. refl) c.deref-assigned-items.result.now c.loop-assigned.assigned-index x
    c.loop-assigned-test.true c.assigned-item.is c.loop-assigned.all _ c.push.new.self c.in_ok-own_assign.field-0 c.loop-assigned.invariant
    (c.in_ok-own_assign.ensures p.signals ∙ (λ j. moved_link (own_link (placed (c.mover-mover.ensures.prefix j) p.signals (c.mover-mover.ensures.params j)) (assigned_meant x)))) c.in_ok-push.ensures.ok
