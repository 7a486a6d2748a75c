use Rattle.std.proofs.Common.{[], map, refl, ap, ◌∙◌}
use Rattle.vlog_tree_runs.specs.Scopes.{place_of}
use Rattle.elab_flat_laws.specs.Flattened.{moved_block}
use Rattle.elab_flat_scopes.specs.Borrowed.{block_meant}
use Rattle.elab_flat_instances.specs.Unfolding.{scope_meant}
use Rattle.elab_flat.specs.Scoped.{placed}
use Rattle.elab_flat.proofs.Making.{next_made}
use Rattle.elab_flat.proofs.block.add_blocks.Goals as goal

pub loop-block-preserved : goal.loop-block-preserved
loop-block-preserved c =
    let p = place_of (scope_meant c.args.scope.now) in
    let b = c.block-item.result in
    next_made (λ xs. map (moved_block p) (map block_meant xs)) (λ x. moved_block p (block_meant x)) (λ x xs. refl) c.deref-block-items.result.now c.loop-block.block-index b c.loop-block-test.true c.block-item.is
    c.loop-block.all _ c.push.new.self c.in_ok-block.block c.loop-block.invariant
    (c.in_ok-block.ensures ∙ ap (λ x. moved_block (placed x [] c.args.scope.now.params) (block_meant b)) c.bytes-prefix.ensures) c.in_ok-push.ensures.ok
