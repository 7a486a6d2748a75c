use Rattle.std.proofs.Common.{map, refl}
use Rattle.std.specs.List.{flat_map}
use Rattle.elab_flat_laws.specs.Flattened.{flat_blocks}
use Rattle.elab_flat_instances.specs.Unfolding.{scope_meant}
use Rattle.elab_flat.proofs.Making.{next_parts}
use Rattle.elab_flat.proofs.block.blocks_of.Goals as goal

pub loop-scope-preserved : goal.loop-scope-preserved
loop-scope-preserved c =
    next_parts (λ xs. flat_map flat_blocks (map scope_meant xs)) (λ s. flat_blocks (scope_meant s)) (λ s xs. refl) c.args.scopes.now c.loop-scope.scope-index c.scope-item.result c.loop-scope-test.true
    c.scope-item.is c.loop-scope.all _ c.add_blocks.new.all c.loop-scope.invariant c.in_ok-add_blocks.ensures
