use Rattle.std.proofs.Common.{subst, ap, ◌∙◌}
use Rattle.std.specs.List.{Contains}
use Rattle.elab_step_blocks.specs.Saving.{saved_at}
use Rattle.elab_step_blocks.proofs.Sparing.{within_by, saved_each}
use Rattle.elab_step_blocks.proofs.places.saved_once.Goals as goal

pub saved_at-requires : goal.saved_at-requires
saved_at-requires c = within_by c.args.leaves.now c.args.places.items c.deref.result.now (λ k m. (c.in_ok-places.ensures k).0 (subst (λ r. Contains r k) c.deref.ensures.value m)) c.requires

pub returns : goal.returns
returns c =
    let ls = c.args.leaves.now in
    saved_each ls c.args.places.items c.in_ok-places.places.items c.in_ok-nodes.nodes.items c.requires (λ k. (c.in_ok-places.ensures k).0) (λ k. (c.in_ok-places.ensures k).1)
    (c.in_ok-nodes.ensures ∙ ap (saved_at ls) c.deref.ensures.value)
