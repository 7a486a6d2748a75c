use Rattle.std.proofs.Common.{◌+◌, [], ◌∷◌, length, length-append, ap, ◌∙◌}
use Rattle.elab_step_copies.specs.Copies.{list_at}
use Rattle.elab_step_copies.proofs.Noting.{list_push}
use Rattle.elab_step_copies.proofs.lists.empty_lists.Goals as goal

pub loop-preserved : goal.loop-preserved
loop-preserved c =
    let old = c.loop.lists.items in
    let h = c.loop.invariant in (
      ap length c.in_ok-push.ensures.items ∙ (length-append old (c.new.result ∷ []) ∙ ap (λ n. n + 1) h.0),
      λ i. ap (λ v. list_at v i) c.in_ok-push.ensures.items ∙ list_push old c.new.result i h.1 c.new.ensures.items,
    )
