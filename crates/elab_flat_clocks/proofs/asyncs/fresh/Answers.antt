use Rattle.std.proofs.Common.{sym, ap, refl, ◌∙◌, ◌∷◌, ◌||◌}
use Rattle.std.specs.List.{list_any}
use Rattle.std.specs.Str.{bytes_eq}
use Rattle.vlog_tree_runs.specs.Contents.{is_among}
use Rattle.elab_flat_scopes.proofs.Joining.{was_new, was_there, cond_or}
use Rattle.elab_flat_clocks.proofs.Resets.{fresh_new, fresh_again}
use Rattle.elab_flat_clocks.proofs.asyncs.fresh.Goals.{then-branch+in_ok-push, else-branch}
use Rattle.elab_flat_clocks.proofs.asyncs.fresh.Goals as goal

pub loop-name-preserved : goal.loop-name-preserved
loop-name-preserved c =
    let had = c.loop-name.invariant in
    let name = c.name-item.result.now in
    elim c.if-branch.branch [
      | then-branch+in_ok-push w ↦ (
        name ∷ had.0,
        λ q. c.in_ok-insert.ensures.updates.0 q ∙ (cond_or _ _ _ (had.1 q) ∙ ap (λ x. bytes_eq x q.now || is_among had.0 q.now) c.bytes.ensures),
        rw w.all-is (fresh_new c.args.names.now c.loop-name.name-index c.name-item.result c.loop-name-test.true c.name-item.is had.0 _ _ had.2 c.loop-name.all.items w.push.new.self.items refl w.in_ok-push.ensures.items
            (ap (is_among had.0) (sym c.bytes.ensures) ∙ (sym (had.1 c.bytes.result) ∙ was_new _ (sym w.if-branch.true ∙ c.in_ok-insert.ensures.added)))),
      )
      | else-branch w ↦ (
        had.0,
        λ q. ap (λ ks. list_any (λ k. bytes_eq q.now k.now) ks) (rw w.if-branch.false at c.in_ok-insert.ensures.unchanged) ∙ had.1 q,
        rw w.all-is (fresh_again c.args.names.now c.loop-name.name-index c.name-item.result c.loop-name-test.true c.name-item.is had.0 _ _ had.2
            (ap (is_among had.0) (sym c.bytes.ensures) ∙ (sym (had.1 c.bytes.result) ∙ was_there _ (sym w.if-branch.false ∙ c.in_ok-insert.ensures.added)))),
      )
    ]
