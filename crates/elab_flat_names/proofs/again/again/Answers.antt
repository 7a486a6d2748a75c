use Rattle.std.proofs.Common.{sym, ap, refl, ◌∙◌, ◌∷◌, ◌||◌}
use Rattle.std.specs.List.{list_any}
use Rattle.std.specs.Str.{bytes_eq}
use Rattle.vlog_tree_runs.specs.Contents.{is_among}
use Rattle.elab_flat_scopes.proofs.Joining.{was_new, was_there, cond_or}
use Rattle.elab_flat_names.proofs.Seconds.{add_second, pass_first}
use Rattle.elab_flat_names.proofs.again.again.Goals.{then-not-branch+in_ok-push, else-not-branch}
use Rattle.elab_flat_names.proofs.again.again.Goals as goal

pub loop-decl-preserved : goal.loop-decl-preserved
loop-decl-preserved c =
    let had = c.loop-decl.invariant in
    let name = c.decl-item.result.name.now in
    elim c.if-not-branch.branch [
      | then-not-branch+in_ok-push w ↦ (
        had.0,
        λ q. ap (λ ks. list_any (λ k. bytes_eq q.now k.now) ks) (rw w.if-not-branch.true at c.in_ok-insert.ensures.unchanged) ∙ had.1 q,
        rw w.all-is (add_second c.args.decls.now c.loop-decl.decl-index c.decl-item.result c.loop-decl-test.true c.decl-item.is had.0 _ _ had.2 c.loop-decl.all.items w.push.new.self.items refl w.in_ok-push.ensures.items
            (ap (is_among had.0) (sym c.bytes.ensures) ∙ (sym (had.1 c.bytes.result) ∙ was_there _ (sym w.if-not-branch.true ∙ c.in_ok-insert.ensures.added)))),
      )
      | else-not-branch w ↦ (
        name ∷ had.0,
        λ q. c.in_ok-insert.ensures.updates.0 q ∙ (cond_or _ _ _ (had.1 q) ∙ ap (λ x. bytes_eq x q.now || is_among had.0 q.now) c.bytes.ensures),
        rw w.all-is (pass_first c.args.decls.now c.loop-decl.decl-index c.decl-item.result c.loop-decl-test.true c.decl-item.is had.0 _ _ had.2
            (ap (is_among had.0) (sym c.bytes.ensures) ∙ (sym (had.1 c.bytes.result) ∙ was_new _ (sym w.if-not-branch.false ∙ c.in_ok-insert.ensures.added)))),
      )
    ]
