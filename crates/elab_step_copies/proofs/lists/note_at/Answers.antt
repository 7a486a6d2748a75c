use Rattle.std.proofs.Common.{ℕ, List, sym, ◌∙◌, subst}
use Rattle.vlog_tree_runs.specs.Places.{Among}
use Rattle.elab_step_copies.proofs.Noting.{list_get, noted_at, noted_before}
use Rattle.elab_step_copies.proofs.lists.note_at.Goals as goal

pub returns : goal.returns
returns c = noted_at c.args.lists.now.items c.args.at c.args.number c.index_mut.result.now c.push.new.self _ c.requires c.index_mut.ensures.value c.in_ok-push.ensures.items

pub returns-then-ends_with : goal.returns-then-ends_with
returns-then-ends_with c =
    let lists = c.args.lists.now.items in
    noted_before lists c.args.at c.args.number
    (subst (λ (xs : List ℕ). Among xs c.args.number) (c.deref.ensures.value ∙ sym (list_get lists c.args.at c.index.result.now _ c.requires c.index.ensures)) (c.ends_with.ensures c.if-ends_with.true))
