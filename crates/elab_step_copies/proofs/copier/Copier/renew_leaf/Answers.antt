use Rattle.std.proofs.Common.{◌∙◌, List, ℕ, Option, length, arith, sym, ap, subst}
use Rattle.vlog_tree_runs.specs.Places.{Among}
use Rattle.elab_step_blocks.proofs.Saving.{node_get}
use Rattle.elab_step_copies.specs.Copies.{made_at}
use Rattle.elab_step_copies.proofs.Forgetting.{renewed_fresh}
use Rattle.elab_step_copies.proofs.Noting.{list_get}
use Rattle.elab_step_copies.proofs.copier.Copier.renew_leaf.Goals as goal

pub is_stale-requires : goal.is_stale-requires
is_stale-requires c n m =
    let k = c.args.self.now in
    let sound = c.requires.sound in
    let lt = c.requires.place in
    let long = sound.words_long in
    let is = list_get k.words.items c.args.place c.index.result.now _ (omega (arith, lt, long)) c.index.ensures in
    let within = sound.within c.args.place n (subst (λ (xs : List ℕ). Among xs n) (c.deref-2.ensures.value ∙ sym is) m) in
    let count = sound.network.long in
    let view = ap (λ (xs : List (Option ℕ)). length xs) c.deref.ensures.value in
    omega (arith, within, count, view)

pub returns-then-not-is_stale : goal.returns-then-not-is_stale
returns-then-not-is_stale c =
    let k = c.args.self.now in
    let sound = c.requires.sound in
    let lt = c.requires.place in
    let long = sound.words_long in
    let is = list_get k.words.items c.args.place c.index.result.now _ (omega (arith, lt, long)) c.index.ensures in
    let node = node_get c.args.leaves.now c.args.place c.leaf.result.now lt c.leaf.ensures in
    renewed_fresh k c.args.leaves.now c.args.place sound
    (λ n i m e. c.is_stale.ensures c.if-not-is_stale.true n i (subst (λ (xs : List ℕ). Among xs n) (is ∙ sym c.deref-2.ensures.value) m) (ap (λ (ms : List (Option ℕ)). made_at ms n) c.deref.ensures.value ∙ e) ∙ node)
