use Rattle.std.proofs.Common.{◌≡◌, ◌∷◌, [], sym, subst, ap, ◌∙◌}
use Rattle.std.specs.Option.{option_copied}
use Rattle.vlog_tree.specs.Value.{assigned}
use Rattle.elab_step_expr.specs.Leaves.{valued}
use Rattle.elab_step_expr.specs.Nodes.{Makes, words}
use Rattle.elab_step_expr.proofs.Kept.{keeps_then}
use Rattle.elab_step_blocks.specs.Lefts.{AreParts}
use Rattle.elab_step_blocks.specs.Targets.{bits_in}
use Rattle.elab_step_blocks.proofs.Storing.{targets_moved, set_next, store_runs}
use Rattle.elab_step_blocks.proofs.stores.assign.Goals as goal

pub give-requires-clause-targets : goal.give-requires-clause-targets
give-requires-clause-targets c =
    let b = c.targets_of.new.dag in
    let ts = c.deref-2.result.now in
    let parts = subst (λ z. AreParts c.seen.result.now b z (c.args.left.now ∷ [])) (sym c.deref-2.ensures.value) c.in_ok-targets.ensures.parts in
    targets_moved c.seen.result.now c.args.state.now b c.assigned_node.new.dag ts (sym c.seen.ensures.same) c.in_ok-node.ensures.keeps parts.targets

pub returns-clause-set : goal.returns-clause-set
returns-clause-set c =
    let a = c.args.dag.now in
    let b = c.targets_of.new.dag in
    let d = c.assigned_node.new.dag in
    let f = c.give.new.dag in
    let g = c.in_ok-give.ensures in
    set_next (option_copied c.args.reads) c.args.state.now c.give.new.state a f c.requires.set
    (keeps_then a d f (keeps_then a b d c.in_ok-targets.ensures.keeps c.in_ok-node.ensures.keeps) g.keeps) g.ready g.same

pub returns-clause-runs : goal.returns-clause-runs
returns-clause-runs c =
    let r = option_copied c.args.reads in
    let ms = c.args.state.now in
    let a = c.args.dag.now in
    let b = c.targets_of.new.dag in
    let d = c.assigned_node.new.dag in
    let f = c.give.new.dag in
    let ts = c.deref-2.result.now in
    let w = c.bits-width.result in
    let items = subst (λ z. AreParts c.seen.result.now b z (c.args.left.now ∷ [])) (sym c.deref-2.ensures.value) c.in_ok-targets.ensures.parts in
    let parts = subst (λ z. AreParts z b ts (c.args.left.now ∷ [])) c.seen.ensures.value items in
    let wide : w ≡ bits_in ts = c.bits-width.ensures ∙ ap bits_in (c.deref.ensures.value ∙ sym c.deref-2.ensures.value) in
    let node = subst (λ z. Makes d c.in_ok-node.node w (λ e. assigned (valued z (words e b)) c.args.right.now w)) c.seen-2.ensures.value c.in_ok-node.ensures.node in
    store_runs r ms c.give.new.state a b d f c.args.left.now c.args.right.now ts w c.in_ok-node.node c.requires.set c.in_ok-targets.ensures.keeps parts wide c.in_ok-node.ensures.keeps node c.in_ok-give.ensures.gives

pub returns-in_err-node-clause-keeps : goal.returns-in_err-node-clause-keeps
returns-in_err-node-clause-keeps c = keeps_then c.args.dag.now c.targets_of.new.dag c.assigned_node.new.dag c.in_ok-targets.ensures.keeps c.assigned_node.ensures.keeps

pub returns-in_err-give-clause-keeps : goal.returns-in_err-give-clause-keeps
returns-in_err-give-clause-keeps c = keeps_then c.args.dag.now c.assigned_node.new.dag c.give.new.dag (keeps_then c.args.dag.now c.targets_of.new.dag c.assigned_node.new.dag c.in_ok-targets.ensures.keeps c.in_ok-node.ensures.keeps) c.give.ensures.keeps

pub returns-clause-keeps : goal.returns-clause-keeps
returns-clause-keeps c = keeps_then c.args.dag.now c.assigned_node.new.dag c.give.new.dag (keeps_then c.args.dag.now c.targets_of.new.dag c.assigned_node.new.dag c.in_ok-targets.ensures.keeps c.in_ok-node.ensures.keeps) c.in_ok-give.ensures.keeps
