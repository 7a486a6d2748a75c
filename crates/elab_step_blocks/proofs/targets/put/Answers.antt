use Rattle.std.proofs.Common.{ap, ◌∙◌, sym, subst}
use Rattle.elab_step_expr.specs.Leaves.{AreReady, declared}
use Rattle.elab_step_expr.specs.Nodes.{number_at}
use Rattle.elab_step_expr.proofs.Kept.{made_node, made_number}
use Rattle.elab_step_expr.proofs.Leaving.{declared_with}
use Rattle.vlog_tree_runs.specs.Places.{write_bits}
use Rattle.elab_step_blocks.specs.Targets.{bit_at, Puts}
use Rattle.elab_step_blocks.proofs.Giving.{put_ready, puts_is}
use Rattle.elab_step_blocks.proofs.Joins.{ready_at}
use Rattle.elab_step_blocks.proofs.targets.put.Goals as goal

pub changed-requires-clause-old : goal.changed-requires-clause-old
changed-requires-clause-old c = ready_at c.args.state.now c.args.dag.now c.args.target.leaf c.leaf-leaf.result.now c.requires.ready c.requires.target.leaf c.leaf-leaf.ensures

pub returns-clause-same : goal.returns-clause-same
returns-clause-same c = ap declared c.set_node.ensures ∙ declared_with c.args.state.now c.args.target.leaf _

pub returns-clause-ready : goal.returns-clause-ready
returns-clause-ready c =
    let n = c.in_ok-number.ensures in
    subst (λ z. AreReady z c.changed.new.dag) (sym c.set_node.ensures)
    (put_ready c.args.state.now c.args.target.leaf c.in_ok-number.number c.leaf-leaf.result.now c.args.dag.now c.changed.new.dag c.requires.target.leaf c.leaf-leaf.ensures c.requires.ready n.keeps
    (made_node c.changed.new.dag c.in_ok-number.number c.leaf-leaf.result.now.width _ n.makes))

pub returns-clause-puts : goal.returns-clause-puts
returns-clause-puts c =
    let n = c.in_ok-number.ensures in
    let l = c.leaf-leaf.result.now in
    let t = c.args.target in
    subst (λ z. Puts t c.args.bits.node c.args.state.now c.args.dag.now z c.changed.new.dag) (sym c.set_node.ensures)
    (puts_is t c.args.bits.node c.in_ok-number.number c.args.state.now l c.args.dag.now c.changed.new.dag c.requires.target.leaf c.leaf-leaf.ensures c.requires.apart c.requires.ready n.keeps
    (λ e. made_number e c.changed.new.dag c.in_ok-number.number l.width _ n.makes
    ∙ ap (λ k. write_bits l.width (bit_at e c.args.dag.now t.spot) k (number_at e c.args.dag.now c.args.bits.node) (number_at e c.args.dag.now l.node)) c.requires.count))
