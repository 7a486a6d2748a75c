use Rattle.std.proofs.Common.{subst}
use Rattle.std.specs.Prelude.{not, nat_eq}
use Rattle.std.specs.Option.{option_copied}
use Rattle.vlog_tree.specs.Value.{bit, own_value}
use Rattle.elab_step_expr.specs.Leaves.{valued}
use Rattle.elab_step_expr.specs.Nodes.{Makes, words}
use Rattle.elab_step_blocks.proofs.Storing.{condition_tests}
use Rattle.elab_step_blocks.proofs.stores.condition_node.Goals as goal

pub returns-clause-tests : goal.returns-clause-tests
returns-clause-tests c =
    let d = c.holds_node.new.dag in
    let node = subst (λ z. Makes d c.in_ok-number.number 1 (λ e. bit (not (nat_eq (own_value (valued z (words e c.args.dag.now)) c.args.condition.now) 0)))) c.seen-leaves.ensures.value c.in_ok-number.ensures.node in
    condition_tests (option_copied c.args.reads) c.args.condition.now c.args.state.now c.args.dag.now d c.in_ok-number.number c.requires.set node
