use Rattle.std.specs.Prelude.{◌&&◌}
use Rattle.std.proofs.lemmas.Result.{IfOk-weaker}
use Rattle.elab_step_expr.proofs.Kept.{keeps_then}
use Rattle.twin_tests_laws.specs.Tests.{meets_constraints}
use Rattle.set_tree.specs.Formulas.{meaning_of}
use Rattle.set_tree.specs.Parts.{assumed}
use Rattle.unroll_laws.specs.Tests.{meets_invariants}
use Rattle.twin_tests.proofs.Standing.{leaves_later}
use Rattle.unroll.proofs.Joining.{joined}
use Rattle.meet_lines.proofs.node.operation_node.Goals as goal

pub assumed_node-requires-clause-leaves : goal.assumed_node-requires-clause-leaves
assumed_node-requires-clause-leaves c = leaves_later c.args.dag.now c.begins_node.new.dag c.args.set.now.names c.args.rows.now c.in_ok-begins.ensures.keeps c.requires.leaves

pub returns-clause-keeps : goal.returns-clause-keeps
returns-clause-keeps c =
    let start = c.args.dag.now in
    IfOk-weaker c.both.result _ _ (λ i keeps. keeps_then start c.assumed_node.new.dag c.both.new.dag (keeps_then start c.begins_node.new.dag c.assumed_node.new.dag c.in_ok-begins.ensures.keeps c.in_ok-assumed.ensures.keeps) keeps) c.both.ensures.keeps

pub returns-clause-node : goal.returns-clause-node
returns-clause-node c =
    let set = c.args.set.now in
    let m = meaning_of set in
    IfOk-weaker c.both.result _ _
    (λ i node. joined set.names c.args.dag.now c.begins_node.new.dag c.assumed_node.new.dag c.both.new.dag c.args.rows.now c.in_ok-begins.begins c.in_ok-assumed.assumed i
    (λ r. meets_constraints m set r && meets_invariants m set r) (λ r. assumed m set c.args.at r) c.in_ok-begins.ensures.keeps c.in_ok-assumed.ensures.keeps c.in_ok-begins.ensures.node c.in_ok-assumed.ensures.node node) c.both.ensures.node
