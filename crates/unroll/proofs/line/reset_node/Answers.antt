use Rattle.std.proofs.Common.{not}
use Rattle.std.proofs.lemmas.Result.{IfOk-weaker}
use Rattle.twin_tests_laws.specs.Tests.{meets_constraints}
use Rattle.set_tree.specs.Formulas.{meaning_of}
use Rattle.set_tree.specs.Parts.{committed}
use Rattle.twin_tests.proofs.Standing.{leaves_later}
use Rattle.unroll.proofs.Joining.{joined}
use Rattle.unroll.proofs.line.reset_node.Goals as goal

pub broken_node-requires-clause-leaves : goal.broken_node-requires-clause-leaves
broken_node-requires-clause-leaves c = leaves_later c.args.dag.now c.constraints_node.new.dag c.args.set.now.names c.args.rows.now c.in_ok-met.ensures.keeps c.requires.leaves

pub returns-clause-node : goal.returns-clause-node
returns-clause-node c =
    IfOk-weaker c.both.result _ _ (λ i made.
    let set = c.args.set.now in
    let m = meaning_of set in
    let start = c.args.dag.now in
    let rows = c.args.rows.now in
    joined set.names start c.constraints_node.new.dag c.broken_node.new.dag c.both.new.dag rows c.in_ok-met.met c.in_ok-broken.broken i (λ r. meets_constraints m set r) (λ r. not (committed m set 0 r)) c.in_ok-met.ensures.keeps c.in_ok-broken.ensures.keeps c.in_ok-met.ensures.node c.in_ok-broken.ensures.node made) c.both.ensures.node
