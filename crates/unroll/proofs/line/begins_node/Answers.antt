use Rattle.std.proofs.lemmas.Result.{IfOk-weaker}
use Rattle.twin_tests_laws.specs.Tests.{meets_constraints}
use Rattle.set_tree.specs.Formulas.{meaning_of}
use Rattle.unroll_laws.specs.Tests.{meets_invariants}
use Rattle.twin_tests.proofs.Standing.{leaves_later}
use Rattle.unroll.proofs.Joining.{joined}
use Rattle.unroll.proofs.line.begins_node.Goals as goal

pub invariants_node-requires-clause-leaves : goal.invariants_node-requires-clause-leaves
invariants_node-requires-clause-leaves c = leaves_later c.args.dag.now c.constraints_node.new.dag c.args.set.now.names c.args.rows.now c.in_ok-met.ensures.keeps c.requires.leaves

pub returns-clause-node : goal.returns-clause-node
returns-clause-node c =
    IfOk-weaker c.both.result _ _ (λ i made.
    let set = c.args.set.now in
    let m = meaning_of set in
    let start = c.args.dag.now in
    let rows = c.args.rows.now in
    joined set.names start c.constraints_node.new.dag c.invariants_node.new.dag c.both.new.dag rows c.in_ok-met.met c.in_ok-invariants.invariants i (λ r. meets_constraints m set r) (λ r. meets_invariants m set r) c.in_ok-met.ensures.keeps c.in_ok-invariants.ensures.keeps c.in_ok-met.ensures.node c.in_ok-invariants.ensures.node made) c.both.ensures.node
