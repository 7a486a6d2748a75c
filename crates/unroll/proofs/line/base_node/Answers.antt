use Rattle.std.specs.Prelude.{slice_get}
use Rattle.std.proofs.lemmas.Result.{IfOk-weaker}
use Rattle.twin_tests_laws.specs.Tests.{meets_constraints}
use Rattle.set_tree.specs.Formulas.{meaning_of}
use Rattle.unroll_laws.specs.Tests.{fails}
use Rattle.twin_tests.proofs.Standing.{leaves_later}
use Rattle.unroll.proofs.Joining.{joined}
use Rattle.unroll.proofs.line.base_node.Goals as goal

pub fails_node-requires-clause-leaves : goal.fails_node-requires-clause-leaves
fails_node-requires-clause-leaves c = leaves_later c.args.dag.now c.constraints_node.new.dag c.args.set.now.names c.args.rows.now c.in_ok-met.ensures.keeps c.requires.leaves

pub returns-clause-node : goal.returns-clause-node
returns-clause-node c =
    IfOk-weaker c.both.result _ _ (λ i made.
    let set = c.args.set.now in
    let m = meaning_of set in
    let start = c.args.dag.now in
    let rows = c.args.rows.now in
    joined set.names start c.constraints_node.new.dag c.fails_node.new.dag c.both.new.dag rows c.in_ok-met.met c.in_ok-fails.fails i (λ r. meets_constraints m set r) (λ r. fails m (slice_get set.invariants c.args.at) r) c.in_ok-met.ensures.keeps c.in_ok-fails.ensures.keeps c.in_ok-met.ensures.node c.in_ok-fails.ensures.node made) c.both.ensures.node
