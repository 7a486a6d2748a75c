use Rattle.std.proofs.Common.{drop}
use Rattle.std.specs.Prelude.{◌&&◌, slice_get}
use Rattle.std.proofs.lemmas.Result.{IfOk-weaker}
use Rattle.twin_tests_laws.specs.Tests.{meets_constraints}
use Rattle.set_tree.specs.Formulas.{meaning_of}
use Rattle.unroll_laws.specs.Tests.{fails, meets_invariants}
use Rattle.twin_tests.proofs.Framed.{after_shows}
use Rattle.unroll.proofs.Joining.{joined, leaves_after}
use Rattle.unroll.proofs.line.step_node.Goals as goal

pub fails_node-requires-clause-leaves : goal.fails_node-requires-clause-leaves
fails_node-requires-clause-leaves c = leaves_after c.args.set.now.names c.args.dag.now c.begins_node.new.dag c.args.rows.now c.rows_after.result.now 1 c.rows_after.ensures c.in_ok-begins.ensures.keeps c.requires.leaves

pub returns-clause-node : goal.returns-clause-node
returns-clause-node c =
    IfOk-weaker c.both.result _ _ (λ i made.
    let set = c.args.set.now in
    let m = meaning_of set in
    let start = c.args.dag.now in
    let rows = c.args.rows.now in
    let dag = c.begins_node.new.dag in
    joined set.names start dag c.fails_node.new.dag c.both.new.dag rows c.in_ok-begins.begins c.in_ok-fails.fails i (λ r. meets_constraints m set r && meets_invariants m set r) (λ r. fails m (slice_get set.invariants c.args.at) (drop 1 r)) c.in_ok-begins.ensures.keeps c.in_ok-fails.ensures.keeps c.in_ok-begins.ensures.node
    (λ f shows. c.in_ok-fails.ensures.node (λ e. drop 1 (f e)) (after_shows set.names dag rows c.rows_after.result.now 1 f c.rows_after.ensures shows)) made) c.both.ensures.node
