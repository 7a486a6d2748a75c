use Rattle.std.proofs.Common.{not}
use Rattle.std.specs.Prelude.{◌&&◌}
use Rattle.std.proofs.lemmas.Result.{IfOk-weaker}
use Rattle.twin_tests_laws.specs.Tests.{meets_constraints}
use Rattle.set_tree.specs.Formulas.{meaning_of}
use Rattle.set_tree.specs.Parts.{assumed, committed}
use Rattle.unroll_laws.specs.Tests.{meets_invariants}
use Rattle.elab_step_expr.proofs.Kept.{keeps_then}
use Rattle.twin_tests.proofs.Standing.{leaves_later}
use Rattle.unroll.proofs.Joining.{joined}
use Rattle.unroll.proofs.line.operation_node.Goals as goal

pub assumed_node-requires-clause-leaves : goal.assumed_node-requires-clause-leaves
assumed_node-requires-clause-leaves c = leaves_later c.args.dag.now c.begins_node.new.dag c.args.set.now.names c.args.rows.now c.in_ok-begins.ensures.keeps c.requires.leaves

pub broken_node-requires-clause-leaves : goal.broken_node-requires-clause-leaves
broken_node-requires-clause-leaves c =
    let start = c.args.dag.now in
    let second = keeps_then start c.begins_node.new.dag c.assumed_node.new.dag c.in_ok-begins.ensures.keeps c.in_ok-assumed.ensures.keeps in
    leaves_later start c.both.new.dag c.args.set.now.names c.args.rows.now (keeps_then start c.assumed_node.new.dag c.both.new.dag second c.in_ok-starts.ensures.keeps) c.requires.leaves

pub returns-clause-keeps : goal.returns-clause-keeps
returns-clause-keeps c =
    IfOk-weaker c.both-2.result _ _ (λ i made.
    let start = c.args.dag.now in
    let second = keeps_then start c.begins_node.new.dag c.assumed_node.new.dag c.in_ok-begins.ensures.keeps c.in_ok-assumed.ensures.keeps in
    let third = keeps_then start c.assumed_node.new.dag c.both.new.dag second c.in_ok-starts.ensures.keeps in
    let fourth = keeps_then start c.both.new.dag c.broken_node.new.dag third c.in_ok-broken.ensures.keeps in
    keeps_then start c.broken_node.new.dag c.both-2.new.dag fourth made) c.both-2.ensures.keeps

pub returns-clause-node : goal.returns-clause-node
returns-clause-node c =
    IfOk-weaker c.both-2.result _ _ (λ i made.
    let set = c.args.set.now in
    let m = meaning_of set in
    let start = c.args.dag.now in
    let rows = c.args.rows.now in
    let a = c.begins_node.new.dag in
    let b = c.assumed_node.new.dag in
    let d = c.both.new.dag in
    let sb = keeps_then start a b c.in_ok-begins.ensures.keeps c.in_ok-assumed.ensures.keeps in
    let sd = keeps_then start b d sb c.in_ok-starts.ensures.keeps in
    let starts = joined set.names start a b d rows c.in_ok-begins.begins c.in_ok-assumed.assumed c.in_ok-starts.starts (λ r. meets_constraints m set r && meets_invariants m set r) (λ r. assumed m set c.args.at r) c.in_ok-begins.ensures.keeps c.in_ok-assumed.ensures.keeps c.in_ok-begins.ensures.node c.in_ok-assumed.ensures.node c.in_ok-starts.ensures.node in
    joined set.names start d c.broken_node.new.dag c.both-2.new.dag rows c.in_ok-starts.starts c.in_ok-broken.broken i (λ r. meets_constraints m set r && meets_invariants m set r && assumed m set c.args.at r) (λ r. not (committed m set c.args.at r)) sd c.in_ok-broken.ensures.keeps starts c.in_ok-broken.ensures.node made) c.both-2.ensures.node
