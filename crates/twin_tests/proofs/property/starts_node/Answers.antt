use Rattle.std.proofs.Common.{◌≡◌, List, length, ap, ◌∙◌}
use Rattle.std.proofs.lemmas.Result.{IfOk-weaker}
use Rattle.vlog_tree.specs.declared.expr.Expr.{Expr}
use Rattle.set_tree.specs.declared.set.Property.{Property}
use Rattle.set_tree.specs.Formulas.{meaning_of}
use Rattle.set_tree.specs.Meaning.{all_hold}
use Rattle.set_tree.specs.Parts.{assumed, committed, property_at}
use Rattle.twin_tests.proofs.Loops.{same_test}
use Rattle.twin_tests.proofs.Readings.{commitments_read}
use Rattle.elab_step_expr.proofs.Kept.{keeps_then}
use Rattle.twin_tests.proofs.Standing.{leaves_later, shows_later, tests_later}
use Rattle.twin_tests.proofs.property.starts_node.Goals as goal

pub all_node-requires-clause-readable : goal.all_node-requires-clause-readable
all_node-requires-clause-readable c = commitments_read c.args.set.now c.args.at (length c.args.rows.now) c.property_of.result.now c.as_slice-formulas.result.now c.requires.structure c.requires.follows c.as_slice-formulas.ensures c.property_of.ensures

pub all_node-requires-clause-leaves : goal.all_node-requires-clause-leaves
all_node-requires-clause-leaves c = leaves_later c.args.dag.now c.assumed_node.new.dag c.args.set.now.names c.args.rows.now c.in_ok-assumed.ensures.keeps c.requires.leaves

pub returns-clause-keeps : goal.returns-clause-keeps
returns-clause-keeps c =
    IfOk-weaker c.both.result _ _ (λ i made.
    let one = c.assumed_node.new.dag in
    let two = c.all_node.new.dag in
    keeps_then c.args.dag.now two c.both.new.dag (keeps_then c.args.dag.now one two c.in_ok-assumed.ensures.keeps c.in_ok-committed.ensures.keeps) made) c.both.ensures.keeps

pub returns-clause-node : goal.returns-clause-node
returns-clause-node c =
    IfOk-weaker c.both.result _ _ (λ i made f shows.
    let m = meaning_of c.args.set.now in
    let set = c.args.set.now in
    let p = c.args.at in
    let one = c.assumed_node.new.dag in
    let two = c.all_node.new.dag in
    let same : c.as_slice-formulas.result.now ≡ (property_at set p).commit = c.as_slice-formulas.ensures ∙ ap (λ (y : Property). y.commit) c.property_of.ensures in
    made (λ e. assumed m set p (f e)) (λ e. committed m set p (f e)) (tests_later one two c.in_ok-assumed.assumed (λ e. assumed m set p (f e)) c.in_ok-committed.ensures.keeps (c.in_ok-assumed.ensures.node f shows))
    (same_test two c.in_ok-committed.committed (λ e. all_hold m c.as_slice-formulas.result.now (f e)) (λ e. committed m set p (f e)) (λ e. ap (λ (z : List Expr). all_hold m z (f e)) same)
    (c.in_ok-committed.ensures.node f (shows_later c.args.dag.now one set.names c.args.rows.now f c.in_ok-assumed.ensures.keeps shows)))) c.both.ensures.node
