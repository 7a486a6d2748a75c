use Rattle.std.proofs.Common.{◌≡◌, ◌<◌, List, length, ap, ◌∙◌, arith}
use Rattle.vlog_tree.specs.declared.expr.Expr.{Expr}
use Rattle.std.proofs.lemmas.Result.{IfOk-weaker}
use Rattle.set_tree.specs.declared.set.Property.{Property}
use Rattle.set_tree.specs.Formulas.{meaning_of}
use Rattle.set_tree.specs.Meaning.{all_hold}
use Rattle.set_tree.specs.Parts.{assumed, property_at}
use Rattle.twin_tests.proofs.Ends.{assumed_later}
use Rattle.twin_tests.proofs.Loops.{same_test}
use Rattle.twin_tests.proofs.Readings.{assumptions_read}
use Rattle.twin_tests.proofs.property.assumed_node.Goals as goal

pub all_node-requires-clause-readable : goal.all_node-requires-clause-readable
all_node-requires-clause-readable c = assumptions_read c.args.set.now c.args.at (length c.args.rows.now) c.property_of.result.now c.as_slice-formulas.result.now c.requires.structure c.requires.follows c.as_slice-formulas.ensures c.property_of.ensures

pub returns-clause-node : goal.returns-clause-node
returns-clause-node c =
    IfOk-weaker c.all_node.result _ _ (λ i made f shows.
    let m = meaning_of c.args.set.now in
    let set = c.args.set.now in
    let p = c.args.at in
    let later : 0 < p = omega (arith, c.if-at-eq0.false) in
    let same : c.as_slice-formulas.result.now ≡ (property_at set p).assume = c.as_slice-formulas.ensures ∙ ap (λ (y : Property). y.assume) c.property_of.ensures in
    same_test c.all_node.new.dag i (λ e. all_hold m c.as_slice-formulas.result.now (f e)) (λ e. assumed m set p (f e)) (λ e. ap (λ (z : List Expr). all_hold m z (f e)) same ∙ assumed_later m set p (f e) later) (made f shows)) c.all_node.ensures.node
