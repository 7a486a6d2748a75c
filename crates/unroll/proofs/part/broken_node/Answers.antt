use Rattle.std.proofs.Common.{◌≡◌, List, length, not, ap, ◌∙◌}
use Rattle.std.proofs.lemmas.Result.{IfOk-weaker}
use Rattle.vlog_tree.specs.declared.expr.Expr.{Expr}
use Rattle.set_tree.specs.declared.set.Property.{Property}
use Rattle.set_tree.specs.Formulas.{meaning_of}
use Rattle.set_tree.specs.Meaning.{all_hold}
use Rattle.set_tree.specs.Parts.{committed, property_at}
use Rattle.twin_tests.proofs.Loops.{same_test}
use Rattle.twin_tests.proofs.Readings.{commitments_read}
use Rattle.unroll.proofs.part.broken_node.Goals as goal

pub all_node-requires-clause-readable : goal.all_node-requires-clause-readable
all_node-requires-clause-readable c = commitments_read c.args.set.now c.args.at (length c.args.rows.now) c.property_of.result.now c.as_slice-formulas.result.now c.requires.structure c.requires.follows c.as_slice-formulas.ensures c.property_of.ensures

pub returns-clause-node : goal.returns-clause-node
returns-clause-node c =
    IfOk-weaker c.negated.result _ _ (λ i made f shows.
    let m = meaning_of c.args.set.now in
    let set = c.args.set.now in
    let p = c.args.at in
    let same : c.as_slice-formulas.result.now ≡ (property_at set p).commit = c.as_slice-formulas.ensures ∙ ap (λ (y : Property). y.commit) c.property_of.ensures in
    same_test c.negated.new.dag i (λ e. not (all_hold m c.as_slice-formulas.result.now (f e))) (λ e. not (committed m set p (f e))) (λ e. ap (λ (z : List Expr). not (all_hold m z (f e))) same)
    (made (λ e. all_hold m c.as_slice-formulas.result.now (f e)) (c.in_ok-holds.ensures.node f shows))) c.negated.ensures.node
