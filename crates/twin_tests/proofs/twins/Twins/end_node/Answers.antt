use Rattle.std.proofs.Common.{◌≡◌, ◌<◌, length, ap, arith}
use Rattle.std.proofs.lemmas.Result.{IfOk-weaker}
use Rattle.twin_tests_laws.specs.Windows.{named_rows}
use Rattle.set_tree.specs.declared.set.Property.{Property}
use Rattle.set_tree.specs.Parts.{window_of}
use Rattle.twin_tests.proofs.Framed.{rows_show}
use Rattle.twin_tests.proofs.twins.Twins.end_node.Goals as goal

pub returns-clause-node : goal.returns-clause-node
returns-clause-node c =
    IfOk-weaker c.ends_node.result _ _ (λ i made.
    let set = c.args.self.now.set.now in
    let frame = c.args.frame.now in
    let p = c.args.p in
    let end = c.property_of.result.now.window in
    let same : end ≡ window_of set p = ap (λ (y : Property). y.window) c.property_of.ensures in
    let lt : end < length frame.rows.items = omega (arith, same, c.requires.within) in
    made (λ e. named_rows set e frame.side (window_of set p)) (rows_show set c.args.dag.now frame end (window_of set p) c.rows_to.result.now c.rows_to.ensures same lt c.requires.frame)) c.ends_node.ensures.node
