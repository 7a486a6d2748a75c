use Rattle.std.proofs.Common.{◌+◌, List, take, sym, subst}
use Rattle.set_tree.specs.Formulas.{largest_offset}
use Rattle.elab_step_expr.specs.declared.leaves.Leaf.{Leaf}
use Rattle.elab_step_expr.specs.Leaves.{AreReady}
use Rattle.elab_step_expr.specs.Terms.{IsAlone}
use Rattle.twin_tests.specs.Leaves.{leaves_from}
use Rattle.twin_tests.proofs.Read.{ready_read, alone_read}
use Rattle.twin_tests.proofs.Naming.{leaves_are, longs, read_leaves, rows_ready, formula_alone, formula_counts, made_wide}
use Rattle.twin_tests.proofs.Told.{ok_two}
use Rattle.twin_tests.proofs.formula.formula_node.Goals as goal

pub leaves_of-requires-clause-long : goal.leaves_of-requires-clause-long
leaves_of-requires-clause-long c =
    longs c.args.set.now.names c.as_slice.result.now c.args.rows.now c.rows_before.result.now c.largest.result (largest_offset c.args.formula.now) c.args.dag.now c.as_slice.ensures c.rows_before.ensures c.largest.ensures
    (read_leaves c.args.set.now c.args.formula.now c.args.dag.now c.args.rows.now c.requires.readable c.requires.leaves)

pub value_node-requires-clause-ready : goal.value_node-requires-clause-ready
value_node-requires-clause-ready c =
    let names = c.args.set.now.names in
    let rows = c.args.rows.now in
    let d = c.args.dag.now in
    let k = largest_offset c.args.formula.now in
    subst (λ (z : List Leaf). AreReady z d) (sym (leaves_are names c.as_slice.result.now rows c.rows_before.result.now c.largest.result k c.args.formula.now c.in_ok-leaves.leaves c.in_ok-leaves.ensures c.as_slice.ensures c.rows_before.ensures c.largest.ensures))
    (ready_read d (leaves_from names 0 (take (k + 1) rows)) c.args.formula.now (rows_ready names 0 (take (k + 1) rows) d c.requires.widths (read_leaves c.args.set.now c.args.formula.now d rows c.requires.readable c.requires.leaves)))

pub value_node-requires-clause-alone : goal.value_node-requires-clause-alone
value_node-requires-clause-alone c =
    let names = c.args.set.now.names in
    let rows = c.args.rows.now in
    let k = largest_offset c.args.formula.now in
    subst (λ (z : List Leaf). IsAlone z c.args.formula.now) (sym (leaves_are names c.as_slice.result.now rows c.rows_before.result.now c.largest.result k c.args.formula.now c.in_ok-leaves.leaves c.in_ok-leaves.ensures c.as_slice.ensures c.rows_before.ensures c.largest.ensures))
    (alone_read (leaves_from names 0 (take (k + 1) rows)) c.args.formula.now (formula_alone c.args.set.now c.args.formula.now c.args.dag.now rows c.requires.readable c.requires.leaves))

pub returns-clause-node : goal.returns-clause-node
returns-clause-node c =
    ok_two c.value_node.result _ _ _ (λ i long made f shows.
    formula_counts c.args.dag.now c.value_node.new.dag c.args.set.now c.args.formula.now c.args.rows.now i _ f c.in_ok-leaves.leaves c.requires.readable long made
    (leaves_are c.args.set.now.names c.as_slice.result.now c.args.rows.now c.rows_before.result.now c.largest.result (largest_offset c.args.formula.now) c.args.formula.now c.in_ok-leaves.leaves c.in_ok-leaves.ensures c.as_slice.ensures c.rows_before.ensures c.largest.ensures) shows) c.value_node.ensures.length c.value_node.ensures.node

pub returns-clause-wide : goal.returns-clause-wide
returns-clause-wide c = ok_two c.value_node.result _ _ _ (λ i long made. made_wide c.value_node.new.dag i _ _ long made) c.value_node.ensures.length c.value_node.ensures.node
