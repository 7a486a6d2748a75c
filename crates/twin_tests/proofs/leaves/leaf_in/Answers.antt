use Rattle.std.proofs.Common.{Option, ◌≡◌, sym, ◌∙◌, ap, subst, arith}
use Rattle.std.specs.Prelude.{IfOk, ◌<◌, length}
use Rattle.elab_step_expr.specs.declared.leaves.Leaf.{Leaf}
use Rattle.elab_step_expr.specs.Leaves.{leaf_at}
use Rattle.twin_tests.specs.Leaves.{row_leaves}
use Rattle.twin_tests.proofs.Finding.{past_rows, row_at}
use Rattle.twin_tests.proofs.leaves.leaf_in.Goals as goal

pub returns-then-rows-offset : goal.returns-then-rows-offset
returns-then-rows-offset c = sym (past_rows c.args.names.now 0 c.args.rows.now c.args.read.now.text c.args.read.now.offset (omega (arith, c.if-rows-offset.true)))

pub returns : goal.returns
returns c =
    let lt : c.args.read.now.offset < length c.args.rows.now = omega (arith, c.if-rows-offset.false) in
    let row = c.index-rows-offset.result in
    let at = row_at c.args.names.now c.args.read.now.offset c.args.rows.now row c.args.read.now.text lt c.index-rows-offset.is in
    subst (λ (z : Option Leaf). IfOk c.row_leaf.result (λ leaf. leaf ≡ z)) (ap (λ text. leaf_at (row_leaves c.args.names.now c.args.read.now.offset row) text c.args.read.now.offset) c.bytes.ensures ∙ sym at) c.row_leaf.ensures
