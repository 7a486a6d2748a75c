use Rattle.std.proofs.Common.{sym, subst}
use Rattle.vlog_tree.specs.declared.expr.Expr.{Expr}
use Rattle.vlog_tree.specs.Value.{IsFormed}
use Rattle.vlog_tree_values.proofs.Forms.{binary_formed}
use Rattle.elab_step_expr.specs.Leaves.{declared}
use Rattle.elab_step_expr.proofs.Taken.{first_taken, second_taken, operands_of}
use Rattle.elab_step_expr.proofs.operands.binary_places.Goals as goal

pub operand_places-requires-clause-left : goal.operand_places-requires-clause-left
operand_places-requires-clause-left c = subst (λ (z : Expr). IsFormed (declared c.args.leaves.now) z) (sym c.get.ensures) (binary_formed (declared c.args.leaves.now) c.args.op c.args.a.now c.args.b.now c.args.expr.now c.requires.is c.requires.taken.ready.formed).0

pub operand_places-requires-clause-right : goal.operand_places-requires-clause-right
operand_places-requires-clause-right c = subst (λ (z : Expr). IsFormed (declared c.args.leaves.now) z) (sym c.get-2.ensures) (binary_formed (declared c.args.leaves.now) c.args.op c.args.a.now c.args.b.now c.args.expr.now c.requires.is c.requires.taken.ready.formed).1

pub returns-clause-left : goal.returns-clause-left
returns-clause-left c =
    let p = c.in_ok-places.places in
    first_taken c.args.leaves.now c.args.expr.now c.args.here.0 c.args.here.1 c.requires.taken c.args.op c.args.a.now c.args.b.now p.left.0 p.right.0 p.left.1 p.right.1 c.requires.is
    (operands_of c.args.leaves.now c.args.op c.family_of.result c.args.a.now c.args.b.now c.get.result.now c.get-2.result.now c.args.here.0 c.args.here.1 p.left.0 p.right.0 p.left.1 p.right.1 c.family_of.ensures c.get.ensures c.get-2.ensures c.in_ok-places.ensures)

pub returns-clause-right : goal.returns-clause-right
returns-clause-right c =
    let p = c.in_ok-places.places in
    second_taken c.args.leaves.now c.args.expr.now c.args.here.0 c.args.here.1 c.requires.taken c.args.op c.args.a.now c.args.b.now p.left.0 p.right.0 p.left.1 p.right.1 c.requires.is
    (operands_of c.args.leaves.now c.args.op c.family_of.result c.args.a.now c.args.b.now c.get.result.now c.get-2.result.now c.args.here.0 c.args.here.1 p.left.0 p.right.0 p.left.1 p.right.1 c.family_of.ensures c.get.ensures c.get-2.ensures c.in_ok-places.ensures)
