use Rattle.std.proofs.Common.{sym, subst, ◌∙◌}
use Rattle.vlog_tree.specs.declared.expr.Expr.{Expr}
use Rattle.vlog_tree.specs.Value.{IsFormed}
use Rattle.vlog_tree_values.proofs.Forms.{unary_formed}
use Rattle.elab_step_expr.specs.Leaves.{declared}
use Rattle.elab_step_expr.proofs.Taken.{inner_taken, reduced, unreduced}
use Rattle.elab_step_expr.proofs.operands.unary_place.Goals as goal

pub shape-requires : goal.shape-requires
shape-requires c = subst (λ (z : Expr). IsFormed (declared c.args.leaves.now) z) (sym c.get.ensures) (unary_formed (declared c.args.leaves.now) c.args.op c.args.inner.now c.args.expr.now c.requires.is c.requires.taken.ready.formed)

pub returns-then-is_reduction-clause-taken : goal.returns-then-is_reduction-clause-taken
returns-then-is_reduction-clause-taken c =
    inner_taken c.args.leaves.now c.args.expr.now c.args.here.0 c.args.here.1 c.requires.taken c.args.op c.args.inner.now c.in_ok-own.own.0 c.in_ok-own.own.1 c.requires.is
    (reduced c.args.leaves.now c.args.op c.args.inner.now c.get.result.now c.args.here.0 c.args.here.1 c.in_ok-own.own.0 c.in_ok-own.own.1 (sym c.is_reduction.ensures ∙ c.if-is_reduction.true) c.get.ensures c.in_ok-own.ensures)

pub returns-clause-taken : goal.returns-clause-taken
returns-clause-taken c =
    inner_taken c.args.leaves.now c.args.expr.now c.args.here.0 c.args.here.1 c.requires.taken c.args.op c.args.inner.now c.args.here.0 c.args.here.1 c.requires.is
    (unreduced c.args.leaves.now c.args.op c.args.inner.now c.args.here.0 c.args.here.1 (sym c.is_reduction.ensures ∙ c.if-is_reduction.false))
