use Rattle.std.proofs.Common.{refl, map}
use Rattle.vlog_tree.specs.declared.expr.Expr.{Expr}
use Rattle.vlog_tree_runs.specs.Places.{Among}
use Rattle.elab_flat_params.specs.Constants.{is_known}
use Rattle.elab_flat_widths.specs.declared.violation.Violation.{Violation}
use Rattle.elab_flat_widths.specs.Taken.{Breaks, taken_at}
use Rattle.elab_flat_widths.proofs.Takes.{fails_map}
use Rattle.elab_flat_widths.specs.Cases.{expr_meant}
use Rattle.elab_flat_drivers.proofs.Naming.{meant_at}
use Rattle.elab_flat_widths.proofs.cases.check_all_at.Goals as goal

pub check_at-requires-clause-parts : goal.check_at-requires-clause-parts
check_at-requires-clause-parts c =
    (c.requires.ready c.expr-item.result.now (meant_at expr_meant c.args.exprs.now c.args.exprs.now _ c.loop-expr.expr-index c.expr-item.result c.loop-expr-test.true c.expr-item.is refl refl)).parts

pub check_at-requires-clause-formed : goal.check_at-requires-clause-formed
check_at-requires-clause-formed c =
    (c.requires.ready c.expr-item.result.now (meant_at expr_meant c.args.exprs.now c.args.exprs.now _ c.loop-expr.expr-index c.expr-item.result c.loop-expr-test.true c.expr-item.is refl refl)).formed

pub check_at-requires-clause-long : goal.check_at-requires-clause-long
check_at-requires-clause-long c =
    (c.requires.ready c.expr-item.result.now (meant_at expr_meant c.args.exprs.now c.args.exprs.now _ c.loop-expr.expr-index c.expr-item.result c.loop-expr-test.true c.expr-item.is refl refl)).long

pub returns-in-Err-clause-err : goal.returns-in-Err-clause-err
returns-in-Err-clause-err c =
    let test = is_known c.args.params.now in
    let v = c.args.rest.now in
    let a = c.expr-item.result.now in
    let n = c.args.shape.0 in
    let s = c.args.shape.1 in
    fails_map (Breaks test v (taken_at a n s)) (λ (w : Violation). (x : Expr) × Among (map expr_meant c.args.exprs.now) x × Breaks test v (taken_at x n s) w)
    (λ w h. (a, meant_at expr_meant c.args.exprs.now c.args.exprs.now _ c.loop-expr.expr-index c.expr-item.result c.loop-expr-test.true c.expr-item.is refl refl, h)) c.in-Err.violation
    c.in-Err.ensures.err
