use Rattle.std.proofs.Common.{◌≡◌, Some}
use Rattle.vlog_tree_runs.specs.Places.{Name, Among}
use Rattle.elab_flat_faults.specs.Texts.{names_in}
use Rattle.elab_flat_names.proofs.Searches.{one_found, none_found}
use Rattle.elab_flat_clocks.specs.Tables.{input_at}
use Rattle.elab_flat_clocks.proofs.Reading.{found_read, past, none_read}
use Rattle.elab_flat_clocks.proofs.reads.read_among.Goals as goal

pub returns-in-Some : goal.returns-in-Some
returns-in-Some c =
    let P : Name → Type 0 = λ x. Among (names_in c.expr-item.result.now) x × (input_at c.args.table.now x ≡ Some c.args.clock.now) in
    found_read c.args.exprs.now c.args.table.now c.args.clock.now c.loop-expr.expr-index c.expr-item.result c.loop-expr-test.true c.expr-item.is
    c.in-Some.name.now (one_found P c.in_ok-name.field-0 c.in-Some.name c.in_ok-name.ensures c.in-Some.is)

pub loop-expr-preserved : goal.loop-expr-preserved
loop-expr-preserved c =
    let P : Name → Type 0 = λ x. Among (names_in c.expr-item.result.now) x × (input_at c.args.table.now x ≡ Some c.args.clock.now) in
    past c.args.exprs.now c.args.table.now c.args.clock.now c.loop-expr.expr-index c.expr-item.result c.loop-expr-test.true c.expr-item.is c.loop-expr.invariant
    (none_found P c.in_ok-name.field-0 c.in_ok-name.ensures c.in_default.not-Some)

pub returns : goal.returns
returns c = none_read c.args.exprs.now c.args.table.now c.args.clock.now c.loop-expr.expr-index c.loop-expr-test.false c.loop-expr.invariant
