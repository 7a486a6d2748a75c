use Rattle.std.proofs.Common.{◌<◌, length, subst, arith}
use Rattle.std.proofs.lemmas.Result.{IfOk-weaker}
use Rattle.elab_step_expr.specs.Leaves.{declared}
use Rattle.elab_step_blocks.specs.Sparing.{Spares, EachSpares, ItemsSpare, SparesLeft}
use Rattle.elab_step_blocks.proofs.Picking.{case_ready, ready_item}
use Rattle.elab_step_blocks.proofs.Storing.{block_ready, each_ready, if_ready, if_else_ready}
use Rattle.elab_step_blocks.proofs.Sparing.{gathers_as, gathers_then, spares_block, spares_if, spares_if_else, spares_case, spares_blocking, spares_nonblocking, stmts_next, items_next}
use Rattle.elab_step_blocks.proofs.places.+add_stmt.Goals as goal

pub add_stmts-one-requires : goal.add_stmts-one-requires
add_stmts-one-requires t c =
    let lt : c.loop-stmt.stmt-index < length c.args.stmts.now = omega (arith, c.loop-stmt-test.true, c.loop-stmt.auto.stmt-index-end) in
    each_ready (declared c.args.leaves.now) c.args.stmts.now c.loop-stmt.stmt-index c.stmt-item.result _ c.requires.stmts lt c.stmt-item.is

pub add_stmts-loop-stmt-preserved : goal.add_stmts-loop-stmt-preserved
add_stmts-loop-stmt-preserved t c =
    let lt : c.loop-stmt.stmt-index < length c.args.stmts.now = omega (arith, c.loop-stmt-test.true, c.loop-stmt.auto.stmt-index-end) in
    stmts_next c.args.leaves.now c.args.stmts.now c.loop-stmt.stmt-index c.stmt-item.result c.one.result.now _ c.args.places.now.items c.loop-stmt.places.items c.add_stmt.new.places.items lt c.stmt-item.is c.one.ensures.same
    c.loop-stmt.invariant c.in_ok-add_stmt.ensures

pub add_items-loop-item-preserved : goal.add_items-loop-item-preserved
add_items-loop-item-preserved t c =
    let lt : c.loop-item.item-index < length c.args.items.now = omega (arith, c.loop-item-test.true, c.loop-item.auto.item-index-end) in
    items_next c.args.leaves.now c.args.items.now c.loop-item.item-index c.item-item.result _ c.body.result.now c.args.places.now.items c.loop-item.places.items c.add_stmt.new.places.items lt c.item-item.is c.body.ensures.same
    c.loop-item.invariant c.in_ok-add_stmt.ensures

pub add_items-body-requires : goal.add_items-body-requires
add_items-body-requires t c =
    let lt : c.loop-item.item-index < length c.args.items.now = omega (arith, c.loop-item-test.true, c.loop-item.auto.item-index-end) in
    ready_item (declared c.args.leaves.now) c.args.items.now c.loop-item.item-index c.item-item.result _ c.requires.items lt c.item-item.is

pub add_stmt-statements-requires : goal.add_stmt-statements-requires
add_stmt-statements-requires t c = block_ready (declared c.args.leaves.now) c.in-Block.field-0 c.in-Block.stmts c.args.stmt.now c.in-Block.is c.requires.stmt

pub add_stmt-part-requires : goal.add_stmt-part-requires
add_stmt-part-requires t c = (if_ready (declared c.args.leaves.now) c.in-If.field-0 c.in-If.body c.args.stmt.now c.in-If.is c.requires.stmt).1

pub add_stmt-part-requires-in-IfElse : goal.add_stmt-part-requires-in-IfElse
add_stmt-part-requires-in-IfElse t c = (if_else_ready (declared c.args.leaves.now) c.in-IfElse.field-0 c.in-IfElse.body c.in-IfElse.other c.args.stmt.now c.in-IfElse.is c.requires.stmt).1

pub add_stmt-part-requires-in-IfElse-2 : goal.add_stmt-part-requires-in-IfElse-2
add_stmt-part-requires-in-IfElse-2 t c = (if_else_ready (declared c.args.leaves.now) c.in-IfElse.field-0 c.in-IfElse.body c.in-IfElse.other c.args.stmt.now c.in-IfElse.is c.requires.stmt).2

pub add_stmt-listed-requires : goal.add_stmt-listed-requires
add_stmt-listed-requires t c = (case_ready (declared c.args.leaves.now) c.in-Case.field-0 c.in-Case.field-1 c.in-Case.items c.args.stmt.now c.in-Case.is c.requires.stmt).1

pub add_stmt-returns-in-Block : goal.add_stmt-returns-in-Block
add_stmt-returns-in-Block t c =
    let ls = c.args.leaves.now in
    IfOk-weaker c.add_stmts.result _ _
    (λ u h. gathers_as ls c.args.places.now.items c.add_stmts.new.places.items (EachSpares ls c.statements.result.now) (Spares ls c.args.stmt.now)
    (λ x k. spares_block ls c.in-Block.field-0 c.in-Block.stmts c.statements.result.now c.args.stmt.now x c.in-Block.is c.statements.ensures.same k) h) c.add_stmts.ensures

pub add_stmt-returns-in-If : goal.add_stmt-returns-in-If
add_stmt-returns-in-If t c =
    let ls = c.args.leaves.now in
    IfOk-weaker c.add_stmt.result _ _
    (λ u h. gathers_as ls c.args.places.now.items c.add_stmt.new.places.items (Spares ls c.part.result.now) (Spares ls c.args.stmt.now)
    (λ x k. spares_if ls c.in-If.field-0 c.in-If.body c.args.stmt.now x c.in-If.is (subst (λ z. Spares ls z x) c.part.ensures.same k)) h) c.add_stmt.ensures

pub add_stmt-returns-in_ok-add_stmt-in-IfElse : goal.add_stmt-returns-in_ok-add_stmt-in-IfElse
add_stmt-returns-in_ok-add_stmt-in-IfElse t c =
    let ls = c.args.leaves.now in
    IfOk-weaker c.add_stmt-in-IfElse-2.result _ _
    (λ u h. gathers_then ls c.args.places.now.items c.add_stmt-in-IfElse.new.places.items c.add_stmt-in-IfElse-2.new.places.items (Spares ls c.part-in-IfElse.result.now) (Spares ls c.part-in-IfElse-2.result.now) (Spares ls c.args.stmt.now)
    (λ x p q. spares_if_else ls c.in-IfElse.field-0 c.in-IfElse.body c.in-IfElse.other c.args.stmt.now x c.in-IfElse.is (subst (λ z. Spares ls z x) c.part-in-IfElse.ensures.same p) (subst (λ z. Spares ls z x) c.part-in-IfElse-2.ensures.same q))
    c.in_ok-add_stmt-in-IfElse.ensures h) c.add_stmt-in-IfElse-2.ensures

pub add_stmt-returns-in-Case : goal.add_stmt-returns-in-Case
add_stmt-returns-in-Case t c =
    let ls = c.args.leaves.now in
    IfOk-weaker c.add_items.result _ _
    (λ u h. gathers_as ls c.args.places.now.items c.add_items.new.places.items (ItemsSpare ls c.listed.result.now) (Spares ls c.args.stmt.now)
    (λ x k. spares_case ls c.in-Case.field-0 c.in-Case.field-1 c.in-Case.items c.listed.result.now c.args.stmt.now x c.in-Case.is c.listed.ensures.same k) h) c.add_items.ensures

pub add_stmt-returns-in-Blocking : goal.add_stmt-returns-in-Blocking
add_stmt-returns-in-Blocking t c =
    let ls = c.args.leaves.now in
    IfOk-weaker c.add_left.result _ _
    (λ u h. gathers_as ls c.args.places.now.items c.add_left.new.places.items (SparesLeft ls c.in-Blocking.left) (Spares ls c.args.stmt.now)
    (λ x k. spares_blocking ls c.in-Blocking.left c.in-Blocking.field-1 c.args.stmt.now x c.in-Blocking.is k) h) c.add_left.ensures

pub add_stmt-returns-in-Nonblocking : goal.add_stmt-returns-in-Nonblocking
add_stmt-returns-in-Nonblocking t c =
    let ls = c.args.leaves.now in
    IfOk-weaker c.add_left-in-Nonblocking.result _ _
    (λ u h. gathers_as ls c.args.places.now.items c.add_left-in-Nonblocking.new.places.items (SparesLeft ls c.in-Nonblocking.left) (Spares ls c.args.stmt.now)
    (λ x k. spares_nonblocking ls c.in-Nonblocking.left c.in-Nonblocking.field-1 c.args.stmt.now x c.in-Nonblocking.is k) h) c.add_left-in-Nonblocking.ensures
