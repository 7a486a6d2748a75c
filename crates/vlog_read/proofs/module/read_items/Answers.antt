use Rattle.std.proofs.Common.{arith, refl, sym, subst}
use Rattle.vlog_read_expr.proofs.SignTests.{yes_by, no_by}
use Rattle.std.proofs.lemmas.Result.{err_from_is_err_and}
use Rattle.vlog_read.proofs.ItemSteps.{ItemsSoFar, items_begin, items_grow, items_end, items_refuse}
use Rattle.vlog_read.proofs.module.read_items.Goals as goal

pub loop-alloc-init : goal.loop-alloc-init
loop-alloc-init c = subst (λ z. ItemsSoFar c.args.tokens.now c.args.at c.args.depth z 0 c.args.at) (sym c.new-items.ensures) (items_begin _ _ _)

pub loop-alloc-smaller : goal.loop-alloc-smaller
loop-alloc-smaller c = omega (arith, c.in_ok-item.ensures.1, c.in_ok-item.ensures.0.within)

pub loop-alloc-preserved : goal.loop-alloc-preserved
loop-alloc-preserved c = items_grow _ _ _ _ _ _ c.loop-alloc.invariant (no_by _ c.is_word.ensures c.loop-alloc-test.true) _ c.in_ok-item.ensures.0 _ c.in_ok-push.ensures.ok _ c.max-height.ensures

pub returns : goal.returns
returns c = items_end _ _ _ _ _ _ c.loop-alloc.invariant (yes_by _ c.is_word.ensures c.loop-alloc-test.false) _ refl refl refl

pub returns-in_err-item : goal.returns-in_err-item
returns-in_err-item c =
    let p = err_from_is_err_and c.from_residual.result c.from_residual.ensures.1 in
    rw (p.1, p.2) (items_refuse _ _ _ _ _ _ c.loop-alloc.invariant (no_by _ c.is_word.ensures c.loop-alloc-test.true) _ c.in_err-item.ensures)
