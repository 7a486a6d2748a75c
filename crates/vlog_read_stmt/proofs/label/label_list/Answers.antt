use Rattle.std.proofs.Common.{◌≡◌, [], ◌∷◌, ◌++◌, arith, refl, ◌∙◌, ap}
use Rattle.std.proofs.lemmas.Result.{err_from_is_err_and}
use Rattle.vlog_read_spelling.proofs.Tokens.{kind_within}
use Rattle.vlog_read_expr.proofs.SignTests.{yes_by, no_by}
use Rattle.vlog_read_stmt.proofs.LabelSteps.{label_span, first_refuses, labels_begin, labels_end, next_refuses, labels_grow}
use Rattle.vlog_read_stmt.proofs.label.label_list.Goals as goal

pub returns-in_err-first : goal.returns-in_err-first
returns-in_err-first c =
    let p = err_from_is_err_and c.from_residual.result c.from_residual.ensures.1 in
    rw (p.1, p.2) (first_refuses _ _ _ _ _ c.in_err-first.ensures)

pub loop-alloc-init : goal.loop-alloc-init
loop-alloc-init c =
    let q : c.push.new.self ≡ c.in_ok-first.first.tree ∷ [] = c.in_ok-push.ensures.ok ∙ ap (λ z. z ++ c.in_ok-first.first.tree ∷ []) c.new-items.ensures in
    labels_begin _ _ _ _ _ c.in_ok-first.ensures _ q

pub after-requires : goal.after-requires
after-requires c = kind_within _ _ _ (yes_by _ c.is_sign.ensures c.loop-alloc-test.true)

pub returns-in_err-item : goal.returns-in_err-item
returns-in_err-item c =
    let p = err_from_is_err_and c.from_residual-in_err-item.result c.from_residual-in_err-item.ensures.1 in
    rw (p.1, p.2) (next_refuses _ _ _ _ _ _ _ c.loop-alloc.invariant (yes_by _ c.is_sign.ensures c.loop-alloc-test.true) _ (rw c.after.ensures at c.in_err-item.ensures))

pub loop-alloc-smaller : goal.loop-alloc-smaller
loop-alloc-smaller c =
    let u = label_span c.args.kind c.args.tokens.now c.after.result c.in_ok-item.item.tree c.in_ok-item.item.end c.in_ok-item.ensures.reads in omega (arith, u.0, u.1, c.after.ensures)

pub loop-alloc-preserved : goal.loop-alloc-preserved
loop-alloc-preserved c =
    labels_grow _ _ _ _ _ _ _ c.loop-alloc.invariant (yes_by _ c.is_sign.ensures c.loop-alloc-test.true) _ (rw c.after.ensures at c.in_ok-item.ensures) _ c.in_ok-push-2.ensures.ok _ c.max-height.ensures

pub returns : goal.returns
returns c = labels_end _ _ _ _ _ _ _ c.loop-alloc.invariant (no_by _ c.is_sign.ensures c.loop-alloc-test.false) _ refl refl refl
