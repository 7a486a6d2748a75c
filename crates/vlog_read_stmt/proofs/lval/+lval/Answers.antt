use Rattle.std.proofs.Common.{◌≡◌, [], ◌∷◌, ◌++◌, arith, refl, ◌∙◌, ap}
use Rattle.vlog_read_spelling.proofs.Tokens.{kind_within}
use Rattle.std.proofs.lemmas.Result.{err_from_is_err_and}
use Rattle.vlog_read_expr.proofs.SignTests.{yes_by, no_by}
use Rattle.vlog_read_stmt.proofs.LvalSteps.{lval_span, lval_height_pos, past_end, concat_spelt, concat_refuses, concat_open, list_begins, list_ends, list_grows, list_refuses, item_refuses}
use Rattle.vlog_read_stmt.proofs.lval.+lval.Goals as goal

pub concat-after-requires : goal.concat-after-requires
concat-after-requires t c = kind_within _ _ _ c.requires.here

pub concat-after-requires-2 : goal.concat-after-requires-2
concat-after-requires-2 t c = kind_within _ _ _ (yes_by _ c.is_sign.ensures c.if-not-is_sign.false)

pub concat-returns : goal.concat-returns
concat-returns t c =
    concat_spelt _ _ _ c.requires.positive c.requires.here _ (rw c.after.ensures at c.in_ok-parts.ensures) (yes_by _ c.is_sign.ensures c.if-not-is_sign.false) _ refl c.after-2.ensures refl

pub list-loop-alloc-init : goal.list-loop-alloc-init
list-loop-alloc-init t c =
    let q : c.push.new.self ≡ c.in_ok-first.first.tree ∷ [] = c.in_ok-push.ensures.ok ∙ ap (λ z. z ++ c.in_ok-first.first.tree ∷ []) c.new-items.ensures in
    list_begins _ _ _ _ c.in_ok-first.ensures _ q

pub list-after-requires : goal.list-after-requires
list-after-requires t c = kind_within _ _ _ (yes_by _ c.is_sign.ensures c.loop-alloc-test.true)

pub list-loop-alloc-smaller : goal.list-loop-alloc-smaller
list-loop-alloc-smaller t c =
    let u = lval_span c.args.tokens.now c.after.result c.in_ok-item.item.tree c.in_ok-item.item.end c.in_ok-item.ensures.reads.spelt in omega (arith, u.0, u.1, c.after.ensures)

pub list-loop-alloc-preserved : goal.list-loop-alloc-preserved
list-loop-alloc-preserved t c =
    list_grows _ _ _ _ _ _ c.loop-alloc.invariant (yes_by _ c.is_sign.ensures c.loop-alloc-test.true) _ (rw c.after.ensures at c.in_ok-item.ensures) _ c.in_ok-push-2.ensures.ok _ c.max-height.ensures

pub list-returns : goal.list-returns
list-returns t c = list_ends _ _ _ _ _ _ c.loop-alloc.invariant (no_by _ c.is_sign.ensures c.loop-alloc-test.false) _ refl refl refl

pub concat-returns-in_err-parts : goal.concat-returns-in_err-parts
concat-returns-in_err-parts t c =
    let p = err_from_is_err_and c.from_residual.result c.from_residual.ensures.1 in
    rw (p.1, p.2) (concat_refuses _ _ _ c.requires.positive c.requires.here _ (rw c.after.ensures at c.in_err-parts.ensures))

pub concat-returns-then-not-is_sign : goal.concat-returns-then-not-is_sign
concat-returns-then-not-is_sign t c = concat_open _ _ _ c.requires.positive c.requires.here _ (rw c.after.ensures at c.in_ok-parts.ensures) (no_by _ c.is_sign.ensures c.if-not-is_sign.true)

pub list-returns-in_err-first : goal.list-returns-in_err-first
list-returns-in_err-first t c =
    let p = err_from_is_err_and c.from_residual.result c.from_residual.ensures.1 in
    rw (p.1, p.2) (list_refuses _ _ _ _ c.in_err-first.ensures)

pub list-returns-in_err-item : goal.list-returns-in_err-item
list-returns-in_err-item t c =
    let p = err_from_is_err_and c.from_residual-in_err-item.result c.from_residual-in_err-item.ensures.1 in
    rw (p.1, p.2) (item_refuses _ _ _ _ _ _ c.loop-alloc.invariant (yes_by _ c.is_sign.ensures c.loop-alloc-test.true) _ (rw c.after.ensures at c.in_err-item.ensures))

pub read_lval-returns-then-tokens-at : goal.read_lval-returns-then-tokens-at
read_lval-returns-then-tokens-at t c = past_end _ _ (omega (arith, c.if-tokens-at.true))

pub read_lval-returns-then-tokens-after : goal.read_lval-returns-then-tokens-after
read_lval-returns-then-tokens-after t c = past_end _ _ (omega (arith, c.if-tokens-after.true, c.after.ensures))

pub read_lval-returns-then-depth-eq0 : goal.read_lval-returns-then-depth-eq0
read_lval-returns-then-depth-eq0 t c = record {
  higher = λ b k q. omega (arith, lval_height_pos b, c.if-depth-eq0.true);
  tokens = omega (arith, c.if-tokens-after.false, c.after.ensures, c.if-depth-eq0.true);
}
