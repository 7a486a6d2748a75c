use Rattle.std.proofs.Common.{arith, rules, refl, sym, subst}
use Rattle.std.specs.Prelude.{codes}
use Rattle.vlog_tree.specs.Signs.{IsWord}
use Rattle.std.proofs.lemmas.Result.{err_from_is_err_and}
use Rattle.vlog_read_spelling.proofs.Tokens.{kind_within}
use Rattle.vlog_read_expr.proofs.SignTests.{yes_by, no_by}
use Rattle.vlog_read_stmt.proofs.StmtSteps.{Begun_seq, past_end, stmt_height_pos, label_refuses, block_refuses, condition_refuses, part_refuses, else_refuses, seq_refuses, if_made, if_else_made, span, seq_begins, seq_ends, seq_grows, empty_read, block_read, if_read, if_else_read}
use Rattle.vlog_read_stmt.proofs.CaseSteps.{Begun_cases, item_span, labels_refuse, body_refuses, item_read, cases_begin, cases_empty, case_refuses, second_default, few, cases_end, cases_grow, value_refuses, cases_refuse, case_read}
use Rattle.vlog_read_stmt.proofs.stmt.+stmt.Goals as goal

pub read_stmt-returns-then-is_sign : goal.read_stmt-returns-then-is_sign
read_stmt-returns-then-is_sign t c = empty_read _ _ _ (omega (arith, c.if-depth-eq0.false)) (yes_by _ c.is_sign.ensures c.if-is_sign.true) _ refl c.after.ensures refl

-- a block
pub block-after-requires : goal.block-after-requires
block-after-requires t c = kind_within _ _ _ c.requires.here

pub block-after-requires-2 : goal.block-after-requires-2
block-after-requires-2 t c = kind_within _ _ _ c.in-Ok.ensures.reads.1

pub block-returns : goal.block-returns
block-returns t c =
    block_read _ _ _ c.requires.positive c.requires.here _ (rw c.after.ensures at c.in_ok-label.ensures) _ c.in-Ok.ensures _ refl c.after-2.ensures refl

-- statements up to an end
pub sequence-loop-alloc-init : goal.sequence-loop-alloc-init
sequence-loop-alloc-init t c = subst (λ z. Begun_seq c.args.tokens.now c.args.at c.args.depth z 0 c.args.at) (sym c.new-items.ensures) (seq_begins _ _ _)

pub sequence-loop-alloc-smaller : goal.sequence-loop-alloc-smaller
sequence-loop-alloc-smaller t c =
    let u = span c.args.tokens.now c.loop-alloc.end c.in_ok-item.item.tree c.in_ok-item.item.end c.in_ok-item.ensures.reads.spelt in omega (arith, u.0, u.1)

pub sequence-loop-alloc-preserved : goal.sequence-loop-alloc-preserved
sequence-loop-alloc-preserved t c =
    seq_grows _ _ _ _ _ _ c.loop-alloc.invariant _ c.in_ok-item.ensures _ c.in_ok-push.ensures.ok _ c.max-height.ensures

pub sequence-returns : goal.sequence-returns
sequence-returns t c = seq_ends _ _ _ _ _ _ c.loop-alloc.invariant (yes_by _ c.is_word.ensures c.loop-alloc-test.false) _ refl refl refl

-- an if
pub conditional-header-requires : goal.conditional-header-requires
conditional-header-requires t c = record { within = kind_within _ _ _ c.requires.here; low = omega (arith, c.requires.low) }

pub conditional-with_else-requires : goal.conditional-with_else-requires
conditional-with_else-requires t c =
    (search rules, (c.requires.here, (c.in_ok-condition.ensures, (c.in-Ok.ensures, (yes_by _ c.is_word.ensures c.if-is_word.true, (c.requires.positive, c.requires.low))))))

pub conditional-returns-in-Ok-new : goal.conditional-returns-in-Ok-new
conditional-returns-in-Ok-new t c =
    if_read _ _ _ c.requires.positive c.requires.here _ c.in_ok-condition.ensures _ c.in-Ok.ensures (no_by _ c.is_word.ensures c.if-is_word.false) _
    (if_made _ _ _ c.in-Ok-new.ensures) refl (omega (arith, c.max-height.ensures))

pub with_else-after-requires : goal.with_else-after-requires
with_else-after-requires t c = kind_within _ _ _ c.requires.word

pub with_else-returns-in-Ok-Ok : goal.with_else-returns-in-Ok-Ok
with_else-returns-in-Ok-Ok t c =
    if_else_read _ _ _ c.requires.positive c.requires.here _ c.requires.condition _ c.requires.yes c.requires.word _ (rw c.after.ensures at c.in-Ok.ensures) _
    (if_else_made _ _ _ _ _ c.in-Ok-Ok.ensures c.in-Ok-Ok.ensures') refl (omega (arith, c.max.ensures, c.max-height.ensures))

pub block-returns-in_err-label : goal.block-returns-in_err-label
block-returns-in_err-label t c =
    let p = err_from_is_err_and c.from_residual.result c.from_residual.ensures.1 in
    rw (p.1, p.2) (label_refuses _ _ _ c.requires.positive c.requires.here _ (rw c.after.ensures at c.in_err-label.ensures))

pub block-returns-in-Err : goal.block-returns-in-Err
block-returns-in-Err t c =
    block_refuses _ _ _ c.requires.positive c.requires.here _ (rw c.after.ensures at c.in_ok-label.ensures) _ c.in-Err.ensures

pub sequence-returns-in_err-item : goal.sequence-returns-in_err-item
sequence-returns-in_err-item t c =
    let p = err_from_is_err_and c.from_residual.result c.from_residual.ensures.1 in
    rw (p.1, p.2) (seq_refuses _ _ _ _ _ _ c.loop-alloc.invariant (no_by _ c.is_word.ensures c.loop-alloc-test.true) _ c.in_err-item.ensures)

pub conditional-returns-in_err-condition : goal.conditional-returns-in_err-condition
conditional-returns-in_err-condition t c =
    let p = err_from_is_err_and c.from_residual.result c.from_residual.ensures.1 in
    rw (p.1, p.2) (condition_refuses _ _ _ c.requires.positive c.requires.here _ c.in_err-condition.ensures)

pub conditional-returns-in-Err : goal.conditional-returns-in-Err
conditional-returns-in-Err t c =
    part_refuses _ _ _ c.requires.positive c.requires.here _ c.in_ok-condition.ensures _ c.in-Err.ensures

pub with_else-returns-in-Err : goal.with_else-returns-in-Err
with_else-returns-in-Err t c =
    else_refuses _ _ _ c.requires.positive c.requires.here _ c.requires.condition _ c.requires.yes c.requires.word _ (rw c.after.ensures at c.in-Err.ensures)

pub choice-returns-in_err-value : goal.choice-returns-in_err-value
choice-returns-in_err-value t c =
    let p = err_from_is_err_and c.from_residual.result c.from_residual.ensures.1 in
    rw (p.1, p.2) (value_refuses _ _ _ _ c.requires.positive c.requires.here _ c.in_err-value.ensures)

pub choice-returns-in-Err : goal.choice-returns-in-Err
choice-returns-in-Err t c =
    cases_refuse _ _ _ _ c.requires.positive c.requires.here _ c.in_ok-value.ensures _ c.in-Err.ensures

pub choice-header-requires : goal.choice-header-requires
choice-header-requires t c = record { within = kind_within _ _ _ c.requires.here; low = omega (arith, c.requires.low) }

pub choice-after-requires : goal.choice-after-requires
choice-after-requires t c = kind_within _ _ _ c.in-Ok.ensures.reads.ends

pub choice-returns : goal.choice-returns
choice-returns t c = case_read _ _ _ _ c.requires.positive c.requires.here _ c.in_ok-value.ensures _ c.in-Ok.ensures _ refl c.after.ensures (omega (arith, c.max.ensures))

pub case_item-returns-in_err-labels : goal.case_item-returns-in_err-labels
case_item-returns-in_err-labels t c =
    let p = err_from_is_err_and c.from_residual.result c.from_residual.ensures.1 in
    rw (p.1, p.2) (labels_refuse _ _ _ _ _ c.in_err-labels.ensures)

pub case_item-returns-in-Err : goal.case_item-returns-in-Err
case_item-returns-in-Err t c =
    body_refuses _ _ _ _ _ c.in_ok-labels.ensures _ c.in-Err.ensures

pub case_item-returns : goal.case_item-returns
case_item-returns t c = item_read _ _ _ _ _ c.in_ok-labels.ensures _ c.in-Ok.ensures _ refl refl c.max.ensures refl

pub case_items-loop-alloc-init : goal.case_items-loop-alloc-init
case_items-loop-alloc-init t c = subst (λ z. Begun_cases c.args.kind c.args.tokens.now c.args.at c.args.depth z 0 c.args.at 0) (sym c.new-items.ensures) (cases_begin _ _ _ _)

pub case_items-returns-in_err-item : goal.case_items-returns-in_err-item
case_items-returns-in_err-item t c =
    let p = err_from_is_err_and c.from_residual.result c.from_residual.ensures.1 in
    rw (p.1, p.2) (case_refuses _ _ _ _ _ _ _ _ c.loop-alloc.invariant (no_by _ c.is_word.ensures c.loop-alloc-test.true) _ c.in_err-item.ensures)

pub read_stmt-returns-then-tokens-at : goal.read_stmt-returns-then-tokens-at
read_stmt-returns-then-tokens-at t c = past_end _ _ (omega (arith, c.if-tokens-at.true))

pub read_stmt-returns-then-depth-eq0 : goal.read_stmt-returns-then-depth-eq0
read_stmt-returns-then-depth-eq0 t c = record { higher = λ b k q. omega (arith, stmt_height_pos b, c.if-depth-eq0.true); tokens = omega (arith, c.if-tokens-at.false, c.if-depth-eq0.true) }

pub read_stmt-case_or_assignment-requires : goal.read_stmt-case_or_assignment-requires
read_stmt-case_or_assignment-requires t c =
    (search rules, (no_by _ c.is_sign.ensures c.if-is_sign.false, (no_by _ c.is_word.ensures c.if-is_word.false, (no_by _ c.is_word-else-is_word.ensures c.if-is_word-2.false, (omega (arith, c.if-depth-eq0.false), c.requires.low)))))

pub case_or_assignment-choice-requires : goal.case_or_assignment-choice-requires
case_or_assignment-choice-requires t c = (search rules, (c.in-Some.ensures, (c.requires.positive, c.requires.low)))

pub case_or_assignment-assignment-requires : goal.case_or_assignment-assignment-requires
case_or_assignment-assignment-requires t c = record {
  other = record { no_semicolon = c.requires.no_semicolon; no_begin = c.requires.no_begin; no_if = c.requires.no_if; no_case = c.in-None.ensures };
  positive = c.requires.positive;
  low = c.requires.low;
}

pub case_items-overflow_add-defaults : goal.case_items-overflow_add-defaults
case_items-overflow_add-defaults t c = omega (arith, few _ _ _ _ _ _ _ _ c.loop-alloc.invariant _ c.in_ok-item.ensures)

pub case_items-returns-then-defaults-gt1 : goal.case_items-returns-then-defaults-gt1
case_items-returns-then-defaults-gt1 t c =
    second_default _ _ _ _ _ _ _ _ c.loop-alloc.invariant (no_by _ c.is_word.ensures c.loop-alloc-test.true) _ c.in_ok-item.ensures (omega (arith, c.if-defaults-gt1.true))

pub case_items-loop-alloc-smaller : goal.case_items-loop-alloc-smaller
case_items-loop-alloc-smaller t c =
    let u = item_span c.args.kind c.args.tokens.now c.loop-alloc.end c.in_ok-item.item.item c.in_ok-item.item.end c.in_ok-item.ensures.reads in omega (arith, u.0, u.1)

pub case_items-loop-alloc-preserved : goal.case_items-loop-alloc-preserved
case_items-loop-alloc-preserved t c =
    cases_grow _ _ _ _ _ _ _ _ c.loop-alloc.invariant _ c.in_ok-item.ensures _ c.in_ok-push.ensures.ok _ c.max-height.ensures _ refl (omega (arith, c.if-defaults-gt1.false))

pub case_items-returns-then-end-at : goal.case_items-returns-then-end-at
case_items-returns-then-end-at t c = cases_empty _ _ _ c.args.depth (subst (λ z. IsWord c.args.tokens.now z (codes "endcase")) c.if-end-at.true (yes_by _ c.is_word.ensures c.loop-alloc-test.false))

pub case_items-returns : goal.case_items-returns
case_items-returns t c =
    cases_end _ _ _ _ _ _ _ _ c.loop-alloc.invariant (yes_by _ c.is_word.ensures c.loop-alloc-test.false) (omega (arith, c.loop-alloc.invariant.past, c.if-end-at.false)) _ refl refl refl
