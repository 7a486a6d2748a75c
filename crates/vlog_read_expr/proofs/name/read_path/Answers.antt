use Rattle.std.proofs.Common.{◌++◌, arith, ap, ◌∙◌}
use Rattle.std.proofs.lemmas.Result.{err_from_is_err_and}
use Rattle.vlog_read_spelling.proofs.Tokens.{kind_within}
use Rattle.vlog_read_expr.proofs.SignTests.{yes_by, no_by}
use Rattle.vlog_read_expr.proofs.NameSteps.{path_begins, path_refuses, path_ends, word_refuses, path_grows}
use Rattle.vlog_read_expr.proofs.name.read_path.Goals as goal

pub returns-in_err-text : goal.returns-in_err-text
returns-in_err-text c =
    let p = err_from_is_err_and c.from_residual.result c.from_residual.ensures.1 in
    rw (p.1, p.2) (path_refuses _ _ _ c.in_err-text.ensures.err)

pub loop-alloc-init : goal.loop-alloc-init
loop-alloc-init c = path_begins _ _ _ c.in_ok-text.ensures.ok _ c.after-end.ensures

pub after-dot-requires : goal.after-dot-requires
after-dot-requires c = kind_within _ _ _ (yes_by _ c.is_sign.ensures c.loop-alloc-test.true)

pub returns-in_err-word : goal.returns-in_err-word
returns-in_err-word c =
    let p = err_from_is_err_and c.from_residual-in_err-word.result c.from_residual-in_err-word.ensures.1 in
    rw (p.1, p.2) (word_refuses _ _ _ _ c.loop-alloc.invariant (yes_by _ c.is_sign.ensures c.loop-alloc-test.true) _ c.after-dot.ensures _ c.in_err-word.ensures.err)

pub loop-alloc-preserved : goal.loop-alloc-preserved
loop-alloc-preserved c =
    path_grows _ _ _ _ c.loop-alloc.invariant (yes_by _ c.is_sign.ensures c.loop-alloc-test.true) _ (rw c.after-dot.ensures at c.in_ok-word.ensures.ok) _
    (c.in_ok-append-2.ensures.ok ∙ ((λ r. c.append.new.self ++ c.bytes.ensures r) ∙ ap (λ z. z ++ c.in_ok-word.word) c.in_ok-append.ensures.ok)) _ (omega (arith, c.after-end-in-loop-alloc.ensures, c.after-dot.ensures))

pub returns : goal.returns
returns c = path_ends _ _ _ _ c.loop-alloc.invariant (no_by _ c.is_sign.ensures c.loop-alloc-test.false)
