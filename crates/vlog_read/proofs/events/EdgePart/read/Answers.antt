use Rattle.std.proofs.Common.{arith, refl}
use Rattle.vlog_read_spelling.proofs.Tokens.{kind_within}
use Rattle.vlog_read_expr.proofs.SignTests.{yes_by, no_by}
use Rattle.std.proofs.lemmas.Result.{err_from_is_err_and}
use Rattle.vlog_read.proofs.EventSteps.{edge_name, no_edge}
use Rattle.vlog_read.proofs.events.EdgePart.read.Goals as goal

pub after-place-requires : goal.after-place-requires
after-place-requires c = kind_within _ _ _ (yes_by _ c.is_word.ensures c.if-is_word.true)

pub returns-then-is_word : goal.returns-then-is_word
returns-then-is_word c = record {
  found = record {
    spelt = (yes_by _ c.is_word.ensures c.if-is_word.true, rw c.after-place.ensures at c.in_ok-name.ensures.ok, omega (arith, c.after.ensures, c.after-place.ensures));
    only = λ x k q. omega (arith, q.0.2, c.after.ensures, c.after-place.ensures);
    height_is = refl;
    low = omega arith;
    past = omega (arith, c.after.ensures, c.after-place.ensures);
    within = omega (arith, c.after.ensures, c.in_ok-name.ensures.within);
  };
  forward = omega (arith, c.after.ensures, c.after-place.ensures);
}

pub returns-then-is_word-2 : goal.returns-then-is_word-2
returns-then-is_word-2 c = record {
  found = record {
    spelt = (yes_by _ c.is_word-2.ensures c.if-is_word-2.true, rw c.after-place-then-is_word-2.ensures at c.in_ok-name-2.ensures.ok, omega (arith, c.after-then-is_word-2.ensures, c.after-place-then-is_word-2.ensures));
    only = λ x k q. omega (arith, q.0.2, c.after-then-is_word-2.ensures, c.after-place-then-is_word-2.ensures);
    height_is = refl;
    low = omega arith;
    past = omega (arith, c.after-then-is_word-2.ensures, c.after-place-then-is_word-2.ensures);
    within = omega (arith, c.after-then-is_word-2.ensures, c.in_ok-name-2.ensures.within);
  };
  forward = omega (arith, c.after-then-is_word-2.ensures, c.after-place-then-is_word-2.ensures);
}

pub after-place-requires-then-is_word-2 : goal.after-place-requires-then-is_word-2
after-place-requires-then-is_word-2 c = kind_within _ _ _ (yes_by _ c.is_word-2.ensures c.if-is_word-2.true)

pub returns-in_err-name : goal.returns-in_err-name
returns-in_err-name c =
    let p = err_from_is_err_and c.from_residual.result c.from_residual.ensures.1 in
    rw (p.1, p.2) (record { found = edge_name _ _ _ _ (rw c.after-place.ensures at c.in_err-name.ensures.err); forward = tt })

pub returns-in_err-name-2 : goal.returns-in_err-name-2
returns-in_err-name-2 c =
    let p = err_from_is_err_and c.from_residual-in_err-name-2.result c.from_residual-in_err-name-2.ensures.1 in
    rw (p.1, p.2) (record { found = edge_name _ _ _ _ (rw c.after-place-then-is_word-2.ensures at c.in_err-name-2.ensures.err); forward = tt })

pub returns : goal.returns
returns c = record { found = no_edge _ _ (no_by _ c.is_word.ensures c.if-is_word.false) (no_by _ c.is_word-2.ensures c.if-is_word-2.false); forward = tt }
