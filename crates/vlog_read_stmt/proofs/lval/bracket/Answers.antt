use Rattle.std.proofs.Common.{◌≡◌, ◌+◌, arith, refl, sym}
use Rattle.vlog_read_spelling.proofs.Tokens.{kind_within}
use Rattle.std.proofs.lemmas.Result.{err_from_is_err_and}
use Rattle.vlog_read_expr.proofs.SignTests.{yes_by, no_by}
use Rattle.vlog_read_stmt.proofs.LvalSteps.{select_spelt, select_open, index_refuses}
use Rattle.vlog_read_stmt.proofs.lval.bracket.Goals as goal

pub after-open-requires : goal.after-open-requires
after-open-requires c = kind_within _ _ _ c.requires.here.stands

pub after-requires : goal.after-requires
after-requires c = rw c.after-open.ensures (kind_within _ _ _ c.requires.open)

pub part-requires : goal.part-requires
part-requires c =
    let q : c.after.result ≡ c.args.at + 2 = omega (arith, c.after.ensures, c.after-open.ensures) in
    record { here = c.requires.here; «open» = c.requires.open; read = rw q at c.in_ok-index.ensures; sign = sym c.in-Some.ensures; positive = c.requires.positive; low = c.requires.low }

pub after-requires-2 : goal.after-requires-2
after-requires-2 c = kind_within _ _ _ (yes_by _ c.is_sign.ensures c.if-not-is_sign.false)

pub returns : goal.returns
returns c =
    let q : c.after.result ≡ c.args.at + 2 = omega (arith, c.after.ensures, c.after-open.ensures) in
    select_spelt _ _ _ c.requires.positive _ c.requires.here c.requires.open _ (rw q at c.in_ok-index.ensures) (yes_by _ c.is_sign.ensures c.if-not-is_sign.false) _ refl c.after-2.ensures refl

pub returns-in_err-index : goal.returns-in_err-index
returns-in_err-index c =
    let q : c.after.result ≡ c.args.at + 2 = omega (arith, c.after.ensures, c.after-open.ensures) in
    let p = err_from_is_err_and c.from_residual.result c.from_residual.ensures.1 in
    rw (p.1, p.2) (index_refuses _ _ _ c.requires.positive _ c.requires.here c.requires.open _ (rw q at c.in_err-index.ensures))

pub returns-then-not-is_sign : goal.returns-then-not-is_sign
returns-then-not-is_sign c =
    let q : c.after.result ≡ c.args.at + 2 = omega (arith, c.after.ensures, c.after-open.ensures) in
    select_open _ _ _ c.requires.positive _ c.requires.here c.requires.open _ (rw q at c.in_ok-index.ensures) c.in_default.ensures (no_by _ c.is_sign.ensures c.if-not-is_sign.true)
