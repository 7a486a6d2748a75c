use Rattle.std.proofs.Common.{arith, ◌<◌, inr}
use Rattle.vlog_read_expr.proofs.SignTests.{yes_by, no_by}
use Rattle.vlog_read_spelling.proofs.Tokens.{kind_within}
use Rattle.std.proofs.lemmas.Result.{err_from_is_err_and}
use Rattle.vlog_tree.specs.Lists.{highest_of}
use Rattle.vlog_tree.specs.Spelling.{height}
use Rattle.set_read.proofs.Steps.{passes}
use Rattle.set_read.proofs.PartSteps.{no_domain, some_domain}
use Rattle.set_read.proofs.parts.maybe_domain.Goals as goal

pub returns-in_ok-domain-clause-only : goal.returns-in_ok-domain-clause-only
returns-in_ok-domain-clause-only c = λ x j q g. let d = some_domain c.args.tokens.now c.args.at (yes_by _ c.is_word.ensures c.if-is_word.true) x j q g in (rw c.after.ensures at c.in_ok-domain.ensures.only) d.0 j d.1 (inr g)

pub returns-in_err-domain-clause-only : goal.returns-in_err-domain-clause-only
returns-in_err-domain-clause-only c =
    let p = err_from_is_err_and c.from_residual.result c.from_residual.ensures.1 in
    rw (p.1, p.2) (λ x j q g. let d = some_domain c.args.tokens.now c.args.at (yes_by _ c.is_word.ensures c.if-is_word.true) x j q g in passes (498 < height d.0) (498 < highest_of height x) (λ h. omega (arith, h, d.2)) _ ((rw c.after.ensures at c.in_err-domain.ensures.only) d.0 j d.1 (inr g)))

pub returns-else-is_word-clause-only : goal.returns-else-is_word-clause-only
returns-else-is_word-clause-only c = λ x j q g. no_domain c.args.tokens.now c.args.at (no_by _ c.is_word.ensures c.if-is_word.false) x j q

pub after-requires : goal.after-requires
after-requires c = kind_within _ _ _ (yes_by _ c.is_word.ensures c.if-is_word.true)
