use Rattle.std.proofs.Common.{arith, ◌<◌}
use Rattle.vlog_read_expr.proofs.SignTests.{yes_by, no_by}
use Rattle.std.proofs.lemmas.Result.{err_from_is_err_and}
use Rattle.vlog_tree.specs.Lists.{highest_of}
use Rattle.set_read.specs.Heights.{until_height}
use Rattle.set_read.proofs.Steps.{passes}
use Rattle.set_read.proofs.PartSteps.{no_until, some_until}
use Rattle.set_read.proofs.parts.maybe_until.Goals as goal

pub returns-in_ok-until-clause-only : goal.returns-in_ok-until-clause-only
returns-in_ok-until-clause-only c = λ x j q g. let u = some_until c.args.tokens.now c.args.at (yes_by _ c.is_word.ensures c.if-is_word.true) x j q g in c.in_ok-until.ensures.only u.0 j u.1 g

pub returns-in_err-until-clause-only : goal.returns-in_err-until-clause-only
returns-in_err-until-clause-only c =
    let p = err_from_is_err_and c.from_residual.result c.from_residual.ensures.1 in
    rw (p.1, p.2) (λ x j q g. let u = some_until c.args.tokens.now c.args.at (yes_by _ c.is_word.ensures c.if-is_word.true) x j q g in passes (498 < until_height u.0) (498 < highest_of until_height x) (λ h. omega (arith, h, u.2)) _ (c.in_err-until.ensures.only u.0 j u.1 g))

pub returns-else-is_word-clause-only : goal.returns-else-is_word-clause-only
returns-else-is_word-clause-only c = λ x j q g. no_until c.args.tokens.now c.args.at (no_by _ c.is_word.ensures c.if-is_word.false) x j q
