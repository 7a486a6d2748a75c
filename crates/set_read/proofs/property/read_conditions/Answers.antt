use Rattle.std.proofs.Common.{arith, ◌<◌}
use Rattle.std.proofs.lemmas.Result.{err_from_is_err_and}
use Rattle.vlog_tree.specs.Lists.{highest}
use Rattle.vlog_tree.specs.Spelling.{height}
use Rattle.set_read.specs.Heights.{length_height}
use Rattle.set_read.specs.Parts.{conditions_height}
use Rattle.set_read.proofs.Steps.{passes}
use Rattle.set_read.proofs.PropertySteps.{after_length, no_commit, window_end, after_window, assume_end, after_assume}
use Rattle.set_read.proofs.property.read_conditions.Goals as goal

pub returns-in_err-length-clause-only : goal.returns-in_err-length-clause-only
returns-in_err-length-clause-only c =
    let p = err_from_is_err_and c.from_residual.result c.from_residual.ensures.1 in
    rw (p.1, p.2) (λ x j q g. passes (498 < length_height x.length) (498 < conditions_height x) (λ h. omega (arith, h)) _ (c.in_err-length.ensures.only x.length q.0 q.3 tt))

pub returns-in-Err-clause-only : goal.returns-in-Err-clause-only
returns-in-Err-clause-only c =
    rw c.dropping.ensures (λ x j q g. let a = after_length c.args.tokens.now c.args.at _ c.in_ok-length.ensures.only x j q in passes (0 < 0) _ (λ h. absurd (omega (arith, h))) _ (c.in-Err.ensures.only x.window a.0 a.2 (window_end c.args.tokens.now _ x j a g)))

pub returns-in-Err-clauses-clause-only : goal.returns-in-Err-clauses-clause-only
returns-in-Err-clauses-clause-only c =
    rw c.dropping-in-Err-clauses.ensures (λ x j q g. let a = after_window c.args.tokens.now _ _ c.in-Ok.ensures.only x j g (after_length c.args.tokens.now c.args.at _ c.in_ok-length.ensures.only x j q) in passes (498 < highest height x.assume) (498 < conditions_height x) (λ h. omega (arith, h)) _ (c.in-Err-clauses.ensures.only x.assume a.0 a.1 (assume_end c.args.tokens.now _ x j a g)))

pub returns-in-Err-clauses-2-clause-only : goal.returns-in-Err-clauses-2-clause-only
returns-in-Err-clauses-2-clause-only c =
    rw c.dropping-in-Err-clauses-2.ensures (λ x j q g. passes (498 < highest height x.commit) (498 < conditions_height x) (λ h. omega (arith, h)) _ (c.in-Err-clauses-2.ensures.only x.commit j (after_assume c.args.tokens.now _ _ c.in-Ok-clauses.ensures.only x j g (after_window c.args.tokens.now _ _ c.in-Ok.ensures.only x j g (after_length c.args.tokens.now c.args.at _ c.in_ok-length.ensures.only x j q))) (no_commit c.args.tokens.now j g)))

pub returns-clause-only : goal.returns-clause-only
returns-clause-only c = λ x j q g. c.in-Ok-clauses-2.ensures.only x.commit j (after_assume c.args.tokens.now _ _ c.in-Ok-clauses.ensures.only x j g (after_window c.args.tokens.now _ _ c.in-Ok.ensures.only x j g (after_length c.args.tokens.now c.args.at _ c.in_ok-length.ensures.only x j q))) (no_commit c.args.tokens.now j g)
