use Rattle.std.proofs.Common.{arith, ◌<◌}
use Rattle.vlog_read_spelling.proofs.Tokens.{kind_within}
use Rattle.std.proofs.lemmas.Result.{err_from_is_err_and}
use Rattle.vlog_tree.specs.Lists.{highest_of}
use Rattle.vlog_tree.specs.Spelling.{height}
use Rattle.set_read.specs.Heights.{declaration_height}
use Rattle.set_read.proofs.Steps.{passes}
use Rattle.set_read.proofs.PartSteps.{after_signed, bits_end, after_bits, name_end, after_name, after_domain}
use Rattle.set_read.proofs.parts.declaration.Goals as goal

pub returns-in_err-bits-clause-only : goal.returns-in_err-bits-clause-only
returns-in_err-bits-clause-only c =
    let p = err_from_is_err_and c.from_residual.result c.from_residual.ensures.1 in
    rw (p.1, p.2) (λ x j q g. let a = after_signed c.args.tokens.now c.args.role c.args.at c.requires _ c.signed-signed.ensures.only x j q in passes (0 < 0) _ (λ h. absurd (omega (arith, h))) _ (c.in_err-bits.ensures.only x.bits a.0 a.3 (bits_end c.args.tokens.now c.args.role _ x j a)))

pub returns-in_err-name-clause-only : goal.returns-in_err-name-clause-only
returns-in_err-name-clause-only c =
    let p = err_from_is_err_and c.from_residual-in_err-name.result c.from_residual-in_err-name.ensures.1 in
    rw (p.1, p.2) (λ x j q g. let a = after_bits c.args.tokens.now c.args.role _ _ c.in_ok-bits.ensures.only x j (after_signed c.args.tokens.now c.args.role c.args.at c.requires _ c.signed-signed.ensures.only x j q) in passes (0 < 0) _ (λ h. absurd (omega (arith, h))) _ (c.in_err-name.ensures.only x.name a.0 a.2 (name_end c.args.tokens.now c.args.role _ x j a)))

pub returns-in_err-domain-clause-only : goal.returns-in_err-domain-clause-only
returns-in_err-domain-clause-only c =
    let p = err_from_is_err_and c.from_residual-in_err-domain.result c.from_residual-in_err-domain.ensures.1 in
    rw (p.1, p.2) (λ x j q g. let a = after_name c.args.tokens.now c.args.role _ _ c.in_ok-name.ensures.only x j (after_bits c.args.tokens.now c.args.role _ _ c.in_ok-bits.ensures.only x j (after_signed c.args.tokens.now c.args.role c.args.at c.requires _ c.signed-signed.ensures.only x j q)) in passes (498 < highest_of height x.domain) (499 < declaration_height x) (λ h. omega (arith, h)) _ (c.in_err-domain.ensures.only x.domain a.0 a.1 a.2))

pub returns-in-Err-clause-only : goal.returns-in-Err-clause-only
returns-in-Err-clause-only c =
    rw c.dropping.ensures (λ x j q g. let a = after_domain c.args.tokens.now c.args.role _ _ c.in_ok-domain.ensures.only x j (after_name c.args.tokens.now c.args.role _ _ c.in_ok-name.ensures.only x j (after_bits c.args.tokens.now c.args.role _ _ c.in_ok-bits.ensures.only x j (after_signed c.args.tokens.now c.args.role c.args.at c.requires _ c.signed-signed.ensures.only x j q))) in absurd (c.in-Err.ensures.none a.0))

pub returns-clause-only : goal.returns-clause-only
returns-clause-only c = λ x j q g. let a = after_domain c.args.tokens.now c.args.role _ _ c.in_ok-domain.ensures.only x j (after_name c.args.tokens.now c.args.role _ _ c.in_ok-name.ensures.only x j (after_bits c.args.tokens.now c.args.role _ _ c.in_ok-bits.ensures.only x j (after_signed c.args.tokens.now c.args.role c.args.at c.requires _ c.signed-signed.ensures.only x j q))) in omega (arith, a.1, c.in-Ok.ensures.ok.1)

pub returns-then-at-tokens-clause-only : goal.returns-then-at-tokens-clause-only
returns-then-at-tokens-clause-only c = λ x j q g. absurd (omega (arith, c.if-at-tokens.true, kind_within c.args.tokens.now c.args.at _ c.requires))
