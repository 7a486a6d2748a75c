use Rattle.std.proofs.Common.{◌≡◌, List, length, ap, subst, arith, rules}
use Rattle.std.specs.Prelude.{true}
use Rattle.clause_check.specs.declared.formula.Step.{Step}
use Rattle.proof_store_records.specs.Records.{Fits, IsRecord, version_2}
use Rattle.proof_store.proofs.keeping.row_of.Goals as goal

pub returns : goal.returns
returns c =
    let steps = c.in-Derivation.steps in
    let yes : c.record_fits.result ≡ true = search rules in
    let bytes : c.in_ok-bytes.bytes.items ≡ version_2 steps.items = subst (λ (xs : List Step). c.in_ok-bytes.bytes.items ≡ version_2 xs) c.as_slice-2.ensures.value c.in_ok-bytes.ensures.bytes in (
      steps,
      record {
        has = c.in-Derivation.is;
        fits = subst (λ (xs : List Step). Fits xs) c.as_slice.ensures.value (c.record_fits.ensures.0 yes);
        short_key = omega (arith, c.len.ensures, c.if-len-gt-LONGEST.false, ap length c.in_ok-key.ensures.text, c.in_ok-key.key.ok.0);
        short_record = omega (arith, c.len-else-len-gt-LONGEST.ensures, c.if-len-gt-LONGEST-2.false, ap length bytes, c.in_ok-bytes.bytes.ok.0);
      },
      c.in_ok-key.ensures.text,
      bytes,
      subst (λ (xs : List Step). IsRecord c.in_ok-bytes.bytes.items xs) c.as_slice-2.ensures.value c.in_ok-bytes.ensures.is_record,
    )
