use Rattle.std.proofs.Common.{◌≡◌, rules}
use Rattle.std.specs.Prelude.{false}
use Rattle.proof_store.proofs.Seconds.{not_fitting}
use Rattle.proof_store.proofs.moving.second_of.Goals as goal

pub returns-then-not-record_fits : goal.returns-then-not-record_fits
returns-then-not-record_fits c =
    let off : c.record_fits.result ≡ false = search rules in
    not_fitting c.args.bytes.now c.in_ok-steps.field-0 c.in_ok-steps.ensures.exact c.in-Some.steps c.in-Some.is c.as_slice.result.now c.record_fits.result c.as_slice.ensures.value c.record_fits.ensures off
