use Rattle.std.proofs.Common.{◌∙◌}
use Rattle.proof_store_records.proofs.LitLemmas.{lits_none, lits_odd, lits_one}
use Rattle.proof_store_records.proofs.read.take_lits.Goals as goal

pub returns-in_default : goal.returns-in_default
returns-in_default c = lits_none c.args.version c.args.bytes.now (rw c.in_default.is at c.in_ok-values.ensures)

pub returns-in_default-2 : goal.returns-in_default-2
returns-in_default-2 c =
    let odd = rw c.in_default-2.is at c.in_ok-lits.ensures in
    lits_odd c.args.version c.args.bytes.now c.in-Some.values.items c.in-Some.rest.now (rw c.in-Some.is at c.in_ok-values.ensures) (rw c.as_slice.ensures.value at odd)

pub returns : goal.returns
returns c =
    let told = rw c.in-Some-2.is at c.in_ok-lits.ensures in
    lits_one c.args.version c.args.bytes.now c.in-Some.values.items c.in-Some.rest.now c.in-Some-2.lits.items (rw c.in-Some.is at c.in_ok-values.ensures) (told.1 ∙ c.as_slice.ensures.value) told.0
