use Rattle.std.proofs.Common.{◌∙◌}
use Rattle.proof_store_records.proofs.HintLemmas.{hints_none, hints_odd, hints_told}
use Rattle.proof_store_records.proofs.read.take_hints.Goals as goal

pub returns-in_default : goal.returns-in_default
returns-in_default c = hints_none c.args.version c.args.bytes.now (rw c.in_default.is at c.in_ok-numbers.ensures)

pub returns-in_default-2 : goal.returns-in_default-2
returns-in_default-2 c =
    let odd = rw c.in_default-2.is at c.in_ok-hints.ensures in
    hints_odd c.args.version c.args.bytes.now c.in-Some.numbers.items c.in-Some.rest.now (rw c.in-Some.is at c.in_ok-numbers.ensures) (rw c.as_slice.ensures.value at odd)

pub returns : goal.returns
returns c =
    let told = rw c.in-Some-2.is at c.in_ok-hints.ensures in
    hints_told c.args.version c.args.bytes.now c.in-Some.numbers.items c.in-Some.rest.now c.in-Some-2.hints.items (rw c.in-Some.is at c.in_ok-numbers.ensures) told.0 (told.1 ∙ c.as_slice.ensures.value)
