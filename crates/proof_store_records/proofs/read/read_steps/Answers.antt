use Rattle.std.proofs.Common.{ap, Some, length}
use Rattle.proof_store_records.proofs.RecordLemmas.{no_mark, no_steps, no_end, record_found, record_only, empty_if, some_if}
use Rattle.proof_store_records.proofs.read.read_steps.Goals as goal

pub returns-in_default-clause-exact : goal.returns-in_default-clause-exact
returns-in_default-clause-exact c = λ steps r. absurd (no_mark c.args.bytes.now c.in_default.ensures steps r)

pub returns-in_default-2-clause-exact : goal.returns-in_default-2-clause-exact
returns-in_default-2-clause-exact c = λ steps r. absurd (no_steps c.args.bytes.now c.in-Some.rest.now c.in-Some.version c.in-Some.ensures (rw c.in_default-2.is at c.in_ok-steps.ensures) steps r)

pub returns-then-is_empty-clause-some : goal.returns-then-is_empty-clause-some
returns-then-is_empty-clause-some c =
    record_found c.args.bytes.now c.in-Some.rest.now c.in-Some.version c.in-Some.ensures c.in-Some-2.steps.items c.in-Some-2.rest.now (rw c.in-Some-2.is at c.in_ok-steps.ensures)
    (empty_if (length c.in-Some-2.rest.now) c.is_empty.result c.is_empty.ensures c.if-is_empty.true)

pub returns-then-is_empty-clause-exact : goal.returns-then-is_empty-clause-exact
returns-then-is_empty-clause-exact c = λ steps r.
    ap Some (record_only c.args.bytes.now c.in-Some.rest.now c.in-Some.version c.in-Some.ensures c.in-Some-2.steps.items c.in-Some-2.rest.now (rw c.in-Some-2.is at c.in_ok-steps.ensures) steps r)

pub returns-else-is_empty-clause-exact : goal.returns-else-is_empty-clause-exact
returns-else-is_empty-clause-exact c = λ steps r.
    absurd (no_end c.args.bytes.now c.in-Some.rest.now c.in-Some.version c.in-Some.ensures c.in-Some-2.steps.items c.in-Some-2.rest.now (rw c.in-Some-2.is at c.in_ok-steps.ensures)
    (some_if (length c.in-Some-2.rest.now) c.is_empty.result c.is_empty.ensures c.if-is_empty.false) steps r)
