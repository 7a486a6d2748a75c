use Rattle.proof_store.specs.Goals.{ended}
use Rattle.proof_store.proofs.Single.{made_kept, unmade_kept}
use Rattle.proof_store.proofs.Storing.{puts_row}
use Rattle.proof_store.proofs.keeping.keep.Goals as goal

pub returns-in_ok-put_proof-in-Some-clause-ok : goal.returns-in_ok-put_proof-in-Some-clause-ok
returns-in_ok-put_proof-in-Some-clause-ok g c =
    puts_row (ended c.args.one.now) c.in_ok-row.field-0 c.in-Some.row (g.K.Keeper.tables c.args.keeper.now) (g.K.Keeper.tables c.put_proof.new.self) c.as_slice.result.now c.as_slice-in-Some.result.now
    c.in_ok-row.ensures c.in-Some.is c.as_slice.ensures.value c.as_slice-in-Some.ensures.value c.in_ok-put_proof-in-Some.ensures.ok

pub returns-in_ok-put_proof-in-Some-clause-kept : goal.returns-in_ok-put_proof-in-Some-clause-kept
returns-in_ok-put_proof-in-Some-clause-kept g c = made_kept (ended c.args.one.now) c.in_ok-row.field-0 c.in-Some.row c.in_ok-row.ensures c.in-Some.is

pub returns-in-None-clause-kept : goal.returns-in-None-clause-kept
returns-in-None-clause-kept g c = unmade_kept (ended c.args.one.now) c.in_ok-row.field-0 c.in_ok-row.ensures c.in-None.is
