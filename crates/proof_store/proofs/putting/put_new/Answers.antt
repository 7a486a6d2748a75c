use Rattle.std.proofs.Common.{List, ap, arith, length, map, subst, sym}
use Rattle.std.specs.Prelude.{OnOk}
use Rattle.proof_store.specs.Goals.{Ended}
use Rattle.proof_store.specs.Outcomes.{IsOutcome}
use Rattle.proof_store.specs.Rows.{HasProofs}
use Rattle.proof_store.specs.Stored.{AddsProofs, StoresNew, Told, ended_ob}
use Rattle.proof_store.proofs.Placed.{same_length}
use Rattle.proof_store.proofs.Puts.{ends_are, flags_are}
use Rattle.proof_store.proofs.putting.put_new.Goals as goal

pub put_each-requires-clause-jobs : goal.put_each-requires-clause-jobs
put_each-requires-clause-jobs g c κs within =
    let long = same_length IsOutcome c.args.decided.now c.in_ok-outcomes.outcomes.items c.in_ok-outcomes.ensures in
    omega (arith, c.requires.jobs, long, ap length c.as_slice.ensures.value)

pub put_each-requires-clause-kept : goal.put_each-requires-clause-kept
put_each-requires-clause-kept g c κs within = flags_are (g.K.Keeper.tables c.args.keeper.now) c.args.decided.now c.in_ok-outcomes.outcomes.items c.as_slice.result.now c.in_ok-outcomes.ensures c.as_slice.ensures.value c.requires.kept

pub put_each-requires-clause-proofs : goal.put_each-requires-clause-proofs
put_each-requires-clause-proofs g c κs within =
    subst (λ (es : List Ended). HasProofs es) (ends_are c.args.decided.now c.in_ok-outcomes.outcomes.items c.as_slice.result.now c.in_ok-outcomes.ensures c.as_slice.ensures.value) c.requires.proofs

pub returns-clause-ok : goal.returns-clause-ok
returns-clause-ok g c =
    subst (λ (es : List Ended). OnOk c.put_each.result (Told (StoresNew es) (g.K.Keeper.tables c.args.keeper.now) (g.K.Keeper.tables c.put_each.new.keeper)))
    (sym (ends_are c.args.decided.now c.in_ok-outcomes.outcomes.items c.as_slice.result.now c.in_ok-outcomes.ensures c.as_slice.ensures.value)) c.put_each.ensures.ok

pub returns-clause-left : goal.returns-clause-left
returns-clause-left g c =
    subst (λ (es : List Ended). Told (AddsProofs (map ended_ob es)) (g.K.Keeper.tables c.args.keeper.now) (g.K.Keeper.tables c.put_each.new.keeper))
    (sym (ends_are c.args.decided.now c.in_ok-outcomes.outcomes.items c.as_slice.result.now c.in_ok-outcomes.ensures c.as_slice.ensures.value)) c.put_each.ensures.left
