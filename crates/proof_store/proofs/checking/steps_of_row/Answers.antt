use Rattle.std.proofs.lemmas.Result.{IfOk-weaker}
use Rattle.proof_store.specs.Kept.{IsBuilt}
use Rattle.proof_store.proofs.Lookups.{accepted_checks}
use Rattle.proof_store.proofs.checking.steps_of_row.Goals as goal

pub returns : goal.returns
returns c =
    let of = c.in_ok-built in
    let built : IsBuilt c.args.lookup.now.ob.now of.built.cnf of.built.bits.items = record { vars = of.ensures.vars; clauses = of.ensures.clauses; carries = of.ensures.carries } in
    IfOk-weaker c.accepted.result _ _ (λ found. accepted_checks _ _ _ _ c.in-Some.bytes _ found built c.in-Some.is c.as_slice.ensures.value) c.accepted.ensures
