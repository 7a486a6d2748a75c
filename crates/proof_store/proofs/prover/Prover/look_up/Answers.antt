use Rattle.std.proofs.Common.{List, ap, arith, length, subst}
use Rattle.std.specs.List.{AllZip}
use Rattle.proof_store.specs.Lookups.{Checks, IsLookup, Lookup}
use Rattle.proof_store.proofs.Lookups.{all_checked}
use Rattle.proof_store.proofs.Placed.{same_length}
use Rattle.proof_store.proofs.prover.Prover.look_up.Goals as goal

pub checked_all-requires-after_bounds : goal.checked_all-requires-after_bounds
checked_all-requires-after_bounds g c κs within =
    let long = same_length (IsLookup (g.K.Keeper.tables c.args.self.now.keeper.now)) c.args.goals.now c.in_ok-lookups.lookups.items c.in_ok-lookups.ensures.lookups in
    omega (arith, c.requires.jobs, long, ap length c.as_slice.ensures.value)

pub returns-clause-found : goal.returns-clause-found
returns-clause-found g c =
    let obs = c.in_ok-checked_all.field-0.items in
    let checks : AllZip Checks c.in_ok-lookups.lookups.items obs = subst (λ (ls : List Lookup). AllZip Checks ls obs) c.as_slice.ensures.value c.in_ok-checked_all.ensures in
    all_checked (g.K.Keeper.tables c.args.self.now.keeper.now) c.args.goals.now c.in_ok-lookups.lookups.items obs c.in_ok-lookups.ensures.lookups checks
