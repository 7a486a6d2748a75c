use Rattle.std.proofs.Common.{List, ap, arith, length, subst}
use Rattle.std.proofs.lemmas.Result.{IfOk-weaker}
use Rattle.std.specs.List.{AllZip}
use Rattle.proof_store.specs.Lookups.{IsObOf, Looks, Sought}
use Rattle.proof_store.proofs.Lookups.{all_looked_up}
use Rattle.proof_store.proofs.Placed.{same_length}
use Rattle.proof_store.proofs.looking.look_up_all.Goals as goal

pub look_up_each-requires-after_bounds : goal.look_up_each-requires-after_bounds
look_up_each-requires-after_bounds g c κs within =
    let long = same_length IsObOf c.args.goals.now c.in_ok-obs.obs.items c.in_ok-obs.ensures in
    omega (arith, c.requires, long, ap length c.as_slice.ensures.value)

pub returns-clause-lookups : goal.returns-clause-lookups
returns-clause-lookups g c =
    IfOk-weaker c.look_up_each.result _ _
    (λ lookups looks. all_looked_up (g.K.Keeper.tables c.args.keeper.now) c.args.goals.now c.in_ok-obs.obs.items lookups.items c.in_ok-obs.ensures
    (subst (λ (os : List Sought). AllZip (Looks (g.K.Keeper.tables c.args.keeper.now)) os lookups.items) c.as_slice.ensures.value looks))
    c.look_up_each.ensures.lookups
