use Rattle.std.proofs.Common.{ap, arith, length, rules}
use Rattle.proof_store.specs.Lookups.{IsChecked}
use Rattle.proof_store.specs.Provers.{counts}
use Rattle.proof_store.proofs.Finding.{found_finds, found_rose}
use Rattle.proof_store.proofs.Placed.{same_length}
use Rattle.proof_store.proofs.Turns.{keeper_proceeds}
use Rattle.proof_store.proofs.prover.Prover.find_all.Goals as goal

pub returns-in_err-obs-clause-proceeds : goal.returns-in_err-obs-clause-proceeds
returns-in_err-obs-clause-proceeds g c =
    let looked = c.in_err-obs.ensures in
    keeper_proceeds _ (counts g.K.Keeper.faults g.H.Helper.asked c.args.self.now) (counts g.K.Keeper.faults g.H.Helper.asked c.look_up.new.self)
    (record { later = looked.faults.later; rose = λ f. looked.faults.rose (search (rules, f)) }) looked.asked

pub help_all-requires-after_bounds : goal.help_all-requires-after_bounds
help_all-requires-after_bounds g c κs within =
    let long = same_length (IsChecked (g.K.Keeper.tables c.args.self.now.keeper.now)) c.args.goals.now c.in_ok-obs.obs.items c.in_ok-obs.ensures.found in
    omega (arith, c.requires.jobs, long, ap length c.as_slice.ensures.value)

pub returns-clause-finds : goal.returns-clause-finds
returns-clause-finds g c =
    found_finds (g.K.Keeper.tables c.args.self.now.keeper.now) c.args.goals.now c.in_ok-obs.obs.items c.as_slice.result.now c.in_ok-helped.helped.items _ c.as_slice.ensures.value c.in_ok-obs.ensures.found c.in_ok-helped.ensures.helped c.in_ok-found_each.ensures

pub returns-clause-first : goal.returns-clause-first
returns-clause-first g c =
    found_rose c.in_ok-obs.obs.items c.as_slice.result.now c.in_ok-helped.helped.items _ _ _ _ c.as_slice.ensures.value c.in_ok-helped.ensures.helped c.in_ok-found_each.ensures c.in_ok-obs.ensures.asked c.in_ok-helped.ensures.first
