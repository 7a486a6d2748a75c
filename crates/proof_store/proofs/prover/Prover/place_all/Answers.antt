use Rattle.std.proofs.Common.{rules}
use Rattle.proof_store.specs.Provers.{counts}
use Rattle.proof_store.proofs.Finding.{found_placed, places_rose}
use Rattle.proof_store.proofs.Turns.{proceeds_well}
use Rattle.proof_store.proofs.prover.Prover.place_all.Goals as goal

pub returns-clause-placed : goal.returns-clause-placed
returns-clause-placed g c =
    found_placed (g.K.Keeper.tables c.args.self.now.keeper.now) c.args.goals.items c.as_slice.result.now c.in_ok-found.found.items _ c.as_slice.ensures.value c.in_ok-found.ensures.finds c.in_ok-place_each.ensures.places

pub returns-clause-proceeds : goal.returns-clause-proceeds
returns-clause-proceeds g c =
    proceeds_well _ _ (counts g.K.Keeper.faults g.H.Helper.asked c.args.self.now) (counts g.K.Keeper.faults g.H.Helper.asked c.find_all.new.self) (λ f. absurd (search (rules, f))) c.in_ok-found.ensures.proceeds

pub returns-clause-first : goal.returns-clause-first
returns-clause-first g c =
    places_rose (g.K.Keeper.tables c.args.self.now.keeper.now) c.args.goals.items c.as_slice.result.now c.in_ok-found.found.items _ _ _ c.as_slice.ensures.value c.in_ok-found.ensures.finds c.in_ok-place_each.ensures.places c.in_ok-found.ensures.first
