use Rattle.std.proofs.Common.{arith, inl, inr, rules, ⊎_elim}
use Rattle.proof_store.proofs.Finding.{all_open, all_places, place_more, place_start}
use Rattle.proof_store.proofs.placing.place_each.Goals as goal

pub loop-goal-init : goal.loop-goal-init
loop-goal-init g c = record {
  can_next = (tt, tt);
  is_finite = tt;
  placed = place_start c.args.goals.items _ c.args.found.items _ _ _ (search rules) (search rules) c.new-places.ensures.items c.new-rest.ensures.items;
}

pub loop-goal-preserved : goal.loop-goal-preserved
loop-goal-preserved g c =
    let step = c.in_ok-place.ensures in
    let taken = c.in-Some.ensures.steps in record {
      can_next = (tt, tt);
      is_finite = tt;
      placed = place_more _ c.args.goals.items _ _ _ _ _ _ _ _ c.in-Some.goal c.in-Some.found c.in_ok-place.place c.loop-goal.invariant.placed taken.0.0 taken.1.0 step.place step.rest c.in_ok-push.ensures.items;
    }

pub returns-clause-places : goal.returns-clause-places
returns-clause-places g c = all_places _ c.args.goals.items c.loop-goal.places.items c.loop-goal.rest.items _ _ c.loop-goal.invariant.placed (⊎_elim (λ p. inl (omega (arith, p.1))) (λ p. inr (omega (arith, p.1))) c.in-None.ensures.steps)

pub returns-clause-rest : goal.returns-clause-rest
returns-clause-rest g c = all_open _ c.args.goals.items c.loop-goal.places.items c.loop-goal.rest.items _ _ c.loop-goal.invariant.placed (⊎_elim (λ p. inl (omega (arith, p.1))) (λ p. inr (omega (arith, p.1))) c.in-None.ensures.steps)
