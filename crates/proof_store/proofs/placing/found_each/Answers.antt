use Rattle.std.proofs.Common.{arith, inl, inr, ⊎_elim}
use Rattle.proof_store.proofs.Finding.{found_all, found_more}
use Rattle.proof_store.proofs.placing.found_each.Goals as goal

pub loop-one-preserved : goal.loop-one-preserved
loop-one-preserved c =
    let taken = c.in-Some.ensures.steps in record {
      can_next = (tt, tt);
      is_finite = tt;
      are = found_more c.loop-one.found.items _ _ _ _ _ c.in-Some.one c.in-Some.evidence _ _ c.loop-one.invariant.are taken.0.0 taken.1.0 c.found_of.ensures c.in_ok-push.ensures.items;
    }

pub returns : goal.returns
returns c = found_all c.loop-one.found.items _ _ _ c.loop-one.invariant.are (⊎_elim (λ p. inl (omega (arith, p.1))) (λ p. inr (omega (arith, p.1))) c.in-None.ensures.steps)
