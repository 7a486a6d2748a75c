use Rattle.elab_step_flow.proofs.Finding.{if_none}
use Rattle.elab_step_flow.proofs.latch.missed_by.Goals as goal

pub returns-clause-none : goal.returns-clause-none
returns-clause-none c = if_none c.in_ok-place.place _ _ (λ f x h. f x h.1) c.in_ok-place.ensures.none
