use Rattle.test_judges.proofs.segments.is_broken.Goals as goal

pub returns-in-Base : goal.returns-in-Base
returns-in-Base c = rw c.in-Base.is c.breaks_base.ensures

pub returns-in-Step : goal.returns-in-Step
returns-in-Step c = rw c.in-Step.is c.breaks_step.ensures

pub returns-in-Reset : goal.returns-in-Reset
returns-in-Reset c = rw c.in-Reset.is c.breaks_reset.ensures
