use Rattle.desk_core_goals.proofs.Finding.{alone}
use Rattle.desk_core_goals.proofs.goals.one_goal.Goals as goal

pub returns-clause-ok : goal.returns-clause-ok
returns-clause-ok c = alone c.args.bound.now c.args.name.now c.in_ok-goal.goal _ c.in_ok-goal.ensures.ok c.in_ok-only.ensures
