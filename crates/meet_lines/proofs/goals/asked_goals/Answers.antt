use Rattle.std.proofs.Common.{rules}
use Rattle.meet_lines.proofs.Finding.{asks_all}
use Rattle.meet_lines.proofs.goals.asked_goals.Goals as goal

pub returns-in_ok-all_goals-in-None-clause-ok : goal.returns-in_ok-all_goals-in-None-clause-ok
returns-in_ok-all_goals-in-None-clause-ok c = asks_all c.args.bound.now _ c.in_ok-all_goals-in-None.field-0.items (search rules) c.in_ok-all_goals-in-None.ensures.each
