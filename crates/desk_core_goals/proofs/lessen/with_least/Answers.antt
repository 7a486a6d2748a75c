use Rattle.std.proofs.Common.{refl}
use Rattle.desk_core_goals.proofs.Lessening.{kept_replaced}
use Rattle.desk_core_goals.proofs.lessen.with_least.Goals as goal

pub returns-then-not-asks_least-clause-replaced : goal.returns-then-not-asks_least-clause-replaced
returns-then-not-asks_least-clause-replaced c = kept_replaced c.args.budget c.args.decided.items c.args.decided.items c.requires.shown refl
