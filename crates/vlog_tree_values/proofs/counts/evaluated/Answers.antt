use Rattle.vlog_tree_values.proofs.Meanings.{evaluated_some, evaluated_none}
use Rattle.vlog_tree_values.proofs.counts.evaluated.Goals as goal

pub returns-clause-some : goal.returns-clause-some
returns-clause-some c = evaluated_some _ _ _ c.checked_own_value-own.result c.in_ok-tree.ensures c.checked_own_value-own.ensures.some

pub returns-clause-none : goal.returns-clause-none
returns-clause-none c = evaluated_none _ _ _ c.checked_own_value-own.result c.in_ok-tree.ensures c.checked_own_value-own.ensures.none
