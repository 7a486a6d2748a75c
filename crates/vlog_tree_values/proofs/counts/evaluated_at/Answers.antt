use Rattle.vlog_tree_values.proofs.Meanings.{evaluated_at_some, evaluated_at_none, width_kept}
use Rattle.vlog_tree_values.proofs.counts.evaluated_at.Goals as goal

pub checked_value-word-requires-clause-formed : goal.checked_value-word-requires-clause-formed
checked_value-word-requires-clause-formed c = c.in_ok-tree.ensures.formed.1 c.requires.formed

pub checked_value-word-requires-clause-long : goal.checked_value-word-requires-clause-long
checked_value-word-requires-clause-long c = width_kept _ _ _ _ c.in_ok-tree.ensures c.requires.long

pub returns-clause-some : goal.returns-clause-some
returns-clause-some c = evaluated_at_some _ _ _ _ _ c.checked_value-word.result c.in_ok-tree.ensures c.checked_value-word.ensures.some

pub returns-clause-none : goal.returns-clause-none
returns-clause-none c = evaluated_at_none _ _ _ _ _ c.checked_value-word.result c.in_ok-tree.ensures c.checked_value-word.ensures.none
