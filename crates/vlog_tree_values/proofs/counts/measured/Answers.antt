use Rattle.vlog_tree_values.proofs.Meanings.{measured_some, measured_none}
use Rattle.vlog_tree_values.proofs.counts.measured.Goals as goal

pub returns-clause-some : goal.returns-clause-some
returns-clause-some c = measured_some _ _ _ c.shape_of-shape.result c.in_ok-tree.ensures c.shape_of-shape.ensures.some

pub returns-clause-none : goal.returns-clause-none
returns-clause-none c = measured_none _ _ _ c.shape_of-shape.result c.in_ok-tree.ensures c.shape_of-shape.ensures.none
