use Rattle.vlog_tree_runs.proofs.Writing.{inside, others, piece, below}
use Rattle.vlog_tree_runs.proofs.law.bits_are_written.Goals as goal

pub returns-clause-inside : goal.returns-clause-inside
returns-clause-inside c = inside

pub returns-clause-others : goal.returns-clause-others
returns-clause-others c = others

pub returns-clause-piece : goal.returns-clause-piece
returns-clause-piece c = piece

pub returns-clause-below : goal.returns-clause-below
returns-clause-below c = below
