use Rattle.elab_flat_laws.proofs.Moving.{moved_means}
use Rattle.elab_flat_laws.proofs.Statements.{run_moved}
use Rattle.elab_flat_laws.proofs.law.moved_texts_do_the_same.Goals as goal

pub returns-clause-expressions : goal.returns-clause-expressions
returns-clause-expressions c = moved_means

pub returns-clause-statements : goal.returns-clause-statements
returns-clause-statements c = run_moved
