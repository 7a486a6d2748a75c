use Rattle.set_tree_completeness.proofs.flaws.answers_must_be_constrained_to_come.Goals as goal
use Rattle.set_tree_completeness.proofs.WaiterFlaws.{end_serve, comes_soon, serve_ends}

pub returns-clause-end : goal.returns-clause-end
returns-clause-end c = end_serve

pub returns-clause-unmet : goal.returns-clause-unmet
returns-clause-unmet c = comes_soon

pub returns-clause-end_kept : goal.returns-clause-end_kept
returns-clause-end_kept c = serve_ends
