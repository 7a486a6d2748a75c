use Rattle.std.proofs.Common.{List, sym, ap, ◌∙◌}
use Rattle.vlog_tree_runs.specs.Places.{Name}
use Rattle.elab_flat_scopes.specs.Finding.{place_in}
use Rattle.elab_flat_instances.proofs.recursion.recursion.Goals as goal

pub recursion_in-requires-clause-start : goal.recursion_in-requires-clause-start
recursion_in-requires-clause-start c = ap (λ (ns : List Name). place_in ns c.args.top.now) (sym c.requires.names) ∙ c.requires.start
