use Rattle.std.proofs.Common.{map, ap, ◌∙◌}
use Rattle.elab_flat_scopes.specs.Borrowed.{name_meant}
use Rattle.elab_flat_instances.specs.Unfolding.{scope_meant}
use Rattle.elab_flat_clocks.specs.Tables.{itself}
use Rattle.elab_flat_clocks.proofs.Inputs.{top_is}
use Rattle.elab_flat_clocks.proofs.table.top_table.Goals as goal

pub returns-clause-ok : goal.returns-clause-ok
returns-clause-ok c =
    top_is (scope_meant c.args.scope.now) c.in_ok-table.table
    (c.in_ok-table.ensures ∙ (c.in_ok-themselves.ensures ∙ ap (map itself) (ap (map name_meant) c.deref.ensures.value ∙ c.in-Ok.ensures.ok)))
