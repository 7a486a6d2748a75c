use Rattle.std.proofs.Common.{◌≡◌, ◌++◌, drop, map, filter}
use Rattle.vlog_tree_runs.specs.Contents.{is_open}
use Rattle.elab_flat_scopes.specs.Borrowed.{name_meant, param_meant, param_name}
use Rattle.elab_flat_scopes.proofs.given.open_names.Given as goal

abbrev pub invariant-loop-param : goal.invariant-loop-param
invariant-loop-param l =
    map name_meant l.all.items ++ map param_name (filter (is_open l.text) (map param_meant (drop l.param-index l.params)))
    ≡ map param_name (filter (is_open l.text) (map param_meant l.params))
