use Rattle.std.proofs.Common.{◌≡◌, ◌++◌, false, drop, map}
use Rattle.vlog_tree_runs.specs.Contents.{param}
use Rattle.elab_flat_scopes.specs.Borrowed.{param_meant}
use Rattle.elab_flat_scopes.proofs.param.add_params.Given as goal

abbrev pub invariant-loop-param : goal.invariant-loop-param
invariant-loop-param l =
    map param_meant l.all.items ++ map (param false l.is_local l.shape) (drop l.param-index l.params) ≡ map param_meant l.initial.all.items ++ map (param false l.is_local l.shape) l.params
