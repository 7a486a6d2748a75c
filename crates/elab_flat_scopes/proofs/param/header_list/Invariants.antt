use Rattle.std.proofs.Common.{◌≡◌, ◌++◌, drop, map}
use Rattle.vlog_tree_runs.specs.Contents.{bare, header_params}
use Rattle.elab_flat_scopes.specs.Borrowed.{shape_meant, param_meant}
use Rattle.elab_flat_scopes.proofs.param.header_list.Given as goal

abbrev pub invariant-loop-parameter : goal.invariant-loop-parameter
invariant-loop-parameter l = map param_meant l.all.items ++ header_params (shape_meant l.shape) (drop l.parameter-index l.list) ≡ header_params bare l.list
