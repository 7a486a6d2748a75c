use Rattle.std.proofs.Common.{◌≡◌, [], drop, length, map}
use Rattle.vlog_tree_runs.specs.Contents.{params_in}
use Rattle.vlog_tree_runs.specs.Scopes.{params_from, params_of}
use Rattle.elab_flat_scopes.specs.Borrowed.{param_meant, given_meant}
use Rattle.elab_flat_params.specs.Parameters.{AreSound}
use Rattle.elab_flat_params.proofs.param.params_of.Given as goal

abbrev pub invariant-loop-param : goal.invariant-loop-param
invariant-loop-param l = record {
  rest : params_from l.text (map param_meant (drop l.param-index l.param-items)) (map given_meant l.given) l.outer l.done ≡ params_of l.text (map given_meant l.given) l.outer;
  sound : AreSound l.text (map param_meant (drop l.param-index l.param-items)) (map given_meant l.given) l.outer l.done → AreSound l.text (params_in l.text) (map given_meant l.given) l.outer [];
  place : l.at ≡ l.param-index;
  long : length l.done ≡ l.param-index;
}
