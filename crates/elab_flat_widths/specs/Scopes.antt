-- What is known of a scope before its text is tested.
use Rattle.std.specs.Prelude.{◌≡◌, List, []}
use Rattle.vlog_tree.specs.declared.valuation.Entry.{Entry}
use Rattle.vlog_tree_runs.specs.Contents.{params_in}
use Rattle.vlog_tree_runs.specs.Scopes.{Scope, Given, params_of}
use Rattle.elab_flat_params.specs.Parameters.{AreSound}

-- the parameters of a scope have values: overrides are read over the parameters of another scope
pub record HasSoundParams (s : Scope) : Type 0 where
  pub given : List Given
  pub outer : List Entry
  pub are : s.params ≡ params_of s.module' given outer
  pub sound : AreSound s.module' (params_in s.module') given outer []
