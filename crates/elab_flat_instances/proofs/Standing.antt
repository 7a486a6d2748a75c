-- What stands at a scope stands.
use Rattle.std.proofs.Common.{◌≡◌, List, [], ◌∷◌, ◌++◌, Some, inr, ⊎_elim}
use Rattle.vlog_tree.specs.declared.module.Module.{Module}
use Rattle.vlog_tree_runs.specs.Places.{Name}
use Rattle.vlog_tree_runs.specs.Scopes.{Scope, scope_at}
use Rattle.elab_flat_faults.specs.declared.flattening.FlatFault.{FlatFault}
use Rattle.elab_flat_faults.specs.declared.flattening.FlatFault.TheVariants as f
use Rattle.elab_flat_faults.specs.FlatStands.{path_name, StandsAt, Stands}
use Rattle.elab_flat_instances.specs.Unfolding.{StandsIn, StandsBelow}
use Rattle.elab_flat_instances.proofs.Worklist.{child_at}

module _ (ms : List Module) (top : Name) where
  pub at_scope : (path : List Name) (s : Scope) → scope_at ms top path ≡ Some s → (fault : FlatFault) → StandsAt ms (path_name top path) s fault → Stands ms top fault
  at_scope path s e f.NoTop h = absurd h
  at_scope path s e (f.Unknown n) h = (path, s, e, h)
  at_scope path s e (f.Twice n) h = inr (path, s, e, h)
  at_scope path s e (f.Port n) h = (path, s, e, h)
  at_scope path s e (f.Recursion n) h = absurd h
  at_scope path s e f.Instances h = absurd h
  at_scope path s e (f.Constant n) h = (path, s, e, h)
  at_scope path s e (f.Width n) h = (path, s, e, h)
  at_scope path s e (f.Clock n) h = absurd h
  at_scope path s e f.Memory h = absurd h

  pub in_scope : (path : List Name) (s : Scope) → scope_at ms top path ≡ Some s → (fault : FlatFault) → StandsIn ms s fault → Stands ms top fault
  in_scope path s e fault h = at_scope path s e fault (h (path_name top path))

  pub below_scope : (path : List Name) (s : Scope) → scope_at ms top path ≡ Some s → (fault : FlatFault) → StandsBelow ms s fault → Stands ms top fault
  below_scope path s e fault h =
      ⊎_elim (λ a. in_scope path s e fault a)
      (λ b. in_scope (path ++ b.0.name ∷ []) b.2 (child_at ms top path s e b.0 b.2 b.1 b.3) fault b.4) h
