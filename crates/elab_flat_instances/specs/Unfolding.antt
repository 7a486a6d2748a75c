-- The instances of a scope, and what is wrong with one.
use Rattle.std.specs.Prelude.{ℕ, suc, ◌≡◌, ◌⊎◌, List, [], ◌∷◌, Some, map}
use Rattle.vlog_tree.specs.declared.module.Module.{Module}
use Rattle.vlog_tree_runs.specs.Places.{Name, Among}
use Rattle.vlog_tree_runs.specs.Contents.{params_in, Inner, instances_in}
use Rattle.vlog_tree_runs.specs.Scopes.{Scope, scope_at, module_at, instance_at, child, overriding, params_of}
use Rattle.elab_flat_laws.specs.Flattened.{AreScopes}
use Rattle.elab_flat_faults.specs.declared.flattening.FlatFault.{FlatFault}
use Rattle.elab_flat_faults.specs.declared.flattening.FlatFault.TheVariants as f
use Rattle.elab_flat_faults.specs.FlatStands.{StandsAt, AreDistinct}
use Rattle.elab_flat_faults.specs.Handed.{AreInOrder}
use Rattle.elab_flat_params.specs.declared.unfit.BadParam.{BadParam}
use Rattle.elab_flat_params.specs.declared.unfit.BadParam.TheVariants as b
use Rattle.elab_flat_params.specs.declared.unfit.BadRange.{BadRange}
use Rattle.elab_flat_params.specs.declared.unfit.BadRange.TheVariants as r
use Rattle.elab_flat_params.specs.declared.unfit.Unfit.{Unfit}
use Rattle.elab_flat_params.specs.declared.unfit.Unfit.TheVariants as u
use Rattle.elab_flat_params.specs.Parameters.{AreSound}
use Rattle.elab_flat_scopes.specs.Finding.{place_in}
use Rattle.elab_flat_instances.specs.Graph.{instance_names}
use Rattle.elab_flat_instances.specs.declared.scope.Scope.{Scope as Instance}

abbrev pub scope_meant : Instance → Scope
scope_meant s = record { prefix = s.prefix; module' = s.text.now; params = s.params }

-- the fault of a constant
abbrev pub unfit_fault : Name → Unfit → FlatFault
unfit_fault n u.Name = f.Constant n
unfit_fault n u.Length = f.Width n
unfit_fault n u.Divisor = f.Constant n

abbrev pub range_fault : Name → BadRange → FlatFault
range_fault n (r.High cause) = unfit_fault n cause
range_fault n (r.Low cause) = unfit_fault n cause
range_fault n r.Order = f.Constant n
range_fault n r.Long = f.Width n

-- the fault of a parameter that has no value
abbrev pub param_fault : Name → BadParam → FlatFault
param_fault n (b.Range cause) = range_fault n cause
param_fault n (b.Value cause) = unfit_fault n cause
param_fault n (b.Given cause) = unfit_fault n cause

-- a fault stands at a scope, whatever its name
abbrev pub StandsIn : List Module → Scope → FlatFault → Type 0
StandsIn ms s fault = (path : Name) → StandsAt ms path s fault

-- a fault stands at a scope, or at an instance in it
abbrev pub StandsNear : List Module → Scope → Inner → FlatFault → Type 0
StandsNear ms s i fault = StandsIn ms s fault ⊎ ((t : Scope) × (child ms s i ≡ Some t) × StandsIn ms t fault)

-- an instance of a scope: the overrides and the parameters of its module have values
pub record IsChild (ms : List Module) (s : Scope) (i : Inner) (t : Scope) : Type 0 where
  pub child_is : child ms s i ≡ Some t
  pub sound : AreSound t.module' (params_in t.module') (overriding t.module' i.overrides) s.params []

-- an instance that its name finds, and that has a scope with sound parameters
pub record IsSoundInner (ms : List Module) (s : Scope) (i : Inner) : Type 0 where
  pub found : instance_at (instances_in s.module') i.name ≡ Some i
  pub scope : Scope
  pub is_child : IsChild ms s i scope

abbrev pub HasSoundInners : List Module → Scope → Type 0
HasSoundInners ms s = (i : Inner) → Among (instances_in s.module') i → IsSoundInner ms s i

-- the scopes of the instances of a scope, from the one with the number k on; each is the first of its name
abbrev pub AreChildren : List Module → Scope → ℕ → List Inner → List Scope → Type 0
AreChildren ms s k [] [] = Unit {0}
AreChildren ms s k (i ∷ is) (t ∷ ts) =
    (place_in (instance_names s.module') i.name ≡ Some k) × (instance_at (instances_in s.module') i.name ≡ Some i) × IsChild ms s i t × AreChildren ms s (suc k) is ts
AreChildren ms s k [] (t ∷ ts) = ⊥
AreChildren ms s k (i ∷ is) [] = ⊥

-- a fault stands at a scope, or at an instance in it that its name finds
abbrev pub StandsBelow : List Module → Scope → FlatFault → Type 0
StandsBelow ms s fault = StandsIn ms s fault ⊎ ((i : Inner) × (instance_at (instances_in s.module') i.name ≡ Some i) × (t : Scope) × (child ms s i ≡ Some t) × StandsIn ms t fault)

-- all scopes of a list of modules in the order of their paths, the instances of each with sound parameters
pub record AreUnfolded (ms : List Module) (top : Name) (ss : List Scope) : Type 0 where
  pub scopes : AreScopes ms top ss
  pub sound : (s : Scope) → Among ss s → HasSoundInners ms s
  pub paths : List (List Name)
  pub lead : map Some ss ≡ map (scope_at ms top) paths
  pub in_order : AreInOrder ms top paths
  pub distinct : AreDistinct paths

-- the scope of a module that is the top
abbrev pub scope_of_top : Module → Scope
scope_of_top m = record { prefix = []; module' = m; params = params_of m [] [] }

-- its parameters have values
pub record IsTopScope (m : Module) (s : Scope) : Type 0 where
  pub scope_is : scope_of_top m ≡ s
  pub sound : AreSound m (params_in m) [] [] []

abbrev pub StandsAtTop : Module → FlatFault → Type 0
StandsAtTop m fault = (ms : List Module) → StandsIn ms (scope_of_top m) fault

abbrev pub HasSoundTop : List Module → Name → Type 0
HasSoundTop ms top = (m : Module) × (module_at ms top ≡ Some m) × AreSound m (params_in m) [] [] []

-- a fault of the list of modules as a whole
abbrev pub IsOfWhole : FlatFault → Type 0
IsOfWhole f.NoTop = Unit {0}
IsOfWhole (f.Recursion n) = Unit {0}
IsOfWhole f.Instances = Unit {0}
IsOfWhole (f.Unknown n) = ⊥
IsOfWhole (f.Twice n) = ⊥
IsOfWhole (f.Port n) = ⊥
IsOfWhole (f.Constant n) = ⊥
IsOfWhole (f.Width n) = ⊥
IsOfWhole (f.Clock n) = ⊥
IsOfWhole f.Memory = ⊥
