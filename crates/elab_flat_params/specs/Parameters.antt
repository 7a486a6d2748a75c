-- The parameters of an instance, each over those before it (IEEE 1364-2005, sections 4.10 and 12.2).
use Rattle.std.specs.Prelude.{◌≡◌, List, [], ◌∷◌, ◌++◌, Some, slice_get, take}
use Rattle.vlog_tree.specs.declared.module.Module.{Module}
use Rattle.vlog_tree.specs.declared.valuation.Entry.{Entry}
use Rattle.vlog_tree_runs.specs.Places.{Name}
use Rattle.vlog_tree_runs.specs.Contents.{Param, params_in, is_open}
use Rattle.vlog_tree_runs.specs.Scopes.{Given, given_at, param_entry, params_of}
use Rattle.elab_flat_params.specs.declared.param.ParamFault.{ParamFault}
use Rattle.elab_flat_params.specs.declared.param.ParamFault.TheVariants as f
use Rattle.elab_flat_params.specs.Values.{override_of, IsSound, IsBad}

-- each parameter has a value over those before it
abbrev pub AreSound : Module → List Param → List Given → List Entry → List Entry → Type 0
AreSound m [] ds outer done = Unit {0}
AreSound m (p ∷ ps) ds outer done =
    IsSound p (override_of (is_open m p) (given_at ds p.name)) outer done × AreSound m ps ds outer (done ++ param_entry (is_open m p) p (given_at ds p.name) outer done ∷ [])

-- the parameters of an instance that is given these overrides, which are read over the outer parameters
pub record HasParams (m : Module) (ds : List Given) (outer v : List Entry) : Type 0 where
  pub are : v ≡ params_of m ds outer
  pub sound : AreSound m (params_in m) ds outer []

-- parameter number k has no value over those before it
abbrev pub IsFault : Module → List Given → List Entry → ParamFault → Type 0
IsFault m ds outer (f.Bad k cause) =
    (p : Param) × (slice_get (params_in m) k ≡ Some p) × IsBad p (override_of (is_open m p) (given_at ds p.name)) outer (take k (params_of m ds outer)) cause
IsFault m ds outer f.Memory = Unit {0}

abbrev pub given_name : Given → Name
given_name d = d.name
