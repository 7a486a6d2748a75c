-- The top, and faults of the list of modules as a whole.
use Rattle.std.proofs.Common.{ℕ, ◌≡◌, Bool, true, false, List, [], map, take, Option, Some, None, Result, Ok, Err, refl, sym, ap, subst, ◌∙◌}
use Rattle.std.specs.Prelude.{IfOk}
use Rattle.std.specs.List.{slice_get}
use Rattle.vlog_tree.specs.declared.expr.Expr.{Expr}
use Rattle.vlog_tree.specs.declared.module.Module.{Module}
use Rattle.vlog_tree.specs.declared.valuation.Entry.{Entry}
use Rattle.vlog_tree_runs.specs.Places.{Name}
use Rattle.vlog_tree_runs.specs.Contents.{Param, params_in, is_open}
use Rattle.vlog_tree_runs.specs.Scopes.{Given, module_at, scope_at, top_scope, params_of}
use Rattle.elab_flat_faults.specs.declared.flattening.FlatFault.{FlatFault}
use Rattle.elab_flat_faults.specs.declared.flattening.FlatFault.TheVariants as f
use Rattle.elab_flat_faults.specs.FlatStands.{Refuses, Stands, IsRecursive, HasMore}
use Rattle.elab_flat_scopes.specs.Finding.{place_in, module_name}
use Rattle.elab_flat_params.specs.declared.unfit.BadParam.{BadParam}
use Rattle.elab_flat_params.specs.declared.unfit.BadParam.TheVariants as b
use Rattle.elab_flat_params.specs.declared.param.ParamFault.{ParamFault}
use Rattle.elab_flat_params.specs.declared.param.ParamFault.TheVariants as q
use Rattle.elab_flat_params.specs.Parameters.{IsFault}
use Rattle.elab_flat_params.specs.Values.{override_of, IsBad}
use Rattle.elab_flat_instances.specs.Naming.{IsRecursionAnswer}
use Rattle.elab_flat_instances.specs.Unfolding.{param_fault, scope_of_top, StandsAtTop, IsOfWhole}
use Rattle.elab_flat_instances.proofs.Places.{module_place}
use Rattle.elab_flat_instances.proofs.Params.{refuses, own_value, own_range}
use Rattle.elab_flat_instances.proofs.Standing.{in_scope}

pub placed : (ms : List Module) (top : Name) (m : Module) → module_at ms top ≡ Some m → place_in (map module_name ms) top ≡ None → ⊥
placed ms top m e none = let k = module_place ms top m e in let z : None ≡ Some k.0 = sym none ∙ k.1 in cc

never : (can : Bool) (a : Expr) → override_of can None ≡ Some a → ⊥
never true a e = cc
never false a e = cc

near_top : (m : Module) (k : ℕ) (p : Param) → slice_get (params_in m) k ≡ Some p → (cause : BadParam) → IsBad p (override_of (is_open m p) None) [] (take k (params_of m [] [])) cause →
    StandsAtTop m (param_fault p.name cause)
near_top m k p at (b.Range cause) h = λ ms. own_range ms (scope_of_top m) k p at h.0 h.1 cause h.2
near_top m k p at (b.Value cause) h = λ ms. own_value ms (scope_of_top m) k p at cause h
near_top m k p at (b.Given cause) h = absurd (never (is_open m p) h.0 h.1)

pub top_fault : (m : Module) (ds : List Given) (outer : List Entry) → ds ≡ [] → outer ≡ [] → (o : ParamFault) (k : ℕ) (cause : BadParam) → o ≡ q.Bad k cause → IsFault m ds outer o →
    (fault : FlatFault) → ((p : Param) → slice_get (params_in m) k ≡ Some p → fault ≡ param_fault p.name cause) → Refuses (StandsAtTop m) fault
top_fault m ds outer none empty o k cause is bad fault named =
    let h : IsFault m [] [] (q.Bad k cause) = subst (λ v. IsFault m [] v (q.Bad k cause)) empty (subst (λ x. IsFault m x outer (q.Bad k cause)) none (subst (IsFault m ds outer) is bad)) in
    subst (Refuses (StandsAtTop m)) (sym (named h.0 h.1)) (refuses (StandsAtTop m) (param_fault h.0.name cause) (near_top m k h.0 h.1 cause h.2))

pub top_at : (ms : List Module) (top : Name) (m : Module) → module_at ms top ≡ Some m → scope_at ms top [] ≡ Some (scope_of_top m)
top_at ms top m e = ap top_scope e

pub top_stands : (ms : List Module) (top : Name) (m : Module) → module_at ms top ≡ Some m → (fault : FlatFault) → StandsAtTop m fault → Stands ms top fault
top_stands ms top m e fault h = in_scope ms top [] (scope_of_top m) (top_at ms top m e) fault (h ms)

pub plain_of : (ms : List Module) (top : Name) (o : Option Name) → IsRecursionAnswer ms top o → ((n : Name) → o ≡ Some n → ⊥) → (path : List Name) → IsRecursive ms top path → ⊥
plain_of ms top None h none = h
plain_of ms top (Some n) h none = absurd (none n refl)

pub if_ok : {A E : Type 0} (r : Result A E) (X : Type 0) → X → IfOk r (λ v. X)
if_ok (Ok v) X h = h
if_ok (Err v) X h = tt

whole_by : (ms : List Module) (top : Name) (m : Module) → module_at ms top ≡ Some m → ((path : List Name) → IsRecursive ms top path → ⊥) → (HasMore ms top 4096 → ⊥) →
    (fault : FlatFault) → IsOfWhole fault → Stands ms top fault → ⊥
whole_by ms top m e plain few f.NoTop w h = let z : None ≡ Some m = sym h ∙ e in cc
whole_by ms top m e plain few (f.Recursion n) w h = plain h.0 h.1
whole_by ms top m e plain few f.Instances w h = few h.1
whole_by ms top m e plain few (f.Unknown n) w h = w
whole_by ms top m e plain few (f.Twice n) w h = w
whole_by ms top m e plain few (f.Port n) w h = w
whole_by ms top m e plain few (f.Constant n) w h = w
whole_by ms top m e plain few (f.Width n) w h = w
whole_by ms top m e plain few (f.Clock n) w h = w
whole_by ms top m e plain few f.Memory w h = w

pub whole : {A E : Type 0} (ms : List Module) (top : Name) (m : Module) → module_at ms top ≡ Some m → ((path : List Name) → IsRecursive ms top path → ⊥) → (r : Result A E) →
    IfOk r (λ v. HasMore ms top 4096 → ⊥) → IfOk r (λ v. (fault : FlatFault) → IsOfWhole fault → Stands ms top fault → ⊥)
whole ms top m e plain (Ok v) few = whole_by ms top m e plain few
whole ms top m e plain (Err v) few = tt
