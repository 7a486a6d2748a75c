-- A parameter without a value is a fault at its scope, or at the scope that overrides it.
use Rattle.std.proofs.Common.{ℕ, ◌≡◌, ◌++◌, Bool, true, false, List, Option, Some, inl, inr, refl, sym, ap, subst, ◌∙◌, take}
use Rattle.std.specs.List.{slice_get}
use Rattle.vlog_tree.specs.declared.expr.Expr.{Expr}
use Rattle.vlog_tree.specs.declared.item.Range.{Range}
use Rattle.vlog_tree.specs.declared.module.Module.{Module}
use Rattle.vlog_tree_runs.specs.Places.{Name, Among}
use Rattle.vlog_tree_runs.specs.Contents.{Param, params_in, is_open, Inner, instances_in}
use Rattle.vlog_tree_runs.specs.Scopes.{Scope, Given, module_at, given_at, overriding, params_of, width_in, inner_prefix}
use Rattle.elab_flat_faults.specs.declared.flattening.FlatFault.{FlatFault}
use Rattle.elab_flat_faults.specs.declared.flattening.FlatFault.TheVariants as f
use Rattle.elab_flat_faults.specs.Constants.{Taken, alone, stored, IsOrdered, BreaksBounds, BreaksRange, InRange}
use Rattle.elab_flat_faults.specs.FlatStands.{before, is_before, IsParam, IsOverride, Refuses}
use Rattle.elab_flat_params.specs.declared.unfit.BadParam.{BadParam}
use Rattle.elab_flat_params.specs.declared.unfit.BadParam.TheVariants as b
use Rattle.elab_flat_params.specs.declared.unfit.BadRange.{BadRange}
use Rattle.elab_flat_params.specs.declared.unfit.BadRange.TheVariants as r
use Rattle.elab_flat_params.specs.declared.unfit.Unfit.{Unfit}
use Rattle.elab_flat_params.specs.declared.unfit.Unfit.TheVariants as u
use Rattle.elab_flat_params.specs.declared.param.ParamFault.{ParamFault}
use Rattle.elab_flat_params.specs.declared.param.ParamFault.TheVariants as q
use Rattle.elab_flat_params.specs.Parameters.{IsFault}
use Rattle.elab_flat_params.specs.Constants.{IsBadRange}
use Rattle.elab_flat_params.specs.Values.{override_of, IsUnfitValue, IsBad}
use Rattle.elab_flat_instances.proofs.Walks.{inside, child_is}
use Rattle.elab_flat_instances.specs.Unfolding.{unfit_fault, range_fault, param_fault, StandsIn, StandsNear}

in_range : (P : Range → Type 0) (o : Option Range) (x : Range) → o ≡ Some x → P x → InRange P o
in_range P o x e h = subst (InRange P) (sym e) h

overridden : (can : Bool) (o : Option Expr) (a : Expr) → override_of can o ≡ Some a → (can ≡ true) × (o ≡ Some a)
overridden true o a e = (refl, e)
overridden false o a e = cc

-- a refusal that isn't want of memory
pub refuses : (P : FlatFault → Type 0) (fault : FlatFault) → P fault → Refuses P fault
refuses P f.NoTop h = h
refuses P (f.Unknown n) h = h
refuses P (f.Twice n) h = h
refuses P (f.Port n) h = h
refuses P (f.Recursion n) h = h
refuses P f.Instances h = h
refuses P (f.Constant n) h = h
refuses P (f.Width n) h = h
refuses P (f.Clock n) h = h
refuses P f.Memory h = tt

module _ (ms : List Module) (t : Scope) (k : ℕ) (p : Param) (at : IsParam t k p) where
  abbrev name : Name
  name = t.prefix ++ p.name

  pub own_value : (cause : Unfit) → IsUnfitValue (before t k) p.value p (before t k) cause → StandsIn ms t (unfit_fault name cause)
  own_value u.Name h = λ path. inr (inl (k, p, at, refl, inr (inl h)))
  own_value u.Divisor h = λ path. inr (inl (k, p, at, refl, inr (inr h)))
  own_value u.Length h = λ path. inr (inl (k, p, at, refl, inr h))

  module _ (x : Range) (e : p.shape.range ≡ Some x) where
    unbound : BreaksBounds IsOrdered (is_before t k) (before t k) x → StandsIn ms t (f.Constant name)
    unbound h = λ path. inr (inl (k, p, at, refl, inl (in_range (BreaksBounds IsOrdered (is_before t k) (before t k)) p.shape.range x e h)))

    wide : BreaksRange (is_before t k) (before t k) x → StandsIn ms t (f.Width name)
    wide h = λ path. inr (inl (k, p, at, refl, inl (in_range (BreaksRange (is_before t k) (before t k)) p.shape.range x e h)))

    pub own_range : (cause : BadRange) → IsBadRange (before t k) x cause → StandsIn ms t (range_fault name cause)
    own_range (r.High u.Name) h = unbound (inl (alone (before t k) x.high, inl refl, inl h))
    own_range (r.High u.Divisor) h = unbound (inl (alone (before t k) x.high, inl refl, inr h))
    own_range (r.High u.Length) h = wide (inl (alone (before t k) x.high, inl refl, h))
    own_range (r.Low u.Name) h = unbound (inl (alone (before t k) x.low, inr (inl refl), inl h))
    own_range (r.Low u.Divisor) h = unbound (inl (alone (before t k) x.low, inr (inl refl), inr h))
    own_range (r.Low u.Length) h = wide (inl (alone (before t k) x.low, inr (inl refl), h))
    own_range r.Order h = unbound (inr ((h.0.high.formed, h.0.low.formed), h.1))
    own_range r.Long h = wide (inr ((h.0.high.formed, h.0.low.formed), h.1.0, h.1.1))

module _ (ms : List Module) (s : Scope) (i : Inner) (m : Module) (among : Among (instances_in s.module') i) (there : module_at ms i.of_module ≡ Some m) (k : ℕ) (p : Param)
    (at : slice_get (params_in m) k ≡ Some p) where
  abbrev t : Scope
  t = inside s i m

  module _ (a : Expr) (can : is_open m p ≡ true) (given : given_at (overriding m i.overrides) p.name ≡ Some a) where
    abbrev taken : Taken
    taken = stored s.params (width_in p.shape.range 0 (before t k)) a

    over : IsOverride ms s i p taken
    over = record {
      inner = among;
      scope = t;
      child_is = child_is ms s i m there;
      number = k;
      declared = at;
      can = can;
      value = a;
      given = given;
      taken_is = refl;
    }

    given_value : (cause : Unfit) → IsUnfitValue s.params a p (before t k) cause → StandsIn ms s (unfit_fault (t.prefix ++ p.name) cause)
    given_value u.Name h = λ path. inr (inr (inl (i, p, taken, over, refl, inl h)))
    given_value u.Divisor h = λ path. inr (inr (inl (i, p, taken, over, refl, inr h)))
    given_value u.Length h = λ path. inr (inr (inl (i, p, taken, over, refl, h)))

  pub near : (cause : BadParam) → IsBad p (override_of (is_open m p) (given_at (overriding m i.overrides) p.name)) s.params (take k (params_of m (overriding m i.overrides) s.params)) cause →
      StandsNear ms s i (param_fault (t.prefix ++ p.name) cause)
  near (b.Range cause) h = inr (t, child_is ms s i m there, own_range ms t k p at h.0 h.1 cause h.2)
  near (b.Value cause) h = inr (t, child_is ms s i m there, own_value ms t k p at cause h)
  near (b.Given cause) h =
      let o = overridden (is_open m p) (given_at (overriding m i.overrides) p.name) h.0 h.1 in
      inl (given_value h.0 o.0 o.1 cause h.2)

-- what the code answers for a parameter without a value
pub child_fault : (ms : List Module) (s : Scope) (i : Inner) (m : Module) → Among (instances_in s.module') i → module_at ms i.of_module ≡ Some m → (ds : List Given) → ds ≡ overriding m i.overrides →
    (o : ParamFault) (k : ℕ) (cause : BadParam) → o ≡ q.Bad k cause → IsFault m ds s.params o → (fault : FlatFault) (prefix : Name) → prefix ≡ inner_prefix s.prefix i.name →
    ((p : Param) → slice_get (params_in m) k ≡ Some p → fault ≡ param_fault (prefix ++ p.name) cause) → Refuses (StandsNear ms s i) fault
child_fault ms s i m among there ds given o k cause is bad fault prefix front named =
    let h : IsFault m (overriding m i.overrides) s.params (q.Bad k cause) = subst (λ x. IsFault m x s.params (q.Bad k cause)) given (subst (IsFault m ds s.params) is bad) in
    let at = h.1 in
    let e : fault ≡ param_fault (inner_prefix s.prefix i.name ++ h.0.name) cause = named h.0 at ∙ ap (λ n. param_fault (n ++ h.0.name) cause) front in
    subst (Refuses (StandsNear ms s i)) (sym e)
    (refuses (StandsNear ms s i) (param_fault (inner_prefix s.prefix i.name ++ h.0.name) cause) (near ms s i m among there k h.0 at cause h.2))
