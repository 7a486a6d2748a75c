-- The scopes of instances with sound parameters, and what is connected to their ports.
use Rattle.std.proofs.Common.{ℕ, ◌≡◌, List, [], ◌∷◌, Option, Some, None, inl, inr, sym, ap, subst, ◌∙◌, max, take}
use Rattle.std.specs.Borrow.{Bor}
use Rattle.std.specs.Option.{option_map}
use Rattle.std.specs.Str.{bytes_eq}
use Rattle.std.proofs.lemmas.Bool.{cases_Bool}
use Rattle.vlog_tree.specs.declared.expr.Expr.{Expr}
use Rattle.vlog_tree.specs.declared.item.Range.{Range}
use Rattle.vlog_tree.specs.declared.module.Module.{Module}
use Rattle.vlog_tree.specs.declared.valuation.Entry.{Entry}
use Rattle.vlog_tree.specs.Valuation.{IsLength}
use Rattle.vlog_tree.specs.Value.{width_of}
use Rattle.vlog_tree_runs.specs.Places.{Name, Among}
use Rattle.vlog_tree_runs.specs.Contents.{Param, params_in, is_open, Decl, Inner}
use Rattle.vlog_tree_runs.specs.Scopes.{Scope, Given, module_at, scope_in, given_at, overriding, params_of, width_in, decl_at}
use Rattle.elab_flat_scopes.specs.declared.decl.Decl.{Decl as View}
use Rattle.elab_flat_scopes.specs.Borrowed.{decl_meant}
use Rattle.elab_flat_params.specs.declared.param.ParamFault.{ParamFault}
use Rattle.elab_flat_params.specs.declared.param.ParamFault.TheVariants as q
use Rattle.elab_flat_params.specs.declared.range.Vector.{Vector}
use Rattle.elab_flat_params.specs.declared.unfit.BadParam.{BadParam}
use Rattle.elab_flat_params.specs.declared.unfit.BadParam.TheVariants as b
use Rattle.elab_flat_params.specs.declared.unfit.BadRange.{BadRange}
use Rattle.elab_flat_params.specs.declared.unfit.BadRange.TheVariants as r
use Rattle.elab_flat_params.specs.declared.unfit.Unfit.{Unfit}
use Rattle.elab_flat_params.specs.declared.unfit.Unfit.TheVariants as u
use Rattle.elab_flat_params.specs.Constants.{IsConstant, IsUnfit, IsBadRange}
use Rattle.elab_flat_params.specs.Parameters.{AreSound, IsFault}
use Rattle.elab_flat_params.specs.Values.{HasBits, override_of, IfGiven, IsValue, IsSound, IsBad}
use Rattle.elab_flat_instances.specs.Unfolding.{IsSoundInner}
use Rattle.elab_flat_instances.proofs.Walks.{inside}
use Rattle.elab_flat_widths.proofs.Params.{constant_names, constant_sizes, sound_at}

-- ---- sound parameters have no fault

fits : (v : List Entry) (a : Expr) (n : ℕ) (cause : Unfit) → IsConstant v a n → IsUnfit v a n cause → ⊥
fits v a n u.Name k h = h k.names
fits v a n u.Length k h = constant_sizes v a n k h
fits v a n u.Divisor k h = constant_names v a n k (inr h)

range_fits : (v : List Entry) (x : Range) (d : Option Vector) → HasBits v (Some x) d → (cause : BadRange) → IsBadRange v x cause → ⊥
range_fits v x None h cause g = h
range_fits v x (Some d) h (r.High cause) g = fits v x.high (width_of v x.high) cause h.high g
range_fits v x (Some d) h (r.Low cause) g = fits v x.low (width_of v x.low) cause h.low g
range_fits v x (Some d) h r.Order g = g.1 h.spans.order
range_fits v x (Some d) h r.Long g = g.1.1 (subst IsLength h.spans.width h.spans.length)

param_fits : (p : Param) (o : Option Expr) (outer done : List Entry) → IsSound p o outer done → (cause : BadParam) → IsBad p o outer done cause → ⊥
param_fits p o outer done is (b.Range cause) h = range_fits done h.0 is.bits.0 (subst (λ z. HasBits done z is.bits.0) h.1 is.bits.1) cause h.2
param_fits p o outer done is (b.Value cause) h = fits done p.value (max (width_of done p.value) (width_in p.shape.range 0 done)) cause is.value h
param_fits p o outer done is (b.Given cause) h =
    fits outer h.0 (max (width_of outer h.0) (width_in p.shape.range 0 done)) cause (subst (IfGiven (λ a. IsValue outer a p done)) h.1 is.given) h.2

no_fault : (m : Module) (ds : List Given) (outer : List Entry) → AreSound m (params_in m) ds outer [] → (k : ℕ) (cause : BadParam) → IsFault m ds outer (q.Bad k cause) → ⊥
no_fault m ds outer sound k cause h =
    param_fits h.0 (override_of (is_open m h.0) (given_at ds h.0.name)) outer (take k (params_of m ds outer)) (sound_at m ds outer k h.0 sound h.1) cause h.2

module _ (ms : List Module) (s : Scope) (i : Inner) (is : IsSoundInner ms s i) where
  module _ (m : Module) (there : module_at ms i.of_module ≡ Some m) where
    child_sound : AreSound m (params_in m) (overriding m i.overrides) s.params []
    child_sound =
        let e : Some (inside s i m) ≡ Some is.scope = subst (λ o. scope_in s i o ≡ Some is.scope) there is.is_child.child_is in
        let same : inside s i m ≡ is.scope = cc in
        subst (λ (z : Scope). AreSound z.module' (params_in z.module') (overriding z.module' i.overrides) s.params []) (sym same) is.is_child.sound

    pub never_bad : (ds : List Given) → ds ≡ overriding m i.overrides → (o : ParamFault) (k : ℕ) (cause : BadParam) → o ≡ q.Bad k cause → IsFault m ds s.params o → ⊥
    never_bad ds given o k cause same bad =
        no_fault m (overriding m i.overrides) s.params child_sound k cause (subst (λ x. IsFault m x s.params (q.Bad k cause)) given (subst (IsFault m ds s.params) same bad))

-- ---- the port of a name

pub first_at : (ds : List Decl) (o : Option (Bor View)) (d : Bor View) (x y : Name) → option_map (λ (z : Bor View). decl_meant z.now) o ≡ decl_at ds x → o ≡ Some d → x ≡ y → decl_at ds y ≡ Some (decl_meant d.now)
first_at ds o d x y e is same = ap (decl_at ds) (sym same) ∙ (sym e ∙ ap (option_map (λ (z : Bor View). decl_meant z.now)) is)

pub nowhere_at : (ds : List Decl) (o : Option (Bor View)) (x y : Name) → option_map (λ (z : Bor View). decl_meant z.now) o ≡ decl_at ds x → o ≡ None → x ≡ y → decl_at ds y ≡ None
nowhere_at ds o x y e is same = ap (decl_at ds) (sym same) ∙ (sym e ∙ ap (option_map (λ (z : Bor View). decl_meant z.now)) is)

pub among_at : (ds : List Decl) (x : Name) (d : Decl) → decl_at ds x ≡ Some d → Among ds d
among_at [] x d e = cc
among_at (z ∷ zs) x d e = elim (cases_Bool (bytes_eq z.name x)) [
  | inl t ↦ (let g : Some z ≡ Some d = rw t at e in let same : z ≡ d = cc in inl same)
  | inr n ↦ inr (among_at zs x d (rw n at e))
]
