-- Sound parameters, overrides and declarations break no rule.
use Rattle.std.proofs.Common.{◌≡◌, ℕ, zero, suc, ◌+◌, true, List, [], ◌∷◌, ◌++◌, length, take, Option, Some, None, inl, inr, refl, sym, subst, arith, length-append, max}
use Rattle.std.specs.List.{slice_get}
use Rattle.vlog_tree.specs.declared.expr.Expr.{Expr}
use Rattle.vlog_tree.specs.declared.item.Range.{Range}
use Rattle.vlog_tree.specs.declared.module.Module.{Module}
use Rattle.vlog_tree.specs.declared.valuation.Entry.{Entry}
use Rattle.vlog_tree.specs.Valuation.{IsLength}
use Rattle.vlog_tree.specs.Value.{width_of}
use Rattle.vlog_tree_runs.specs.Places.{Among}
use Rattle.vlog_tree_runs.specs.Blocks.{is_parameter}
use Rattle.vlog_tree_runs.specs.Contents.{Param, params_in, is_open, Inner}
use Rattle.vlog_tree_runs.specs.Scopes.{Scope, Given, given_at, overriding, param_entry, params_from, params_of, place_of, scope_in, child, module_at, width_in}
use Rattle.elab_flat_faults.specs.Constants.{Taken, alone, IsInconstant, IsMissized, IsOrdered, IsFromZero, BreaksBounds, BreaksRange, BreaksWords, InRange}
use Rattle.elab_flat_faults.specs.FlatStands.{before, is_before, IsParam, param_value, IsOverride}
use Rattle.elab_flat_params.specs.declared.range.Vector.{Vector}
use Rattle.elab_flat_params.specs.Constants.{is_known, IsConstant, taken_at}
use Rattle.elab_flat_params.specs.Parameters.{AreSound}
use Rattle.elab_flat_params.specs.Signals.{HasWords}
use Rattle.elab_flat_params.specs.Values.{HasBits, override_of, IfGiven, IsValue, IsSound}
use Rattle.elab_flat_params.proofs.Parameters.{those_before}
use Rattle.elab_flat_instances.specs.Unfolding.{HasSoundInners}
use Rattle.elab_flat_instances.proofs.Walks.{inside}
use Rattle.elab_flat_widths.specs.Scopes.{HasSoundParams}
use Rattle.elab_flat_widths.proofs.Takes.{formed_bounds}

-- ---- constants and ranges

module _ (v : List Entry) where
  pub constant_names : (a : Expr) (n : ℕ) → IsConstant v a n → IsInconstant (is_known v) v (taken_at v a n) → ⊥
  constant_names a n k (inl h) = h k.names
  constant_names a n k (inr h) = h.1 (formed_bounds v a k.formed, λ _. k.defined)

  pub constant_sizes : (a : Expr) (n : ℕ) → IsConstant v a n → IsMissized (is_known v) v (taken_at v a n) → ⊥
  constant_sizes a n k h = h.2 k.formed

  module _ (x : Range) (high : IsConstant v x.high (width_of v x.high)) (low : IsConstant v x.low (width_of v x.low)) where
    bounds : (t : Taken) → Among (alone v x.high ∷ alone v x.low ∷ []) t → IsInconstant (is_known v) v t → ⊥
    bounds t (inl e) h = constant_names x.high (width_of v x.high) high (subst (IsInconstant (is_known v) v) (sym e) h)
    bounds t (inr (inl e)) h = constant_names x.low (width_of v x.low) low (subst (IsInconstant (is_known v) v) (sym e) h)
    bounds t (inr (inr a)) h = a

    sizes : (t : Taken) → Among (alone v x.high ∷ alone v x.low ∷ []) t → IsMissized (is_known v) v t → ⊥
    sizes t (inl e) h = constant_sizes x.high (width_of v x.high) high (subst (IsMissized (is_known v) v) (sym e) h)
    sizes t (inr (inl e)) h = constant_sizes x.low (width_of v x.low) low (subst (IsMissized (is_known v) v) (sym e) h)
    sizes t (inr (inr a)) h = a

  pub bits_bound : (o : Option Range) (d : Option Vector) → HasBits v o d → InRange (BreaksBounds IsOrdered (is_known v) v) o → ⊥
  bits_bound None d h b = b
  bits_bound (Some x) None h b = h
  bits_bound (Some x) (Some d) h (inl b) = bounds x h.high h.low b.0 b.1 b.2
  bits_bound (Some x) (Some d) h (inr b) = b.1 h.spans.order

  pub bits_sized : (o : Option Range) (d : Option Vector) → HasBits v o d → InRange (BreaksRange (is_known v) v) o → ⊥
  bits_sized None d h b = b
  bits_sized (Some x) None h b = h
  bits_sized (Some x) (Some d) h (inl b) = sizes x h.high h.low b.0 b.1 b.2
  bits_sized (Some x) (Some d) h (inr b) = b.2 (subst IsLength h.spans.width h.spans.length)

  pub words_bound : (o : Option Range) (n : ℕ) → HasWords v o n → InRange (BreaksBounds IsFromZero (is_known v) v) o → ⊥
  words_bound None n h b = b
  words_bound (Some x) n h (inl b) = bounds x h.first h.last b.0 b.1 b.2
  words_bound (Some x) n h (inr b) = b.1 h.counts.order

  pub words_sized : (o : Option Range) (n : ℕ) → HasWords v o n → InRange (BreaksWords (is_known v) v) o → ⊥
  words_sized None n h b = b
  words_sized (Some x) n h (inl b) = sizes x h.first h.last b.0 b.1 b.2
  words_sized (Some x) n h (inr b) = let many = b.2 in omega (arith, h.counts.words, h.counts.most, many)

-- ---- parameters

sound_from : (m : Module) (ds : List Given) (outer : List Entry) (ps : List Param) (done : List Entry) (k n : ℕ) (p : Param) → n ≡ length done + k → AreSound m ps ds outer done → slice_get ps k ≡ Some p →
    IsSound p (override_of (is_open m p) (given_at ds p.name)) outer (take n (params_from m ps ds outer done))
sound_from m ds outer [] done k n p long sound e = cc
sound_from m ds outer (q ∷ ps) done zero n p long sound e =
    let same : q ≡ p = cc in
    let at : take n (params_from m (q ∷ ps) ds outer done) ≡ done = those_before m (q ∷ ps) ds outer done (params_from m (q ∷ ps) ds outer done) n refl (omega (arith, long)) in
    subst (IsSound p (override_of (is_open m p) (given_at ds p.name)) outer) (sym at) (subst (λ z. IsSound z (override_of (is_open m z) (given_at ds z.name)) outer done) same sound.0)
sound_from m ds outer (q ∷ ps) done (suc k) n p long sound e =
    let x = param_entry (is_open m q) q (given_at ds q.name) outer done in
    sound_from m ds outer ps (done ++ x ∷ []) k n p (omega (arith, long, length-append done (x ∷ []))) sound.1 e

pub sound_at : (m : Module) (ds : List Given) (outer : List Entry) (k : ℕ) (p : Param) → AreSound m (params_in m) ds outer [] → slice_get (params_in m) k ≡ Some p →
    IsSound p (override_of (is_open m p) (given_at ds p.name)) outer (take k (params_of m ds outer))
sound_at m ds outer k p sound e = sound_from m ds outer (params_in m) [] k k p (omega arith) sound e

module _ (s : Scope) (has : HasSoundParams s) (k : ℕ) (p : Param) (at : IsParam s k p) where
  sound : IsSound p (override_of (is_open s.module' p) (given_at has.given p.name)) has.outer (before s k)
  sound = subst (λ v. IsSound p (override_of (is_open s.module' p) (given_at has.given p.name)) has.outer (take k v)) (sym has.are) (sound_at s.module' has.given has.outer k p has.sound at)

  pub param_constant : InRange (BreaksBounds IsOrdered (is_before s k) (before s k)) p.shape.range → ⊥
  param_constant h = bits_bound (before s k) p.shape.range sound.bits.0 sound.bits.1 h

  pub param_inconstant : IsInconstant (is_before s k) (before s k) (param_value s k p) → ⊥
  param_inconstant h = constant_names (before s k) p.value (max (width_of (before s k) p.value) (width_in p.shape.range 0 (before s k))) sound.value h

  pub param_wide : InRange (BreaksRange (is_before s k) (before s k)) p.shape.range → ⊥
  param_wide h = bits_sized (before s k) p.shape.range sound.bits.0 sound.bits.1 h

  pub param_missized : IsMissized (is_before s k) (before s k) (param_value s k p) → ⊥
  param_missized h = constant_sizes (before s k) p.value (max (width_of (before s k) p.value) (width_in p.shape.range 0 (before s k))) sound.value h

-- ---- overrides

pub child_params : (s : Scope) (i : Inner) (o : Option Module) (t : Scope) → scope_in s i o ≡ Some t → t.params ≡ params_of t.module' (overriding t.module' i.overrides) s.params
child_params s i None t e = cc
child_params s i (Some m) t e =
    let same : inside s i m ≡ t = cc in
    subst (λ (z : Scope). z.params ≡ params_of z.module' (overriding z.module' i.overrides) s.params) same refl

module _ (ms : List Module) (s : Scope) (inners : HasSoundInners ms s) (i : Inner) (p : Param) (t : Taken) (o : IsOverride ms s i p t) where
  abbrev u : Scope
  u = o.scope

  abbrev width : ℕ
  width = width_in p.shape.range 0 (before u o.number)

  abbrev ds : List Given
  ds = overriding u.module' i.overrides

  child_sound : AreSound u.module' (params_in u.module') ds s.params []
  child_sound =
      let inner = inners i o.inner in
      let same : inner.scope ≡ u = one (child ms s i) inner.scope u inner.is_child.child_is o.child_is in
      subst (λ (z : Scope). AreSound z.module' (params_in z.module') (overriding z.module' i.overrides) s.params []) same inner.is_child.sound
    where
      one : (x : Option Scope) (a b : Scope) → x ≡ Some a → x ≡ Some b → a ≡ b
      one x a b e f = cc

  value : IsConstant s.params o.value (max (width_of s.params o.value) width)
  value =
      let are = child_params s i (module_at ms i.of_module) u o.child_is in
      let sound = sound_at u.module' ds s.params o.number p child_sound o.declared in
      let here = subst (λ v. IsSound p (override_of (is_open u.module' p) (given_at ds p.name)) s.params (take o.number v)) (sym are) sound in
      let open' = subst (λ b. IfGiven (λ a. IsValue s.params a p (before u o.number)) (override_of b (given_at ds p.name))) o.can here.given in
      subst (λ x. IfGiven (λ a. IsValue s.params a p (before u o.number)) (override_of true x)) o.given open'

  pub override_inconstant : IsInconstant (is_parameter (place_of s)) s.params t → ⊥
  override_inconstant h = constant_names s.params o.value (max (width_of s.params o.value) width) value (subst (IsInconstant (is_known s.params) s.params) o.taken_is h)

  pub override_missized : IsMissized (is_parameter (place_of s)) s.params t → ⊥
  override_missized h = constant_sizes s.params o.value (max (width_of s.params o.value) width) value (subst (IsMissized (is_known s.params) s.params) o.taken_is h)
