-- Declarations that declare something break no rule, and the others do.
use Rattle.std.proofs.Common.{◌≡◌, ℕ, ◌<◌, List, [], ◌∷◌, ◌++◌, Option, Some, None, inl, inr, ⊎_elim, refl, sym, ap, subst, ◌∙◌, arith}
use Rattle.std.specs.Prelude.{ℤ, pos, ◌≤ℤ◌, ◌+ℤ◌}
use Rattle.std.proofs.lemmas.Int.{ints}
use Rattle.std.proofs.lemmas.Bool.{cases_Bool}
use Rattle.vlog_tree.specs.declared.item.Range.{Range}
use Rattle.vlog_tree.specs.declared.item.Shape.{Shape}
use Rattle.vlog_tree.specs.declared.module.Module.{Module}
use Rattle.vlog_tree.specs.declared.valuation.Entry.{Entry}
use Rattle.vlog_tree.specs.Valuation.{IsLength}
use Rattle.vlog_tree.specs.Value.{natural}
use Rattle.vlog_tree_runs.specs.Places.{Name, Among}
use Rattle.vlog_tree_runs.specs.Contents.{Decl, decls_in, signals_in, is_among, once}
use Rattle.vlog_tree_runs.specs.Scopes.{Scope, signal_of, width_in}
use Rattle.elab_flat_faults.specs.Constants.{alone, IsOrdered, IsFromZero, BreaksBounds, BreaksRange, BreaksWords, InRange}
use Rattle.elab_flat_faults.specs.FlatStands.{Refuses}
use Rattle.elab_flat_params.specs.declared.range.Vector.{Vector}
use Rattle.elab_flat_params.specs.declared.unfit.BadRange.{BadRange}
use Rattle.elab_flat_params.specs.declared.unfit.BadRange.TheVariants as r
use Rattle.elab_flat_params.specs.declared.unfit.BadSignal.{BadSignal}
use Rattle.elab_flat_params.specs.declared.unfit.BadSignal.TheVariants as g
use Rattle.elab_flat_params.specs.declared.unfit.BadWords.{BadWords}
use Rattle.elab_flat_params.specs.declared.unfit.BadWords.TheVariants as w
use Rattle.elab_flat_params.specs.declared.unfit.Unfit.TheVariants as u
use Rattle.elab_flat_params.specs.Constants.{is_known, IsBadRange, low_of}
use Rattle.elab_flat_params.specs.Signals.{IsDeclared, HasWords, IsBadWords, IsBadSignal}
use Rattle.elab_flat_params.specs.Values.{HasBits}
use Rattle.elab_flat_widths.specs.declared.violation.Violation.{Violation}
use Rattle.elab_flat_widths.specs.declared.violation.Violation.TheVariants as b
use Rattle.elab_flat_widths.specs.Ranges.{range_violation, words_violation, signal_violation, BreaksDecl, AreDeclared, fault_of, StandsAlone}
use Rattle.elab_flat_widths.specs.Taken.{Fails}
use Rattle.elab_flat_widths.proofs.Params.{bits_bound, bits_sized, words_bound, words_sized}

in_range : (P : Range → Type 0) (o : Option Range) (x : Range) → o ≡ Some x → P x → InRange P o
in_range P o x e h = subst (InRange P) (sym e) h

many : (last : ℤ) → pos 64 ≤ℤ last → 64 < natural (last +ℤ pos 1)
many last le = omega (arith, ints)

module _ (v : List Entry) (d : Decl) where
  module _ (x : Range) (e : d.shape.range ≡ Some x) where
    unbound : BreaksBounds IsOrdered (is_known v) v x → Fails (BreaksDecl v d) b.Constant
    unbound h = inl (in_range (BreaksBounds IsOrdered (is_known v) v) d.shape.range x e h)

    wide : BreaksRange (is_known v) v x → Fails (BreaksDecl v d) b.Length
    wide h = inl (in_range (BreaksRange (is_known v) v) d.shape.range x e h)

    bad_range : (cause : BadRange) → IsBadRange v x cause → Fails (BreaksDecl v d) (range_violation cause)
    bad_range (r.High u.Name) h = unbound (inl (alone v x.high, inl refl, inl h))
    bad_range (r.High u.Divisor) h = unbound (inl (alone v x.high, inl refl, inr h))
    bad_range (r.High u.Length) h = wide (inl (alone v x.high, inl refl, h))
    bad_range (r.Low u.Name) h = unbound (inl (alone v x.low, inr (inl refl), inl h))
    bad_range (r.Low u.Divisor) h = unbound (inl (alone v x.low, inr (inl refl), inr h))
    bad_range (r.Low u.Length) h = wide (inl (alone v x.low, inr (inl refl), h))
    bad_range r.Order h = unbound (inr ((h.0.high.formed, h.0.low.formed), h.1))
    bad_range r.Long h = wide (inr ((h.0.high.formed, h.0.low.formed), h.1.0, h.1.1))

  module _ (x : Range) (e : d.words ≡ Some x) where
    uncounted : BreaksBounds IsFromZero (is_known v) v x → Fails (BreaksDecl v d) b.Constant
    uncounted h = inr (in_range (BreaksBounds IsFromZero (is_known v) v) d.words x e h)

    long : BreaksWords (is_known v) v x → Fails (BreaksDecl v d) b.Length
    long h = inr (in_range (BreaksWords (is_known v) v) d.words x e h)

    bad_words : (cause : BadWords) → IsBadWords v x cause → Fails (BreaksDecl v d) (words_violation cause)
    bad_words (w.First u.Name) h = uncounted (inl (alone v x.high, inl refl, inl h))
    bad_words (w.First u.Divisor) h = uncounted (inl (alone v x.high, inl refl, inr h))
    bad_words (w.First u.Length) h = long (inl (alone v x.high, inl refl, h))
    bad_words (w.Last u.Name) h = uncounted (inl (alone v x.low, inr (inl refl), inl h))
    bad_words (w.Last u.Divisor) h = uncounted (inl (alone v x.low, inr (inl refl), inr h))
    bad_words (w.Last u.Length) h = long (inl (alone v x.low, inr (inl refl), h))
    bad_words w.Order h = uncounted (inr ((h.0.high.formed, h.0.low.formed), h.1))
    bad_words w.Many h = long (inr ((h.0.high.formed, h.0.low.formed), h.1.0, many (low_of v x) h.1.1))

  pub bad_signal : (cause : BadSignal) → IsBadSignal v d cause → Fails (BreaksDecl v d) (signal_violation cause)
  bad_signal (g.Bits cause) h = bad_range h.0 h.1 cause h.2
  bad_signal (g.Words cause) h = bad_words h.0 h.1 cause h.2
  bad_signal g.Memory h = tt

  pub decl_keeps : IsDeclared v d → (w : Violation) → BreaksDecl v d w → ⊥
  decl_keeps is b.Constant (inl h) = bits_bound v d.shape.range is.bits.0 is.bits.1 h
  decl_keeps is b.Constant (inr h) = words_bound v d.words is.words.0 is.words.1 h
  decl_keeps is b.Length (inl h) = bits_sized v d.shape.range is.bits.0 is.bits.1 h
  decl_keeps is b.Length (inr h) = words_sized v d.words is.words.0 is.words.1 h
  decl_keeps is b.Memory h = h

  pub only_memory : IsDeclared v d → (w : Violation) → Fails (BreaksDecl v d) w → w ≡ b.Memory
  only_memory is b.Constant h = absurd (decl_keeps is b.Constant h)
  only_memory is b.Length h = absurd (decl_keeps is b.Length h)
  only_memory is b.Memory h = refl

  bits_length : (o : Option Range) (x : Option Vector) → HasBits v o x → IsLength (width_in o 1 v)
  bits_length None x h = (omega arith, omega arith)
  bits_length (Some r) (Some x) h = subst IsLength h.spans.width h.spans.length
  bits_length (Some r) None h = absurd h

  pub signal_length : IsDeclared v d → IsLength (signal_of v d).width
  signal_length is = bits_length d.shape.range is.bits.0 is.bits.1

-- a signal says of its ranges what one of its declarations does
pub record SaysAs (m : Module) (d : Decl) : Type 0 where
  pub from : Decl
  pub among : Among (decls_in m) from
  pub name : from.name ≡ d.name
  pub shape : from.shape ≡ d.shape
  pub words : from.words ≡ d.words

once_as : (m : Module) (all : List Decl) (done : List Name) (ds : List Decl) → ((d : Decl) → Among ds d → Among (decls_in m) d) → (d : Decl) → Among (once all done ds) d → SaysAs m d
once_as m all done [] sub d a = absurd a
once_as m all done (e ∷ ds) sub d a = elim (cases_Bool (is_among done e.name)) [
  | inl y ↦ once_as m all done ds (λ z h. sub z (inr h)) d (rw y at a)
  | inr n ↦ ⊎_elim
      (λ s. subst (SaysAs m) s (record {
        from = e;
        among = sub e (inl refl);
        name = refl;
        shape = refl;
        words = refl;
      })) (λ h. once_as m all (e.name ∷ done) ds (λ z h. sub z (inr h)) d h) (rw n at a)
]

pub signal_declared : (s : Scope) → AreDeclared s → (d : Decl) → Among (signals_in s.module') d → IsDeclared s.params d
signal_declared s all d a =
    let as' = once_as s.module' (decls_in s.module') [] (decls_in s.module') (λ z h. h) d a in
    let is = all as'.from as'.among in
    record {
      bits = subst (λ (z : Shape). (o : Option Vector) × HasBits s.params z.range o) as'.shape is.bits;
      words = subst (λ (z : Option Range). (n : ℕ) × HasWords s.params z n) as'.words is.words;
    }

-- what the code answers
pub decl_stands : (s : Scope) (d : Decl) → Among (decls_in s.module') d → (w : Violation) (n : Name) → n ≡ s.prefix ++ d.name → Fails (BreaksDecl s.params d) w → Refuses (StandsAlone s) (fault_of n w)
decl_stands s d a b.Constant n is h = λ ms path. inl (d, a, is, h)
decl_stands s d a b.Length n is h = λ ms path. inl (d, a, is, h)
decl_stands s d a b.Memory n is h = tt

pub signal_stands : (s : Scope) (d : Decl) → Among (signals_in s.module') d → (w : Violation) (n : Name) → n ≡ s.prefix ++ d.name → Fails (BreaksDecl s.params d) w → Refuses (StandsAlone s) (fault_of n w)
signal_stands s d a w n is h =
    let as' = once_as s.module' (decls_in s.module') [] (decls_in s.module') (λ z h. h) d a in
    decl_stands s as'.from as'.among w n (is ∙ ap (λ x. s.prefix ++ x) (sym as'.name)) (moved as' w h)
  where
    moved : (as' : SaysAs s.module' d) (w : Violation) → Fails (BreaksDecl s.params d) w → Fails (BreaksDecl s.params as'.from) w
    moved as' b.Constant (inl h) = inl (subst (λ (z : Shape). InRange (BreaksBounds IsOrdered (is_known s.params) s.params) z.range) (sym as'.shape) h)
    moved as' b.Constant (inr h) = inr (subst (InRange (BreaksBounds IsFromZero (is_known s.params) s.params)) (sym as'.words) h)
    moved as' b.Length (inl h) = inl (subst (λ (z : Shape). InRange (BreaksRange (is_known s.params) s.params) z.range) (sym as'.shape) h)
    moved as' b.Length (inr h) = inr (subst (InRange (BreaksWords (is_known s.params) s.params)) (sym as'.words) h)
    moved as' b.Memory h = tt
