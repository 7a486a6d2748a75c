-- A declaration that declares nothing is a fault at its scope.
use Rattle.std.proofs.Common.{◌≡◌, ◌<◌, ◌++◌, Option, Some, inl, inr, refl, sym, ap, subst, ◌∙◌, arith}
use Rattle.std.specs.Prelude.{ℤ, pos, ◌≤ℤ◌, ◌+ℤ◌}
use Rattle.std.proofs.lemmas.Int.{ints}
use Rattle.vlog_tree.specs.declared.item.Range.{Range}
use Rattle.vlog_tree.specs.Value.{natural}
use Rattle.vlog_tree_runs.specs.Places.{Name, Among}
use Rattle.vlog_tree_runs.specs.Blocks.{is_parameter}
use Rattle.vlog_tree_runs.specs.Contents.{Decl, decls_in}
use Rattle.vlog_tree_runs.specs.Scopes.{Scope, place_of}
use Rattle.elab_flat_faults.specs.declared.flattening.FlatFault.TheVariants as f
use Rattle.elab_flat_faults.specs.Constants.{alone, IsOrdered, IsFromZero, BreaksBounds, BreaksRange, BreaksWords, InRange}
use Rattle.elab_flat_faults.specs.FlatStands.{Refuses}
use Rattle.elab_flat_params.specs.declared.unfit.BadRange.{BadRange}
use Rattle.elab_flat_params.specs.declared.unfit.BadRange.TheVariants as r
use Rattle.elab_flat_params.specs.declared.unfit.BadSignal.{BadSignal}
use Rattle.elab_flat_params.specs.declared.unfit.BadSignal.TheVariants as g
use Rattle.elab_flat_params.specs.declared.unfit.BadWords.{BadWords}
use Rattle.elab_flat_params.specs.declared.unfit.BadWords.TheVariants as w
use Rattle.elab_flat_params.specs.declared.unfit.Unfit.TheVariants as u
use Rattle.elab_flat_params.specs.Constants.{IsBadRange, low_of}
use Rattle.elab_flat_params.specs.Signals.{IsBadWords, IsBadSignal}
use Rattle.elab_flat_instances.specs.Unfolding.{range_fault}
use Rattle.elab_flat_instances.proofs.Params.{refuses}
use Rattle.elab_flat_names.specs.Rows.{IsDeclaredAs, StandsAlone, words_fault, signal_fault}

in_range : (P : Range → Type 0) (o : Option Range) (x : Range) → o ≡ Some x → P x → InRange P o
in_range P o x e h = subst (InRange P) (sym e) h

many : (last : ℤ) → pos 64 ≤ℤ last → 64 < natural (last +ℤ pos 1)
many last le = omega (arith, ints)

module _ (s : Scope) (d : Decl) (among : Among (decls_in s.module') d) where
  abbrev name : Name
  name = s.prefix ++ d.name

  module _ (x : Range) (e : d.shape.range ≡ Some x) where
    unbound : BreaksBounds IsOrdered (is_parameter (place_of s)) s.params x → StandsAlone s (f.Constant name)
    unbound h = λ ms path. inl (d, among, refl, inl (in_range (BreaksBounds IsOrdered (is_parameter (place_of s)) s.params) d.shape.range x e h))

    wide : BreaksRange (is_parameter (place_of s)) s.params x → StandsAlone s (f.Width name)
    wide h = λ ms path. inl (d, among, refl, inl (in_range (BreaksRange (is_parameter (place_of s)) s.params) d.shape.range x e h))

    bad_range : (cause : BadRange) → IsBadRange s.params x cause → StandsAlone s (range_fault name cause)
    bad_range (r.High u.Name) h = unbound (inl (alone s.params x.high, inl refl, inl h))
    bad_range (r.High u.Divisor) h = unbound (inl (alone s.params x.high, inl refl, inr h))
    bad_range (r.High u.Length) h = wide (inl (alone s.params x.high, inl refl, h))
    bad_range (r.Low u.Name) h = unbound (inl (alone s.params x.low, inr (inl refl), inl h))
    bad_range (r.Low u.Divisor) h = unbound (inl (alone s.params x.low, inr (inl refl), inr h))
    bad_range (r.Low u.Length) h = wide (inl (alone s.params x.low, inr (inl refl), h))
    bad_range r.Order h = unbound (inr ((h.0.high.formed, h.0.low.formed), h.1))
    bad_range r.Long h = wide (inr ((h.0.high.formed, h.0.low.formed), h.1.0, h.1.1))

  module _ (x : Range) (e : d.words ≡ Some x) where
    uncounted : BreaksBounds IsFromZero (is_parameter (place_of s)) s.params x → StandsAlone s (f.Constant name)
    uncounted h = λ ms path. inl (d, among, refl, inr (in_range (BreaksBounds IsFromZero (is_parameter (place_of s)) s.params) d.words x e h))

    long : BreaksWords (is_parameter (place_of s)) s.params x → StandsAlone s (f.Width name)
    long h = λ ms path. inl (d, among, refl, inr (in_range (BreaksWords (is_parameter (place_of s)) s.params) d.words x e h))

    bad_words : (cause : BadWords) → IsBadWords s.params x cause → StandsAlone s (words_fault name cause)
    bad_words (w.First u.Name) h = uncounted (inl (alone s.params x.high, inl refl, inl h))
    bad_words (w.First u.Divisor) h = uncounted (inl (alone s.params x.high, inl refl, inr h))
    bad_words (w.First u.Length) h = long (inl (alone s.params x.high, inl refl, h))
    bad_words (w.Last u.Name) h = uncounted (inl (alone s.params x.low, inr (inl refl), inl h))
    bad_words (w.Last u.Divisor) h = uncounted (inl (alone s.params x.low, inr (inl refl), inr h))
    bad_words (w.Last u.Length) h = long (inl (alone s.params x.low, inr (inl refl), h))
    bad_words w.Order h = uncounted (inr ((h.0.high.formed, h.0.low.formed), h.1))
    bad_words w.Many h = long (inr ((h.0.high.formed, h.0.low.formed), h.1.0, many (low_of s.params x) h.1.1))

  bad_signal : (cause : BadSignal) → IsBadSignal s.params d cause → Refuses (StandsAlone s) (signal_fault name cause)
  bad_signal (g.Bits cause) h = refuses (StandsAlone s) (range_fault name cause) (bad_range h.0 h.1 cause h.2)
  bad_signal (g.Words cause) h = refuses (StandsAlone s) (words_fault name cause) (bad_words h.0 h.1 cause h.2)
  bad_signal g.Memory h = tt

-- what the code answers for a declaration that declares nothing
pub undeclared_signal : (s : Scope) (d : Decl) → IsDeclaredAs s.module' d → (cause : BadSignal) → IsBadSignal s.params d cause → (n : Name) → n ≡ s.prefix ++ d.name → Refuses (StandsAlone s) (signal_fault n cause)
undeclared_signal s d as' cause bad n is =
    subst (λ (m : Name). Refuses (StandsAlone s) (signal_fault m cause)) (ap (λ (x : Name). s.prefix ++ x) as'.name ∙ sym is) (bad_signal s as'.from as'.among cause (moved cause bad))
  where
    moved : (cause : BadSignal) → IsBadSignal s.params d cause → IsBadSignal s.params as'.from cause
    moved (g.Bits c) h = (h.0, ap (λ t. t.range) as'.shape ∙ h.1, h.2)
    moved (g.Words c) h = (h.0, as'.words ∙ h.1, h.2)
    moved g.Memory h = tt
