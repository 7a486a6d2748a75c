-- Memories have at most 64 words where no rule on constants and lengths is broken.
use Rattle.std.proofs.Common.{ℕ, zero, suc, ◌≡◌, ◌<◌, ◌≤◌, Bool, List, Option, Some, None, inl, inr, refl, sym, subst, arith}
use Rattle.vlog_tree.specs.declared.item.Range.{Range}
use Rattle.vlog_tree.specs.declared.module.Module.{Module}
use Rattle.vlog_tree.specs.declared.valuation.Entry.{Entry}
use Rattle.vlog_tree.specs.Value.{IsFormed}
use Rattle.vlog_tree_runs.specs.declared.flat.Signal.{Signal}
use Rattle.vlog_tree_runs.specs.Places.{Name, Among}
use Rattle.vlog_tree_runs.specs.Blocks.{is_parameter}
use Rattle.vlog_tree_runs.specs.Contents.{Decl, decls_in, signals_in}
use Rattle.vlog_tree_runs.specs.Scopes.{Scope, place_of, signal_of, depth_in}
use Rattle.elab_flat_laws.specs.Flattened.{AreShallow}
use Rattle.elab_flat_laws.proofs.Lists.{among_map}
use Rattle.elab_flat_faults.specs.Constants.{Taken, alone, bounds_of, IsInconstant, IsFromZero, BreaksBounds, BreaksWords, InRange}
use Rattle.elab_flat_faults.specs.FlatStands.{full}
use Rattle.elab_flat_instances.specs.Naming.{prefix_name}
use Rattle.elab_flat_names.proofs.Words.{signals_as}
use Rattle.elab_flat.specs.Checked.{HasFitLengths, AreChecked}

at_most : (n k : ℕ) → (n < k → ⊥) → k ≤ n
at_most n zero h = omega arith
at_most zero (suc k) h = absurd (h (omega arith))
at_most (suc n) (suc k) h = let le : k ≤ n = at_most n k (λ lt. h (omega (arith, lt))) in omega arith

-- a range of words that breaks no rule has at most 64
module _ (test : Name → Bool) (v : List Entry) (r : Range) (bound : BreaksBounds IsFromZero test v r → ⊥) (wide : BreaksWords test v r → ⊥) where
  formed : (t : Taken) → Among (bounds_of v r) t → (IsFormed v t.value → ⊥) → ⊥
  formed t a n =
      let constant : IsInconstant test v t → ⊥ = λ h. bound (inl (t, a, h)) in
      constant (inl (λ names. constant (inr (names, λ nonzero. wide (inl (t, a, (names, nonzero.0, n)))))))

  few : depth_in (Some r) v ≤ 64
  few =
      at_most 64 (depth_in (Some r) v)
      (λ lt. formed (alone v r.high) (inl refl) (λ high. formed (alone v r.low) (inr (inl refl)) (λ low. bound (inr ((high, low), λ order. wide (inr ((high, low), order, lt)))))))

in_range : (P : Range → Type 0) (o : Option Range) (x : Range) → o ≡ Some x → P x → InRange P o
in_range P o x e h = subst (InRange P) (sym e) h

module _ (ms : List Module) (path : Name) (s : Scope) (fit : HasFitLengths ms path s) where
  words_few : (d : Decl) → Among (decls_in s.module') d → (o : Option Range) → d.words ≡ o → depth_in o s.params ≤ 64
  words_few d a None e = omega arith
  words_few d a (Some r) e =
      let test = is_parameter (place_of s) in
      few test s.params r
      (λ h. fit (full s d.name) (inl (inl (d, a, refl, inr (in_range (BreaksBounds IsFromZero test s.params) d.words r e h)))))
      (λ h. fit (full s d.name) (inr (inl (d, a, refl, inr (in_range (BreaksWords test s.params) d.words r e h)))))

  signal_few : (g : Signal) → Among (place_of s).signals g → g.depth ≤ 64
  signal_few g h =
      let r = among_map (signal_of s.params) (signals_in s.module') g h in
      let as' = signals_as s.module' r.0 r.1 in
      subst (λ (z : Signal). z.depth ≤ 64) r.2 (words_few as'.from as'.among r.0.words as'.words)

pub are_shallow : (ms : List Module) (top : Name) (ss : List Scope) → AreChecked ms top ss → AreShallow ss
are_shallow ms top ss checked s g a h = signal_few ms (prefix_name top s.prefix) s (checked s a).lengths g h
