-- Signals that are 0.
use Rattle.std.proofs.Common.{◌≡◌, ℕ, zero, suc, ◌+◌, ◌-◌, ◌<◌, ◌≤◌, false, List, [], ◌∷◌, ◌++◌, map, length, drop, get_or, drop_of_length-le, add-one, refl, sym, ap, subst, ◌∙◌, arith, append_assoc, append-nil, codes, if◌then◌else◌}
use Rattle.std.specs.Prelude.{nat_eq, decimal}
use Rattle.std.proofs.lemmas.Bool.Decides.{nat_tests}
use Rattle.std.specs.List.{flat_map}
use Rattle.vlog_tree.specs.declared.valuation.Entry.{Entry}
use Rattle.vlog_tree.specs.Valuation.{EntryFits, AllFit}
use Rattle.vlog_tree_runs.specs.declared.flat.Signal.{Signal}
use Rattle.vlog_tree_runs.specs.Places.{Name, entry_of, entries_of, words_from}
use Rattle.vlog_tree_runs.specs.Contents.{signals_in}
use Rattle.vlog_tree_runs.specs.Scopes.{Scope, signal_of, place_of}
use Rattle.elab_flat_faults.specs.Constants.{at_rest}
use Rattle.elab_flat_scopes.specs.declared.decl.Decl.{Decl as View}
use Rattle.elab_flat_scopes.specs.Borrowed.{decl_meant}
use Rattle.elab_flat_widths.specs.Ranges.{resting, resting_word}

-- ---- words

word_left : (g : Signal) (i d : ℕ) → i < d → (n : ℕ) → n ≡ d - i → (m : ℕ) → m ≡ d - (i + 1) →
    map resting_word (words_from g i n) ≡ record { name = g.name ++ codes "$" ++ decimal i; offset = 0; width = g.width; low = 0; signed = false; depth = 0; value = 0 } ∷ map resting_word (words_from g (i + 1) m)
word_left g i d lt zero e m f = absurd (omega (arith, e, lt))
word_left g i d lt (suc n) e m f =
    let same : n ≡ m = omega (arith, e, f) in
    ap (λ k. record { name = g.name ++ codes "$" ++ decimal i; offset = 0; width = g.width; low = 0; signed = false; depth = 0; value = 0 } ∷ map resting_word (words_from g k n)) (sym (add-one i))
    ∙ ap (λ k. record { name = g.name ++ codes "$" ++ decimal i; offset = 0; width = g.width; low = 0; signed = false; depth = 0; value = 0 } ∷ map resting_word (words_from g (i + 1) k)) same

-- one word more
pub word_added : (g : Signal) (i : ℕ) → i < g.depth → (old new whole : List Entry) (x : Entry) → x ≡ record { name = g.name ++ codes "$" ++ decimal i; offset = 0; width = g.width; low = 0; signed = false; depth = 0; value = 0 } →
    new ≡ old ++ x ∷ [] → old ++ map resting_word (words_from g i (g.depth - i)) ≡ whole → new ++ map resting_word (words_from g (i + 1) (g.depth - (i + 1))) ≡ whole
word_added g i lt old new whole x is put inv =
    let later = map resting_word (words_from g (i + 1) (g.depth - (i + 1))) in
    ap (λ z. z ++ later) put ∙ (append_assoc old (x ∷ []) later ∙ (ap (λ z. old ++ z ∷ later) is ∙ (ap (λ z. old ++ z) (sym (word_left g i g.depth lt (g.depth - i) refl (g.depth - (i + 1)) refl)) ∙ inv)))

-- none is left
pub words_done : (g : Signal) (i : ℕ) → g.depth ≤ i → (all whole : List Entry) → all ++ map resting_word (words_from g i (g.depth - i)) ≡ whole → all ≡ whole
words_done g i le all whole inv =
    let none : g.depth - i ≡ 0 = omega (arith, le) in
    sym (append-nil all) ∙ subst (λ n. all ++ map resting_word (words_from g i n) ≡ whole) none inv

-- ---- signals

held : (n : ℕ) (g : Signal) → (if nat_eq n 0 then entry_of g 0 ∷ [] else entry_of g 0 ∷ map resting_word (words_from g 0 n)) ≡ entry_of g 0 ∷ map resting_word (words_from g 0 n)
held zero g = refl
held (suc n) g = let z : nat_eq (suc n) 0 ≡ false = grind (arith, nat_tests) in rw z refl

entries_are : (pre : Name) (g : Signal) → entries_of pre (λ x. 0) g ≡ resting g
entries_are pre g = held g.depth g

pub at_rest_is : (s : Scope) → s.params ++ flat_map resting (map (signal_of s.params) (signals_in s.module')) ≡ at_rest (place_of s)
at_rest_is s = ap (λ f. s.params ++ flat_map f (map (signal_of s.params) (signals_in s.module'))) (λ i g. sym (entries_are s.prefix g) i)

module _ (v : List Entry) (ds : List View) (i : ℕ) where
  pub signals_done : length ds ≤ i → (all whole : List Entry) → all ++ flat_map resting (map (signal_of v) (map decl_meant (drop i ds))) ≡ whole → all ≡ whole
  signals_done le all whole inv =
      sym (append-nil all) ∙ subst (λ z. all ++ flat_map resting (map (signal_of v) (map decl_meant z)) ≡ whole) (drop_of_length-le ds {i = i} le) inv

-- ---- copies

pub fits_at : (es : List Entry) (i : ℕ) (e : Entry) → i < length es → e ≡ get_or es i e → AllFit es → EntryFits e
fits_at [] i e lt is all = absurd (omega (arith, lt))
fits_at (x ∷ es) zero e lt is all = subst EntryFits (sym is) all.0
fits_at (x ∷ es) (suc i) e lt is all = let near : i < length es = omega (arith, lt) in fits_at es i e near is all.1
