-- Words of memories as signals, at rest, and kept.
use Rattle.std.proofs.Common.{◌≡◌, ℕ, zero, suc, ◌+◌, ◌-◌, ◌<◌, ◌≤◌, Bool, true, false, nat_eq, not, List, [], ◌∷◌, ◌++◌, map, length, drop, get_or, add-one, append-nil, append_assoc, refl, sym, ap, subst, ◌∙◌, arith, ◌⊎◌, inl, inr, if◌then◌else◌}
use Rattle.std.proofs.lemmas.Bool.Decides.{nat_tests}
use Rattle.std.specs.List.{flat_map}
use Rattle.std.proofs.lemmas.List.{map-append}
use Rattle.vlog_tree.specs.Valuation.{IsLength}
use Rattle.vlog_tree_runs.specs.declared.flat.Always.{Always}
use Rattle.vlog_tree_runs.specs.declared.flat.Flat.{Flat}
use Rattle.vlog_tree_runs.specs.declared.flat.Signal.{Signal}
use Rattle.vlog_tree_runs.specs.Places.{Name, Among, entry_of, entries_of, words_from, holders}
use Rattle.vlog_tree_runs.specs.Contents.{is_among}
use Rattle.vlog_tree_runs.specs.Cycles.{flat_place}
use Rattle.elab_flat_faults.specs.Constants.{at_rest}
use Rattle.elab_flat_faults.specs.Declaring.{words_of}
use Rattle.mem_laws.specs.Spread.{keeper}
use Rattle.mem_faults.specs.Held.{word_signal, resting_word, resting, idle_of}
use Rattle.mem_faults.proofs.Growing.{cut}

-- ---- words

word_left : (g : Signal) (i d : ℕ) → i < d → (n : ℕ) → n ≡ d - i → (m : ℕ) → m ≡ d - (i + 1) → words_from g i n ≡ word_signal g i ∷ words_from g (i + 1) m
word_left g i d lt zero e m f = absurd (omega (arith, e, lt))
word_left g i d lt (suc n) e m f =
    let same : n ≡ m = omega (arith, e, f) in
    ap (λ k. word_signal g i ∷ words_from g k n) (sym (add-one i)) ∙ ap (λ k. word_signal g i ∷ words_from g (i + 1) k) same

-- one word more
pub word_added : (g : Signal) (i : ℕ) → i < g.depth → (old new whole : List Signal) (x : Signal) → x ≡ word_signal g i → new ≡ old ++ x ∷ [] →
    old ++ words_from g i (g.depth - i) ≡ whole → new ++ words_from g (i + 1) (g.depth - (i + 1)) ≡ whole
word_added g i lt old new whole x is put inv =
    let later = words_from g (i + 1) (g.depth - (i + 1)) in
    ap (λ z. z ++ later) put ∙ (append_assoc old (x ∷ []) later ∙ (ap (λ z. old ++ z ∷ later) is ∙ (ap (λ z. old ++ z) (sym (word_left g i g.depth lt (g.depth - i) refl (g.depth - (i + 1)) refl)) ∙ inv)))

-- none is left
pub words_done : (g : Signal) (i : ℕ) → g.depth ≤ i → (all whole : List Signal) → all ++ words_from g i (g.depth - i) ≡ whole → all ≡ whole
words_done g i le all whole inv =
    let none : g.depth - i ≡ 0 = omega (arith, le) in
    sym (append-nil all) ∙ subst (λ n. all ++ words_from g i n ≡ whole) none inv

pub plain_holder : (g : Signal) (r : List Signal) → nat_eq g.depth 0 ≡ true → r ≡ g ∷ [] → r ≡ holders g
plain_holder g r h e = e ∙ sym (ap (λ (t : Bool). if t then g ∷ [] else words_from g 0 g.depth) h)

-- ---- at rest

words_wide : (g : Signal) (j n : ℕ) (w : Signal) → IsLength g.width → Among (words_from g j n) w → IsLength w.width
words_wide g j zero w h m = absurd m
words_wide g j (suc n) w h (inl e) = subst (λ (z : Signal). IsLength z.width) e h
words_wide g j (suc n) w h (inr m) = words_wide g (suc j) n w h m

pub wide_words : (g : Signal) (ws : List Signal) → ws ≡ words_from g 0 g.depth → IsLength g.width → (w : Signal) → Among ws w → IsLength w.width
wide_words g ws e h w m = words_wide g 0 g.depth w h (subst (λ z. Among z w) e m)

held : (n : ℕ) (g : Signal) → (if nat_eq n 0 then entry_of g 0 ∷ [] else entry_of g 0 ∷ map resting_word (words_from g 0 n)) ≡ entry_of g 0 ∷ map resting_word (words_from g 0 n)
held zero g = refl
held (suc n) g = let z : nat_eq (suc n) 0 ≡ false = grind (arith, nat_tests) in rw z refl

entries_are : (g : Signal) → entries_of [] (λ x. 0) g ≡ resting g
entries_are g = held g.depth g

pub at_rest_is : (f : Flat) → flat_map resting f.signals ≡ at_rest (flat_place f)
at_rest_is f = ap (λ h. flat_map h f.signals) (λ i g. sym (entries_are g) i)

-- an element of a list
pub among_at : {X : Type 0} (xs : List X) (i : ℕ) (x d : X) → i < length xs → x ≡ get_or xs i d → Among xs x
among_at [] i x d lt e = absurd (omega arith)
among_at (y ∷ ys) zero x d lt e = inl (sym e)
among_at (y ∷ ys) (suc i) x d lt e = inr (among_at ys i x d (omega arith) e)

-- ---- words that no block assigns

idle_one : (ns : List Name) (x : Name) (rest : List Name) (t : Bool) → is_among ns x ≡ t → idle_of ns (x ∷ rest) ≡ (if not t then x ∷ idle_of ns rest else idle_of ns rest)
idle_one ns x rest t h = ap (λ (b : Bool). if not b then x ∷ idle_of ns rest else idle_of ns rest) h

idle_join : (ns : List Name) (x : Name) (xs ys : List Name) (t : Bool) → is_among ns x ≡ t → idle_of ns (xs ++ ys) ≡ idle_of ns xs ++ idle_of ns ys →
    idle_of ns (x ∷ xs ++ ys) ≡ idle_of ns (x ∷ xs) ++ idle_of ns ys
idle_join ns x xs ys true h e = idle_one ns x (xs ++ ys) true h ∙ (e ∙ ap (λ z. z ++ idle_of ns ys) (sym (idle_one ns x xs true h)))
idle_join ns x xs ys false h e = idle_one ns x (xs ++ ys) false h ∙ (ap (λ z. x ∷ z) e ∙ ap (λ z. z ++ idle_of ns ys) (sym (idle_one ns x xs false h)))

idle_append : (ns xs ys : List Name) → idle_of ns (xs ++ ys) ≡ idle_of ns xs ++ idle_of ns ys
idle_append ns [] ys = refl
idle_append ns (x ∷ xs) ys = idle_join ns x xs ys (is_among ns x) refl (idle_append ns xs ys)

pub keepers_more : (ns : List Name) (g : Signal) (gs : List Signal) →
    map keeper (idle_of ns (flat_map words_of (g ∷ gs))) ≡ map keeper (idle_of ns (words_of g)) ++ map keeper (idle_of ns (flat_map words_of gs))
keepers_more ns g gs =
    ap (map keeper) (idle_append ns (words_of g) (flat_map words_of gs)) ∙ map-append keeper (idle_of ns (words_of g)) (idle_of ns (flat_map words_of gs))

module _ (ns : List Name) (ws : List Signal) (i : ℕ) (w : Signal) (lt : i < length ws) (is : w ≡ get_or ws i w) where
  abbrev later : List Name
  later = map (λ (z : Signal). z.name) (drop (i + 1) ws)

  here : idle_of ns (map (λ (z : Signal). z.name) (drop i ws)) ≡ idle_of ns (w.name ∷ later)
  here = ap (λ xs. idle_of ns (map (λ (z : Signal). z.name) xs)) (cut ws i w lt is)

  pub kept : is_among ns w.name ≡ false → (k : Always) (old new whole : List Always) → k ≡ keeper w.name → new ≡ old ++ k ∷ [] →
      old ++ map keeper (idle_of ns (map (λ (z : Signal). z.name) (drop i ws))) ≡ whole → new ++ map keeper (idle_of ns later) ≡ whole
  kept out k old new whole e put h =
      ap (λ z. z ++ map keeper (idle_of ns later)) put ∙ (append_assoc old (k ∷ []) (map keeper (idle_of ns later))
      ∙ (ap (λ z. old ++ z ∷ map keeper (idle_of ns later)) e ∙ (ap (λ z. old ++ map keeper z) (sym (here ∙ idle_one ns w.name later false out)) ∙ h)))

  pub passed : is_among ns w.name ≡ true → (old whole : List Always) → old ++ map keeper (idle_of ns (map (λ (z : Signal). z.name) (drop i ws))) ≡ whole → old ++ map keeper (idle_of ns later) ≡ whole
  passed has old whole h = ap (λ z. old ++ map keeper z) (sym (here ∙ idle_one ns w.name later true has)) ∙ h
