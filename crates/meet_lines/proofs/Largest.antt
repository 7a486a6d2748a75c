-- The largest window of the first operations.
use Rattle.std.proofs.Common.{◌≡◌, ℕ, ◌+◌, ◌<◌, ◌≤◌, List, [], ◌∷◌, ◌++◌, length, take, get_or, refl, sym, ap, ◌∙◌, arith}
use Rattle.std.specs.Prelude.{max}
use Rattle.std.proofs.lemmas.List.{take_all, take_more}
use Rattle.set_tree.specs.declared.set.Property.{Property}
use Rattle.set_tree.specs.declared.set.Set.{Set}
use Rattle.set_tree.specs.Parts.{largest_of, largest_window}
use Rattle.twin_tests.specs.Reading.{HasStructure}
use Rattle.twin_tests.proofs.Framed.{IsLargest, largest_step}

-- one property more
largest_push : (ps : List Property) (p : Property) (w : ℕ) → largest_of (ps ++ p ∷ []) w ≡ max (largest_of ps w) p.window
largest_push [] p w = omega arith
largest_push (q ∷ ps) p w = let rest = largest_push ps p w in omega (arith, rest)

-- the largest window so far
pub record IsLargestOf (set : Set) (items : List Property) (i largest : ℕ) : Type 0 where
  pub bound : IsLargest set items i largest
  pub exact : largest ≡ largest_of (take i items) set.first.window

pub exact_step : (set : Set) (items : List Property) (i old new : ℕ) (x : Property) → HasStructure set → items ≡ set.operations → x ≡ get_or items i x → i < length items → new ≡ max old x.window → IsLargestOf set items i old → IsLargestOf set items (i + 1) new
exact_step set items i old new x s listed is lt most before = record {
  bound = largest_step set items i old new x s listed is lt most before.bound;
  exact =
      let more : take (i + 1) items ≡ take i items ++ x ∷ [] = take_more items i x lt ∙ ap (λ z. take i items ++ z ∷ []) (sym is) in
      most ∙ (ap (λ n. max n x.window) before.exact ∙ sym (ap (λ (ps : List Property). largest_of ps set.first.window) more ∙ largest_push (take i items) x set.first.window));
}

pub exact_start : (set : Set) (items : List Property) → HasStructure set → IsLargestOf set items 0 set.first.window
exact_start set items s = record {
  bound = (s.formed.bounds.windows 0 (omega arith), omega arith, λ j d lt. absurd (omega (arith, lt)));
  exact = refl;
}

pub exact_end : (set : Set) (items : List Property) (i largest : ℕ) → items ≡ set.operations → length items ≤ i → IsLargestOf set items i largest → largest ≡ largest_window set
exact_end set items i largest listed past loop =
    loop.exact ∙ (ap (λ (ps : List Property). largest_of ps set.first.window) (take_all i items past) ∙ ap (λ (ps : List Property). largest_of ps set.first.window) listed)
