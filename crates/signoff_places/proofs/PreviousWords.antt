-- The first place at which a test holds of it and of the word before it, one token on.
use Rattle.std.proofs.Common.{◌≡◌, ℕ, ◌+◌, ◌-◌, ◌<◌, ◌≤◌, Bool, true, false, List, [], ◌∷◌, length, drop, Option, Some, None, refl, sym, ap, ◌∙◌, arith}
use Rattle.std.proofs.lemmas.List.{length-drop, drop-drop, drop_all, take_rest}
use Rattle.vlog_tree.specs.declared.token.Token.{Token}
use Rattle.signoff_places.specs.Tokens.{word_at}
use Rattle.signoff_places.specs.Modules.{first_behind}
use Rattle.signoff_places.proofs.Firsts.{rest}

behind_here : (holds : List ℕ → List Token → Bool) (before : List ℕ) (here : List Token) → 0 < length here → holds before here ≡ true → first_behind holds before here ≡ Some here
behind_here holds before [] some h = absurd (omega arith)
behind_here holds before (t ∷ ts) some h = rw h refl

behind_next : (holds : List ℕ → List Token → Bool) (before : List ℕ) (here : List Token) → holds before here ≡ false →
    first_behind holds before here ≡ first_behind holds (word_at here 0) (drop 1 here)
behind_next holds before [] h = refl
behind_next holds before (t ∷ ts) h = rw h refl

module _ (holds : List ℕ → List Token → Bool) (ts : List Token) (at : ℕ) (before : List ℕ) (whole : Option (List Token)) (so_far : first_behind holds before (drop at ts) ≡ whole) where
  pub behind_found : at < length ts → holds before (rest ts at) ≡ true → Some (rest ts at) ≡ whole
  behind_found lt h =
      let left : length (drop at ts) ≡ length ts - at = length-drop at ts in
      ap Some (take_rest ts at) ∙ (sym (behind_here holds before (drop at ts) (omega arith) (ap (holds before) (sym (take_rest ts at)) ∙ h)) ∙ so_far)

  pub behind_later : (word : List ℕ) → word ≡ word_at (rest ts at) 0 → holds before (rest ts at) ≡ false → first_behind holds word (drop (at + 1) ts) ≡ whole
  behind_later word is h =
      ap (λ w. first_behind holds w (drop (at + 1) ts)) (is ∙ ap (λ here. word_at here 0) (take_rest ts at))
      ∙ (ap (first_behind holds (word_at (drop at ts) 0)) (sym (drop-drop 1 at ts))
      ∙ (sym (behind_next holds before (drop at ts) (ap (holds before) (sym (take_rest ts at)) ∙ h)) ∙ so_far))

  pub behind_none : length ts ≤ at → None ≡ whole
  behind_none le = sym (ap (first_behind holds before) (drop_all at ts le)) ∙ so_far
