-- The first and the last place at which a test holds, one token on.
use Rattle.std.proofs.Common.{◌≡◌, ℕ, ◌+◌, ◌-◌, ◌<◌, ◌≤◌, Bool, true, false, List, [], ◌∷◌, length, take, drop, Option, Some, None, refl, sym, ap, ◌∙◌, arith, if◌then◌else◌}
use Rattle.std.specs.Option.{option_or, option_map}
use Rattle.std.proofs.lemmas.List.{length-drop, drop-drop, drop_all, take_rest}
use Rattle.vlog_tree.specs.declared.token.Token.{Token}
use Rattle.signoff_places.specs.Tokens.{first_where, last_where}

first_here : (holds : List Token → Bool) (here : List Token) → 0 < length here → holds here ≡ true → first_where holds here ≡ Some here
first_here holds [] some h = absurd (omega arith)
first_here holds (t ∷ ts) some h = rw h refl

first_next : (holds : List Token → Bool) (here : List Token) → holds here ≡ false → first_where holds here ≡ first_where holds (drop 1 here)
first_next holds [] h = refl
first_next holds (t ∷ ts) h = rw h refl

last_next : (f : List Token → List Token) (holds : List Token → Bool) (here : List Token) (old : Option (List Token)) → 0 < length here →
    option_or (option_map f (last_where holds here)) old ≡ option_or (option_map f (last_where holds (drop 1 here))) (if holds here then Some (f here) else old)
last_next f holds [] old some = absurd (omega arith)
last_next f holds (t ∷ ts) old some = joined (last_where holds ts) (holds (t ∷ ts))
  where
    joined : (later : Option (List Token)) (b : Bool) →
        option_or (option_map f (option_or later (if b then Some (t ∷ ts) else None))) old ≡ option_or (option_map f later) (if b then Some (f (t ∷ ts)) else old)
    joined (Some y) b = refl
    joined None true = refl
    joined None false = refl

-- what stands from a place on, as a slice gives it
abbrev pub rest : List Token → ℕ → List Token
rest ts at = take (length ts - at) (drop at ts)

some_left : (ts : List Token) (at : ℕ) → at < length ts → 0 < length (drop at ts)
some_left ts at lt = let left : length (drop at ts) ≡ length ts - at = length-drop at ts in omega arith

module _ (holds : List Token → Bool) (ts : List Token) (at : ℕ) where
  at_rest : (b : Bool) → holds (rest ts at) ≡ b → holds (drop at ts) ≡ b
  at_rest b h = ap holds (sym (take_rest ts at)) ∙ h

  module _ (whole : Option (List Token)) (so_far : first_where holds (drop at ts) ≡ whole) where
    pub first_found : at < length ts → holds (rest ts at) ≡ true → Some (rest ts at) ≡ whole
    first_found lt h = ap Some (take_rest ts at) ∙ (sym (first_here holds (drop at ts) (some_left ts at lt) (at_rest true h)) ∙ so_far)

    pub first_later : holds (rest ts at) ≡ false → first_where holds (drop (at + 1) ts) ≡ whole
    first_later h = ap (first_where holds) (sym (drop-drop 1 at ts)) ∙ (sym (first_next holds (drop at ts) (at_rest false h)) ∙ so_far)

    pub first_none : length ts ≤ at → None ≡ whole
    first_none le = sym (ap (first_where holds) (drop_all at ts le)) ∙ so_far

  module _ (f : List Token → List Token) (old whole : Option (List Token)) (so_far : option_or (option_map f (last_where holds (drop at ts))) old ≡ whole) where
    last_on : at < length ts → (b : Bool) → holds (drop at ts) ≡ b → option_or (option_map f (last_where holds (drop (at + 1) ts))) (if b then Some (f (drop at ts)) else old) ≡ whole
    last_on lt b h =
        ap (λ here. option_or (option_map f (last_where holds here)) (if b then Some (f (drop at ts)) else old)) (sym (drop-drop 1 at ts))
        ∙ (ap (λ b. option_or (option_map f (last_where holds (drop 1 (drop at ts)))) (if b then Some (f (drop at ts)) else old)) (sym h)
        ∙ (sym (last_next f holds (drop at ts) old (some_left ts at lt)) ∙ so_far))

    pub last_found : at < length ts → holds (rest ts at) ≡ true → option_or (option_map f (last_where holds (drop (at + 1) ts))) (Some (f (rest ts at))) ≡ whole
    last_found lt h =
        ap (λ here. option_or (option_map f (last_where holds (drop (at + 1) ts))) (Some (f here))) (take_rest ts at) ∙ last_on lt true (at_rest true h)

    pub last_later : at < length ts → holds (rest ts at) ≡ false → option_or (option_map f (last_where holds (drop (at + 1) ts))) old ≡ whole
    last_later lt h = last_on lt false (at_rest false h)
