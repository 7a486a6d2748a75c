-- What the first place gives that gives something, one token on.
use Rattle.std.proofs.Common.{◌≡◌, ℕ, ◌+◌, ◌-◌, ◌<◌, ◌≤◌, true, false, List, [], ◌∷◌, length, drop, Bor, Option, Some, None, is_some, refl, sym, ap, ◌∙◌, arith}
use Rattle.std.specs.Option.{option_copied}
use Rattle.std.proofs.lemmas.List.{length-drop, drop-drop, drop_all, take_rest}
use Rattle.vlog_tree.specs.declared.token.Token.{Token}
use Rattle.signoff_places.specs.Sets.{first_given}
use Rattle.signoff_places.proofs.Firsts.{rest}

given_here : (given : List Token → Option (List Token)) (here : List Token) (r : Option (Bor (List Token))) → 0 < length here → option_copied r ≡ given here → is_some r ≡ true → option_copied r ≡ first_given given here
given_here given [] r some is h = absurd (omega arith)
given_here given (t ∷ ts) None some is h = cc
given_here given (t ∷ ts) (Some x) some is h = rw (← is) refl

given_next : (given : List Token → Option (List Token)) (here : List Token) (r : Option (Bor (List Token))) → option_copied r ≡ given here → is_some r ≡ false → first_given given here ≡ first_given given (drop 1 here)
given_next given [] r is h = refl
given_next given (t ∷ ts) None is h = rw (← is) refl
given_next given (t ∷ ts) (Some x) is h = cc

module _ (given : List Token → Option (List Token)) (ts : List Token) (at : ℕ) (whole : Option (List Token)) (so_far : first_given given (drop at ts) ≡ whole) (r : Option (Bor (List Token))) where
  pub given_found : at < length ts → option_copied r ≡ given (rest ts at) → is_some r ≡ true → option_copied r ≡ whole
  given_found lt is h =
      let left : length (drop at ts) ≡ length ts - at = length-drop at ts in
      given_here given (drop at ts) r (omega arith) (is ∙ ap given (take_rest ts at)) h ∙ so_far

  pub given_later : option_copied r ≡ given (rest ts at) → is_some r ≡ false → first_given given (drop (at + 1) ts) ≡ whole
  given_later is h = ap (first_given given) (sym (drop-drop 1 at ts)) ∙ (sym (given_next given (drop at ts) r (is ∙ ap given (take_rest ts at)) h) ∙ so_far)

pub given_none : (given : List Token → Option (List Token)) (ts : List Token) (at : ℕ) (whole : Option (List Token)) → first_given given (drop at ts) ≡ whole → length ts ≤ at → None ≡ whole
given_none given ts at whole so_far le = sym (ap (first_given given) (drop_all at ts le)) ∙ so_far
