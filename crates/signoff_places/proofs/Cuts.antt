-- What stands before the first token that passes a test, one token on.
use Rattle.std.proofs.Common.{◌≡◌, ℕ, ◌+◌, ◌<◌, ◌≤◌, Bool, true, not, List, length, take, drop, get_or, sym, ap, ◌∙◌, arith}
use Rattle.std.specs.List.{position_or_len, before_first}
use Rattle.std.proofs.lemmas.List.Sums.{prefix_len-drop_no}
use Rattle.vlog_tree.specs.declared.token.Token.{Token}

module _ (p : Token → Bool) (ts : List Token) (at : ℕ) (so_far : at + position_or_len p (drop at ts) ≡ position_or_len p ts) where
  -- the cut is here
  pub cut_here : (t : Token) → at < length ts → t ≡ get_or ts at t → p t ≡ true → take at ts ≡ before_first p ts
  cut_here t lt is h =
      let none : position_or_len p (drop at ts) ≡ 0 = prefix_len-drop_no (λ x. not (p x)) ts at t lt (ap (λ x. not (p x)) (sym is) ∙ ap not h) in
      let place : at ≡ position_or_len p ts = omega arith in
      ap (λ n. take n ts) place
