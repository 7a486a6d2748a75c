-- Identifier codes, digit by digit.
use Rattle.std.proofs.Common.{◌≡◌, ℕ, zero, suc, ◌+◌, ◌/◌, ◌%◌, ◌<◌, ◌≤◌, List, [], ◌∷◌, ◌++◌, refl, sym, ap, ◌∙◌, inl, inr, append_assoc, arith}
use Rattle.std.proofs.lemmas.Bool.{cases_lt, lt-ltb, le-ltb}
use Rattle.replay_waves.specs.Parts.{code, digits94}

-- enough digits are the same as more
enough : (j k n : ℕ) → n < j → n < k → digits94 j n ≡ digits94 k n
enough zero k n less more = absurd (omega arith)
enough (suc j) zero n less more = absurd (omega arith)
enough (suc j) (suc k) n less more = elim (cases_lt n 94) [
  | inl small ↦ rw (lt-ltb n 94 small) refl
  | inr large ↦ rw (le-ltb n 94 large) (ap (λ (ds : List ℕ). (33 + n % 94) ∷ ds) (enough j k (n / 94) (omega arith) (omega arith)))
]

code_small : (n : ℕ) → n < 94 → code n ≡ (33 + n) ∷ []
unfolding code
code_small n small = rw (lt-ltb n 94 small) refl

code_large : (n : ℕ) → 94 ≤ n → code n ≡ (33 + n % 94) ∷ code (n / 94)
unfolding code
code_large n large = rw (le-ltb n 94 large) (ap (λ (ds : List ℕ). (33 + n % 94) ∷ ds) (enough n (suc (n / 94)) (n / 94) (omega arith) (omega arith)))

-- a digit that isn't the last one, behind those so far
pub digit_more : (old out new : List ℕ) (n : ℕ) → 94 ≤ n → out ++ code n ≡ old → new ≡ out ++ (33 + n % 94) ∷ [] → new ++ code (n / 94) ≡ old
digit_more old out new n large was now =
    ap (λ (zs : List ℕ). zs ++ code (n / 94)) now
    ∙ (append_assoc out ((33 + n % 94) ∷ []) (code (n / 94)) ∙ (ap (λ (zs : List ℕ). out ++ zs) (sym (code_large n large)) ∙ was))

pub digit_last : (old out new : List ℕ) (n : ℕ) → n < 94 → out ++ code n ≡ old → new ≡ out ++ (33 + n) ∷ [] → new ≡ old
digit_last old out new n small was now = now ∙ (ap (λ (zs : List ℕ). out ++ zs) (sym (code_small n small)) ∙ was)
