-- Lists and options between places: P i x j says that the tokens from place i up to place j spell x.
use Rattle.std.specs.Prelude.{ℕ, ◌+◌, ◌≡◌, max, List, [], ◌∷◌, Option, Some, None, Bool, true, false, codes}
use Rattle.vlog_tree.specs.declared.token.Token.{Token}
use Rattle.vlog_tree.specs.Signs.{IsSign, IsWord}

-- what may stand
abbrev pub Maybe : {A : Type 0} → (ℕ → A → ℕ → Type 0) → ℕ → Option A → ℕ → Type 0
Maybe P i None j = i ≡ j
Maybe P i (Some x) j = P i x j

-- a word that may stand
abbrev pub Flag : List Token → List ℕ → ℕ → Bool → ℕ → Type 0
Flag ts word i true j = IsWord ts i word × (j ≡ i + 1)
Flag ts word i false j = i ≡ j

-- one after another
abbrev pub Sequence : {A : Type 0} → (ℕ → A → ℕ → Type 0) → ℕ → List A → ℕ → Type 0
Sequence P i [] j = i ≡ j
Sequence P i (x ∷ xs) j = (m : ℕ) × P i x m × Sequence P m xs j

-- each with a separator in front
abbrev pub More : {A : Type 0} → (ℕ → Type 0) → (ℕ → A → ℕ → Type 0) → ℕ → List A → ℕ → Type 0
More sep P i [] j = i ≡ j
More sep P i (x ∷ xs) j = (m : ℕ) × sep i × P (i + 1) x m × More sep P m xs j

-- one or more, with separators between
abbrev pub Separated : {A : Type 0} → (ℕ → Type 0) → (ℕ → A → ℕ → Type 0) → ℕ → List A → ℕ → Type 0
Separated sep P i [] j = ⊥
Separated sep P i (x ∷ xs) j = (m : ℕ) × P i x m × More sep P m xs j

abbrev pub Comma : List Token → ℕ → Type 0
Comma ts i = IsSign ts i (codes ",")

abbrev pub InParens : {A : Type 0} → List Token → (ℕ → A → ℕ → Type 0) → ℕ → A → ℕ → Type 0
InParens ts P i x j = (m : ℕ) × IsSign ts i (codes "(") × P (i + 1) x m × IsSign ts m (codes ")") × (j ≡ m + 1)

-- `#` and a list in parentheses
abbrev pub AfterHash : {A : Type 0} → List Token → (ℕ → A → ℕ → Type 0) → ℕ → A → ℕ → Type 0
AfterHash ts P i x j = IsSign ts i (codes "#") × InParens ts P (i + 1) x j

-- a list with commas up to a semicolon
abbrev pub UpToEnd : {A : Type 0} → List Token → (ℕ → A → ℕ → Type 0) → ℕ → List A → ℕ → Type 0
UpToEnd ts P i xs j = (m : ℕ) × Separated (Comma ts) P i xs m × IsSign ts m (codes ";") × (j ≡ m + 1)

-- the greatest height in a list, and 0 where there is none
abbrev pub highest : {A : Type 0} → (A → ℕ) → List A → ℕ
highest h [] = 0
highest h (x ∷ xs) = max (h x) (highest h xs)

abbrev pub highest_of : {A : Type 0} → (A → ℕ) → Option A → ℕ
highest_of h None = 0
highest_of h (Some x) = h x
