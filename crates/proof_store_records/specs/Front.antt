use Rattle.std.specs.Prelude.{◌≡◌, ℕ, List, ◌++◌}

-- no code of a value that fits stands in front
abbrev pub Lacks : {X : Type 0} → (X → Type 0) → (X → List ℕ) → List ℕ → Type 0
Lacks {X} Fits code bytes = (x : X) (rest : List ℕ) → Fits x → bytes ≡ code x ++ rest → ⊥

-- the code of this value stands in front, these bytes follow it, and no other value that fits stands there
pub record Starts {X : Type 0} (Fits : X → Type 0) (code : X → List ℕ) (bytes : List ℕ) (value : X) (rest : List ℕ) : Type 0 where
  pub fits : Fits value
  pub is : bytes ≡ code value ++ rest
  pub only : (x : X) (r : List ℕ) → Fits x → bytes ≡ code x ++ r → (x ≡ value) × (r ≡ rest)
