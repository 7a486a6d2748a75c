-- What an operator may take as its left part, and lists that go no further.
use Rattle.std.specs.Prelude.{ℕ, ◌+◌, [], ◌∷◌, ◌<◌, ◌≤◌, ◌≡◌, List, Some, Bool, codes}
use Rattle.vlog_tree.specs.declared.token.Token.{Token}
use Rattle.vlog_tree.specs.declared.expr.Infix.{Infix}
use Rattle.vlog_tree.specs.declared.expr.Expr.{Expr}
use Rattle.vlog_tree.specs.Signs.{IsSign, infix_at, infix_level}
use Rattle.vlog_tree.specs.Spelling.{level}

-- an operator may take a tree as its left part
pub record Takes (op : Infix) (tree : Expr) : Type 0 where
  pub binds : infix_level op ≤ level tree
  pub strict : infix_level op ≡ 1 → 1 < level tree

-- whatever operator stands at j may take a tree
abbrev pub Loose : Bool → List Token → Expr → ℕ → Type 0
Loose set ts tree j = (op : Infix) → infix_at set ts j ≡ Some op → Takes op tree

-- a list that no separator follows: its parts by P, separators by sep
abbrev pub ReadsMore : {A : Type 0} → (ℕ → Type 0) → (ℕ → A → ℕ → Type 0) → ℕ → List A → ℕ → Type 0
ReadsMore sep P i [] j = (i ≡ j) × (sep i → ⊥)
ReadsMore sep P i (x ∷ xs) j = (m : ℕ) × sep i × P (i + 1) x m × ReadsMore sep P m xs j

abbrev pub ReadsList : {A : Type 0} → (ℕ → Type 0) → (ℕ → A → ℕ → Type 0) → ℕ → List A → ℕ → Type 0
ReadsList sep P i [] j = ⊥
ReadsList sep P i (x ∷ xs) j = (m : ℕ) × P i x m × ReadsMore sep P m xs j

-- no dot and no `@` stands at a place
pub record NoPath (ts : List Token) (j : ℕ) : Type 0 where
  pub no_dot : IsSign ts j (codes ".") → ⊥
  pub no_at : IsSign ts j (codes "@") → ⊥
