use Rattle.std.specs.Prelude.{◌≡◌, ℕ, ◌+◌, Bool, not, nat_eq, List, take}
use Rattle.std.specs.List.{list_all}
use Rattle.vlog_tree.specs.declared.expr.Expr.{Expr}

-- a row: the value of each declared name in one cycle
abbrev pub Row : Type 0
Row = List ℕ

-- what formulas mean: their value over the rows from the present one on, and the largest offset that they read
pub record Meaning : Type 0 where
  pub value : Expr → List Row → ℕ
  pub largest : Expr → ℕ

-- no row after the largest offset is read: equal rows up to there give equal values
abbrev pub ReadsWithin : Meaning → Type 0
ReadsWithin m = (e : Expr) (xs ys : List Row) → take (m.largest e + 1) xs ≡ take (m.largest e + 1) ys → m.value e xs ≡ m.value e ys

-- the formula holds in the first row: its value isn't 0
abbrev pub holds : Meaning → Expr → List Row → Bool
holds m e rows = not (nat_eq (m.value e rows) 0)

-- each of the formulas does
abbrev pub all_hold : Meaning → List Expr → List Row → Bool
all_hold m es rows = list_all (λ e. holds m e rows) es
