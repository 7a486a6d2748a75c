-- Where a trace doesn't meet the constraints.
use Rattle.std.specs.Prelude.{◌≡◌, ◌<◌, ◌+◌, ◌&&◌, ℕ, Bool, false, nat_lt, not, List, length, drop, Option, Some, None}
use Rattle.std.specs.List.{Contains}
use Rattle.vlog_tree.specs.declared.expr.Expr.{Expr}
use Rattle.set_tree.specs.declared.set.Rule.{Rule}
use Rattle.set_tree.specs.declared.set.Set.{Set}
use Rattle.set_tree.specs.Meaning.{Meaning, Row, holds}

-- a constraint whose largest offset still fits at t fails there
pub record FailsAt (m : Meaning) (set : Set) (rows : List Row) (t : ℕ) : Type 0 where
  pub rule : Rule
  pub among : Contains set.constraints rule
  pub fits : t + m.largest rule.formula < length rows
  pub fails : holds m rule.formula (drop t rows) ≡ false

-- the first cycle at which one does, where there is one
abbrev pub IsUnmet : Meaning → Set → List Row → Option ℕ → Type 0
IsUnmet m set rows None = (t : ℕ) → FailsAt m set rows t → ⊥
IsUnmet m set rows (Some t) = FailsAt m set rows t × ((s : ℕ) → s < t → FailsAt m set rows s → ⊥)

-- a formula whose largest offset fits fails in the first row
abbrev pub fails : Meaning → Expr → List Row → Bool
fails m formula rows = nat_lt (m.largest formula) (length rows) && not (holds m formula rows)
