-- Expressions that are taken at one length and sign (IEEE 1364-2005, section 9.5).
use Rattle.std.specs.Prelude.{◌≡◌, ◌≤◌, ℕ, Bool, List}
use Rattle.std.specs.Borrow.{Bor}
use Rattle.vlog_tree.specs.declared.expr.Expr.{Expr}
use Rattle.vlog_tree.specs.declared.valuation.Entry.{Entry}
use Rattle.vlog_tree.specs.Value.{width_of, IsFormed, HasConstantParts}
use Rattle.vlog_tree_runs.specs.Places.{Name, Among}
use Rattle.vlog_tree_runs.specs.Blocks.{widest, all_signed}

-- an expression is well formed, with its constant parts, and no longer than so many bits
pub record CanTake (test : Name → Bool) (v : List Entry) (a : Expr) (n : ℕ) : Type 0 where
  pub parts : HasConstantParts test a
  pub formed : IsFormed v a
  pub long : width_of v a ≤ n

-- expressions are well formed, with their constant parts; the longest has so many bits, at most 64
pub record HasCommonShape (test : Name → Bool) (v : List Entry) (as' : List Expr) (n : ℕ) (s : Bool) : Type 0 where
  pub ready : (a : Expr) → Among as' a → CanTake test v a n
  pub width : n ≡ widest v as'
  pub sign : s ≡ all_signed v as'
  pub most : n ≤ 64

abbrev pub expr_meant : Bor Expr → Expr
expr_meant a = a.now
