-- Tables of what reaches the inputs of all scopes.
use Rattle.std.specs.Prelude.{List, [], ◌∷◌, reverse}
use Rattle.vlog_tree.specs.declared.expr.Expr.{Expr}
use Rattle.vlog_tree.specs.declared.module.Module.{Module}
use Rattle.vlog_tree_runs.specs.Places.{Name}
use Rattle.vlog_tree_runs.specs.Contents.{Inner}
use Rattle.vlog_tree_runs.specs.Scopes.{Scope}
use Rattle.elab_flat_instances.specs.Unfolding.{AreUnfolded}
use Rattle.elab_flat_clocks.specs.Tables.{Link, IsTable, IsTableBelow}
use Rattle.elab_flat_clocks.specs.Passing.{AreKept}

-- a table for each of some paths
abbrev pub AreTables : List Module → Name → List (List Name) → List (List Link) → Type 0
AreTables ms top [] [] = Unit {0}
AreTables ms top (p ∷ ps) (t ∷ ts) = IsTable ms top (reverse p) t × AreTables ms top ps ts
AreTables ms top [] (t ∷ ts) = ⊥
AreTables ms top (p ∷ ps) [] = ⊥

-- a table for each of some instances with their scopes, by that of the scope that they stand in
abbrev pub AreTablesBelow : List Link → List Inner → List Scope → List (List Link) → Type 0
AreTablesBelow outer [] [] [] = Unit {0}
AreTablesBelow outer (i ∷ is) (s ∷ ss) (t ∷ ts) = IsTableBelow outer i s t × AreTablesBelow outer is ss ts
AreTablesBelow outer is ss ts = ⊥

-- the scopes are all those of some list of modules
abbrev pub AreAllScopes : List Scope → Type 0
AreAllScopes ss = (ms : List Module) × (top : Name) × AreUnfolded ms top ss

-- tables for all scopes, and the expressions that the connections of each don't pass on
pub record AreWays (ms : List Module) (paths : List (List Name)) (top : Name) (ss : List Scope) (ts : List (List Link)) (kept : List (List Expr)) : Type 0 where
  pub tables : AreTables ms top paths ts
  pub connections : AreKept ms ss kept

abbrev pub AreWaysOf : List Scope → List (List Link) → List (List Expr) → Type 0
AreWaysOf ss ts kept = (ms : List Module) (top : Name) (u : AreUnfolded ms top ss) → AreWays ms u.paths top ss ts kept
