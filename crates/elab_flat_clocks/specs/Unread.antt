-- The clock that there may be, and where it is read.
use Rattle.std.specs.Prelude.{◌≡◌, List, Option, Some}
use Rattle.vlog_tree.specs.declared.expr.Expr.{Expr}
use Rattle.vlog_tree_runs.specs.Places.{Name}
use Rattle.vlog_tree_runs.specs.Scopes.{Scope}
use Rattle.elab_flat_faults.specs.declared.flattening.FlatFault.{FlatFault}
use Rattle.elab_flat_clocks.specs.Tables.{Link}
use Rattle.elab_flat_clocks.specs.Clocking.{NoneReads, SomeReads}

-- no scope reads the clock
abbrev pub IsUnread : List Scope → List (List Link) → List (List Expr) → Option Name → Type 0
IsUnread ss ts kept o = (y : Name) → o ≡ Some y → NoneReads ss ts kept y

-- a scope reads it by this name
abbrev pub IsReadBy : List Scope → List (List Link) → List (List Expr) → Option Name → FlatFault → Type 0
IsReadBy ss ts kept o fault = (y : Name) × (o ≡ Some y) × SomeReads ss ts kept y fault
