-- What a block with edges waits for: its clock and its asynchronous reset.
use Rattle.std.specs.Prelude.{◌≡◌, ◌↔◌, ◌⊎◌, Bool, true, false, List, [], ◌∷◌, Option, Some, None}
use Rattle.std.specs.Option.{option_map}
use Rattle.vlog_tree.specs.declared.expr.Binary.{Binary}
use Rattle.vlog_tree.specs.declared.expr.Binary.TheVariants as b
use Rattle.vlog_tree.specs.declared.expr.Expr.{Expr}
use Rattle.vlog_tree.specs.declared.expr.Unary.{Unary}
use Rattle.vlog_tree.specs.declared.expr.Unary.TheVariants as u
use Rattle.vlog_tree.specs.declared.stmt.Edge.{Edge}
use Rattle.vlog_tree.specs.declared.stmt.Stmt.{Stmt}
use Rattle.vlog_tree.specs.declared.stmt.Stmt.TheVariants as s
use Rattle.vlog_tree_runs.specs.Places.{Name}
use Rattle.elab_flat_faults.specs.Clocks.{Reset as Asynchronous, IsResetEdge, WaitsFor, reset_of, condition_of}
use Rattle.elab_flat_clocks.specs.declared.reset.Reset.{Reset}
use Rattle.elab_flat_clocks.specs.declared.timing.Timing.{Timing}

abbrev pub reset_meant : Reset → Asynchronous
reset_meant r = record { name = r.name.now; high = r.high }

-- `!` and `~`, and `==`
abbrev pub is_not : Unary → Bool
is_not u.LogicalNot = true
is_not u.BitNot = true
is_not op = false

abbrev pub is_equal : Binary → Bool
is_equal b.Equal = true
is_equal op = false

-- the condition of a statement that is an `if` with an `else`, and of the only one of some statements
abbrev pub condition_alone : Stmt → Option Expr
condition_alone (s.IfElse' a h x g y) = Some a
condition_alone body = None

abbrev pub only_in : List Stmt → Option Expr
only_in [] = None
only_in (x ∷ []) = condition_alone x
only_in (x ∷ y ∷ rest) = None

-- the reset that a body tests
abbrev pub reset_by : Option Expr → Option Asynchronous
reset_by None = None
reset_by (Some a) = reset_of a

abbrev pub reset_in : Stmt → Option Asynchronous
reset_in body = reset_by (condition_of body)

-- of one edge: it is rising
abbrev pub WaitsForOne : Edge → Name → Option Asynchronous → Type 0
WaitsForOne edge x r = (edge.rising ≡ true) × (edge.name ≡ x) × (r ≡ None)

-- of two edges: one is that of the reset, and the other rises
abbrev pub WaitsForTwo : Edge → Edge → Asynchronous → Name → Option Asynchronous → Type 0
WaitsForTwo one other t x r =
    (r ≡ Some t) × ((IsResetEdge one t × (other.rising ≡ true) × (other.name ≡ x)) ⊎ (IsResetEdge other t × (one.rising ≡ true) × (one.name ≡ x)))

-- this clock and this reset
abbrev pub IsTimedBy : Option Timing → Name → Option Asynchronous → Type 0
IsTimedBy None x r = ⊥
IsTimedBy (Some t) x r = (t.clock.now ≡ x) × (option_map reset_meant t.reset ≡ r)

-- the block waits for no other clock, and for this one, where it waits for one
abbrev pub IsTimingOf : List Edge → Stmt → Option Timing → Type 0
IsTimingOf edges body o = (x : Name) (r : Option Asynchronous) → WaitsFor edges body x r ↔ IsTimedBy o x r
