-- Clocks and asynchronous resets (IEEE 1364-2005, sections 9.7.4 and 9.9; IEEE 1364.1-2002, section 5.2.2).
use Rattle.std.specs.Prelude.{ℕ, ◌≡◌, ◌⊎◌, Bool, true, false, ◌&&◌, nat_eq, not, List, [], ◌∷◌, reverse, Option, Some, None, if◌then◌else◌}
use Rattle.vlog_tree.specs.declared.expr.Binary.{Binary}
use Rattle.vlog_tree.specs.declared.expr.Binary.TheVariants as b
use Rattle.vlog_tree.specs.declared.expr.Expr.{Expr, end_of-Expr, more_of-Expr}
use Rattle.vlog_tree.specs.declared.expr.Expr.TheVariants as e
use Rattle.vlog_tree.specs.declared.expr.Unary.{Unary}
use Rattle.vlog_tree.specs.declared.expr.Unary.TheVariants as u
use Rattle.vlog_tree.specs.declared.module.Module.{Module}
use Rattle.vlog_tree.specs.declared.stmt.Edge.{Edge}
use Rattle.vlog_tree.specs.declared.stmt.Stmt.{Stmt, Row_of-Stmt, end_of-Stmt, more_of-Stmt}
use Rattle.vlog_tree.specs.declared.stmt.Stmt.TheVariants as s
use Rattle.vlog_tree.specs.declared.token.Number.{Number}
use Rattle.vlog_tree_runs.specs.Places.{Name, read}
use Rattle.vlog_tree_runs.specs.Contents.{Decl, signals_in, port_names, Inner, instances_in}
use Rattle.vlog_tree_runs.specs.Scopes.{width_in, Scope, scope_at, instance_at, child, decl_at, given_at, given_to}

-- an input of one bit of a scope's module
pub record IsBitInput (s : Scope) (x : Name) : Type 0 where
  pub decl : Decl
  pub declared : decl_at (signals_in s.module') x ≡ Some decl
  pub input : decl.input ≡ true
  pub one_bit : width_in decl.shape.range 1 s.params ≡ 1

-- the name x, in the scope at the end of a path that is read backwards, is the input y of the top: it is reached through inputs of one bit, each
-- connected to a name alone
abbrev pub Reaches : List Module → Name → List Name → Name → Name → Type 0
Reaches ms top [] x y = (x ≡ y) × (s : Scope) × (scope_at ms top [] ≡ Some s) × IsBitInput s x
Reaches ms top (i ∷ back) x y =
    (outer : Scope) × (scope_at ms top (reverse back) ≡ Some outer) × (inner : Inner) × (instance_at (instances_in outer.module') i ≡ Some inner)
    × (s : Scope) × (child ms outer inner ≡ Some s) × IsBitInput s x
    × (z : Name) × (given_at (given_to (port_names s.module') inner.args) x ≡ Some (e.Name (read z))) × Reaches ms top back z y

-- a reset and the level at which it is active
pub record Reset : Type 0 where
  pub name : Name
  pub high : Bool

abbrev pub reset_if : Bool → Name → Bool → Option Reset
reset_if test x high = if test then Some (record { name = x; high = high }) else None

abbrev pub is_one : Option ℕ → Bool
is_one None = false
is_one (Some n) = nat_eq n 1

-- `1'b0` and `1'b1`: an unsigned number of one bit
abbrev pub is_bit : Number → Bool
is_bit n = is_one n.size && (not n.signed && not n.wildcard)

-- the conditions `r`, `!r`, `~r`, `r == 1'b0` and `r == 1'b1`
abbrev pub negated : Unary → Expr → Option Reset
negated u.LogicalNot (e.Name x) = reset_if true x.text false
negated u.BitNot (e.Name x) = reset_if true x.text false
negated op a = None

abbrev pub level_of : Binary → Expr → Expr → Option Reset
level_of b.Equal (e.Name x) (e.Number n) = reset_if (is_bit n) x.text (nat_eq n.value 1)
level_of op a c = None

abbrev pub reset_of : Expr → Option Reset
reset_of (e.Name x) = reset_if true x.text true
reset_of (e.Unary' op h (more_of-Expr a end_of-Expr)) = negated op a
reset_of (e.Binary' op h (more_of-Expr a end_of-Expr) g (more_of-Expr c end_of-Expr)) = level_of op a c
reset_of a = None

-- the condition of a body that is one `if` with an `else`, alone or as the only statement of a `begin` and `end`
abbrev pub only_of : {m : _} → Row_of-Stmt m → Option Expr
only_of (more_of-Stmt (s.IfElse' a h x g y) end_of-Stmt) = Some a
only_of row = None

abbrev pub condition_of : Stmt → Option Expr
condition_of (s.IfElse' a h x g y) = Some a
condition_of (s.Block' n h row) = only_of row
condition_of body = None

-- the edge of a reset
abbrev pub IsResetEdge : Edge → Reset → Type 0
IsResetEdge edge r = (edge.name ≡ r.name) × (edge.rising ≡ r.high)

-- the edges are those of the clock and, where there are two, of the reset that the body tests: by these the block waits for the clock x, and r is its reset
abbrev pub WaitsFor : List Edge → Stmt → Name → Option Reset → Type 0
WaitsFor [] body x r = ⊥
WaitsFor (edge ∷ []) body x r = (edge.rising ≡ true) × (edge.name ≡ x) × (r ≡ None)
WaitsFor (edge ∷ other ∷ []) body x r =
    (a : Expr) × (condition_of body ≡ Some a) × (t : Reset) × (reset_of a ≡ Some t) × (r ≡ Some t)
    × ((IsResetEdge edge t × (other.rising ≡ true) × (other.name ≡ x)) ⊎ (IsResetEdge other t × (edge.rising ≡ true) × (edge.name ≡ x)))
WaitsFor (edge ∷ other ∷ third ∷ edges) body x r = ⊥

-- a reset is an input of the top, reached as the clock is
abbrev pub ReachesReset : List Module → Name → List Name → Option Reset → Type 0
ReachesReset ms top back None = Unit {0}
ReachesReset ms top back (Some r) = (y : Name) × Reaches ms top back r.name y

-- a block with edges, in the scope at the end of a path, is clocked by the input y of the top
pub record IsTimed (ms : List Module) (top : Name) (back : List Name) (edges : List Edge) (body : Stmt) (y : Name) : Type 0 where
  pub clock : Name
  pub reset : Option Reset
  pub waits : WaitsFor edges body clock reset
  pub reaches : Reaches ms top back clock y
  pub resets : ReachesReset ms top back reset
