-- When tables say what a flow says.
use Rattle.std.specs.Prelude.{ℕ, zero, suc, ◌≡◌, ◌<◌, ◌↔◌, Bool, List, [], ◌∷◌, length}
use Rattle.std.specs.List.{flat_map}
use Rattle.vlog_tree.specs.declared.expr.Expr.{Expr}
use Rattle.vlog_tree.specs.declared.stmt.Stmt.{Stmt, Row_of-Stmt, end_of-Stmt, more_of-Stmt, Row_of-CaseItem, end_of-CaseItem, more_of-CaseItem}
use Rattle.vlog_tree.specs.declared.stmt.Stmt.TheVariants as s
use Rattle.vlog_tree_runs.specs.declared.flat.Signal.{Signal}
use Rattle.vlog_tree_runs.specs.Places.{Name, Among}
use Rattle.vlog_tree_runs.specs.Blocks.{labels_in}
use Rattle.elab_flat_faults.specs.Texts.{names_in, numbers_in}
use Rattle.elab_flat_faults.specs.Paths.{width_in}
use Rattle.elab_step_laws.specs.Flows.{Flow}
use Rattle.elab_step_laws.specs.Laws.{place_over}
use Rattle.elab_step_flow.specs.Sets.{Tables, Has, HasBit}

-- the signal at place i has the name x
abbrev pub IsAt : List Signal → ℕ → Name → Type 0
IsAt [] i x = ⊥
IsAt (g ∷ gs) zero x = g.name ≡ x
IsAt (g ∷ gs) (suc i) x = IsAt gs i x

-- a set of places has those of the names that are so
abbrev pub Marks : List Signal → List Bool → (Name → Type 0) → Type 0
Marks gs set P = (i : ℕ) (x : Name) → IsAt gs i x → Has set i ↔ P x

-- a list has the places of the names that are so
pub record ArePlacesOf (gs : List Signal) (places : List ℕ) (P : Name → Type 0) : Type 0 where
  pub within : (i : ℕ) → Among places i → i < length gs
  pub each : (i : ℕ) (x : Name) → IsAt gs i x → Among places i ↔ P x

-- the tables of a block say what a flow says
pub record Shows (gs : List Signal) (s : Tables) (w : Flow) : Type 0 where
  pub unset : (i b : ℕ) (x : Name) → IsAt gs i x → b < width_in (place_over gs) x → HasBit s.unset i b ↔ w.unset x b
  pub clear : (i b : ℕ) (x : Name) → IsAt gs i x → HasBit s.unset i b → b < width_in (place_over gs) x
  pub through : (i j : ℕ) (y z : Name) → IsAt gs i y → IsAt gs j z → Among (s.through i) j ↔ w.through y z
  pub row : (i j : ℕ) (y : Name) → IsAt gs i y → Among (s.through i) j → j < length gs
  pub outside : ArePlacesOf gs s.outside w.outside

-- each name in expressions is that of a signal
abbrev pub AreDeclared : List Signal → List Expr → Type 0
AreDeclared gs as' = (x : Name) → Among (flat_map names_in as') x → (i : ℕ) × IsAt gs i x

-- each name in a statement is
abbrev mutual
  pub AreAllDeclared : List Signal → Stmt → Type 0
  AreAllDeclared gs s.Empty = Unit {0}
  AreAllDeclared gs (s.Block' n h row) = RowDeclared gs row
  AreAllDeclared gs (s.If' a h (more_of-Stmt body end_of-Stmt)) = AreDeclared gs (a ∷ []) × AreAllDeclared gs body
  AreAllDeclared gs (s.IfElse' a h (more_of-Stmt body end_of-Stmt) g (more_of-Stmt other end_of-Stmt)) =
      AreDeclared gs (a ∷ []) × AreAllDeclared gs body × AreAllDeclared gs other
  AreAllDeclared gs (s.Case' kind a h row) = AreDeclared gs (a ∷ labels_in row) × ItemsDeclared gs row
  AreAllDeclared gs (s.Blocking left right) = AreDeclared gs (right ∷ numbers_in left)
  AreAllDeclared gs (s.Nonblocking left right) = AreDeclared gs (right ∷ numbers_in left)

  pub RowDeclared : {m : _} → List Signal → Row_of-Stmt m → Type 0
  RowDeclared gs end_of-Stmt = Unit {0}
  RowDeclared gs (more_of-Stmt a rest) = AreAllDeclared gs a × RowDeclared gs rest

  pub ItemsDeclared : {m : _} → List Signal → Row_of-CaseItem m → Type 0
  ItemsDeclared gs end_of-CaseItem = Unit {0}
  ItemsDeclared gs (more_of-CaseItem labels body rest) = AreAllDeclared gs body × ItemsDeclared gs rest

-- no two signals have the same name
abbrev pub AreDistinct : List Signal → Type 0
AreDistinct gs = (i j : ℕ) (x : Name) → IsAt gs i x → IsAt gs j x → i ≡ j
