-- One pass through the text of a block, as it changes tables.
use Rattle.std.specs.Prelude.{ℕ, ◌≡◌, ◌<◌, ◌⊎◌, ◌↔◌, true, List, [], ◌∷◌, ◌++◌}
use Rattle.std.specs.List.{flat_map}
use Rattle.vlog_tree.specs.declared.expr.Expr.{Expr}
use Rattle.vlog_tree.specs.declared.stmt.Lval.{Lval}
use Rattle.vlog_tree.specs.declared.stmt.CaseItem.{CaseItem}
use Rattle.vlog_tree.specs.declared.stmt.CaseKind.{CaseKind}
use Rattle.vlog_tree.specs.declared.stmt.Stmt.{Stmt, Row_of-Stmt, end_of-Stmt, more_of-Stmt, Row_of-CaseItem, end_of-CaseItem, more_of-CaseItem}
use Rattle.vlog_tree.specs.declared.stmt.Stmt.TheVariants as s
use Rattle.vlog_tree_runs.specs.declared.flat.Signal.{Signal}
use Rattle.vlog_tree_runs.specs.Places.{Name, Among}
use Rattle.vlog_tree_runs.specs.Blocks.{labels_in, left_names}
use Rattle.elab_flat_faults.specs.Texts.{names_in, numbers_in}
use Rattle.elab_flat_faults.specs.Paths.{Sets, IsFull, HasDefault, width_in}
use Rattle.elab_step_laws.specs.Laws.{place_over}
use Rattle.elab_step_flow.specs.Sets.{Tables, HasBit, is_open, CountsIn, AnyOf}
use Rattle.elab_step_flow.specs.Shows.{IsAt, ArePlacesOf}
use Rattle.elab_step_flow.specs.Cases.{labels_of, AnyDefault}

-- the places of the names in expressions
abbrev pub ReadsAt : List Signal → List Expr → List ℕ → Type 0
ReadsAt gs as' read = ArePlacesOf gs read (λ x. Among (flat_map names_in as') x)

-- after these places are read
pub record ReadsTo (read : List ℕ) (s t : Tables) : Type 0 where
  pub unset : t.unset ≡ s.unset
  pub through : t.through ≡ s.through
  pub outside : (i : ℕ) → Among t.outside i ↔ (Among s.outside i ⊎ (Among read i × (is_open (s.unset i) ≡ true)))

-- what these places, read here, count as, with what conditions around them count as
abbrev pub CountTo : List ℕ → List ℕ → Tables → List ℕ → Type 0
CountTo around read s inner = (z : ℕ) → Among inner z ↔ (CountsIn read s z ⊎ Among around z)

-- one flow or another of some
pub record MeetTo (us : List Tables) (w : Tables) : Type 0 where
  pub unset : (i b : ℕ) → HasBit w.unset i b ↔ AnyOf us (λ u. HasBit u.unset i b)
  pub through : (i j : ℕ) → Among (w.through i) j ↔ AnyOf us (λ u. Among (u.through i) j)
  pub outside : (i : ℕ) → Among w.outside i ↔ AnyOf us (λ u. Among u.outside i)

-- the bits of a left side are set, which depend on the places of a set
pub record SetTo (gs : List Signal) (left : Lval) (sources : List ℕ) (s t : Tables) : Type 0 where
  pub unset : (i b : ℕ) (x : Name) → IsAt gs i x → b < width_in (place_over gs) x → HasBit t.unset i b ↔ (HasBit s.unset i b × (Sets (place_over gs) left x b → ⊥))
  pub clear : (i b : ℕ) → HasBit t.unset i b → HasBit s.unset i b
  pub through : (i j : ℕ) (y : Name) → IsAt gs i y → Among (t.through i) j ↔ ((Among (left_names left) y × Among sources j) ⊎ Among (s.through i) j)
  pub outside : t.outside ≡ s.outside

-- a condition is read, and what it counts as is around what follows
pub record EnterTo (gs : List Signal) (around : List ℕ) (as' : List Expr) (s t : Tables) (inner : List ℕ) : Type 0 where
  pub read : List ℕ
  pub marks : ReadsAt gs as' read
  pub reads : ReadsTo read s t
  pub counts : CountTo around read s inner

-- an assignment
pub record AssignTo (gs : List Signal) (around : List ℕ) (left : Lval) (right : Expr) (s t : Tables) : Type 0 where
  pub middle : Tables
  pub sources : List ℕ
  pub enters : EnterTo gs around (right ∷ numbers_in left) s middle sources
  pub sets : SetTo gs left sources middle t

-- before the first statement
pub record IsStart (gs : List Signal) (s : Tables) : Type 0 where
  pub unset : (i b : ℕ) (x : Name) → IsAt gs i x → HasBit s.unset i b ↔ (b < width_in (place_over gs) x)
  pub through : (i j : ℕ) → Among (s.through i) j → ⊥
  pub outside : (i : ℕ) → Among s.outside i → ⊥

-- a path leads past the items of a case statement
abbrev pub LeadsPast : {m : _} → List Signal → CaseKind → Expr → Row_of-CaseItem m → Type 0
LeadsPast gs kind a row = (HasDefault row → ⊥) × (IsFull (place_over gs) kind a (labels_in row) → ⊥)

-- the tables where a path leads past them, and none where none does
abbrev pub PastTo : {m : _} → List Signal → CaseKind → Expr → Row_of-CaseItem m → Tables → List Tables → Type 0
PastTo gs kind a row s past = (LeadsPast gs kind a row × (past ≡ s ∷ [])) ⊎ ((LeadsPast gs kind a row → ⊥) × (past ≡ []))

-- a statement leads from tables to tables
abbrev mutual
  pub Passes : List Signal → List ℕ → Stmt → Tables → Tables → Type 0
  Passes gs around s.Empty v w = w ≡ v
  Passes gs around (s.Block' n h row) v w = RowPasses gs around row v w
  Passes gs around (s.If' a h (more_of-Stmt body end_of-Stmt)) v w =
      (t u : Tables) × (inner : List ℕ) × EnterTo gs around (a ∷ []) v t inner × Passes gs inner body t u × MeetTo (u ∷ t ∷ []) w
  Passes gs around (s.IfElse' a h (more_of-Stmt body end_of-Stmt) g (more_of-Stmt other end_of-Stmt)) v w =
      (t u u' : Tables) × (inner : List ℕ) × EnterTo gs around (a ∷ []) v t inner × Passes gs inner body t u × Passes gs inner other t u' × MeetTo (u ∷ u' ∷ []) w
  Passes gs around (s.Case' kind a h row) v w =
      (t : Tables) × (us past : List Tables) × (inner : List ℕ) × EnterTo gs around (a ∷ labels_in row) v t inner × PastTo gs kind a row t past × ItemsPass gs inner row t us × MeetTo (us ++ past) w
  Passes gs around (s.Blocking left right) v w = AssignTo gs around left right v w
  Passes gs around (s.Nonblocking left right) v w = AssignTo gs around left right v w

  pub RowPasses : {m : _} → List Signal → List ℕ → Row_of-Stmt m → Tables → Tables → Type 0
  RowPasses gs around end_of-Stmt v w = w ≡ v
  RowPasses gs around (more_of-Stmt a rest) v w = (u : Tables) × Passes gs around a v u × RowPasses gs around rest u w

  -- each item from the same tables
  pub ItemsPass : {m : _} → List Signal → List ℕ → Row_of-CaseItem m → Tables → List Tables → Type 0
  ItemsPass gs around end_of-CaseItem v us = us ≡ []
  ItemsPass gs around (more_of-CaseItem labels body rest) v us =
      (u : Tables) × (others : List Tables) × Passes gs around body v u × ItemsPass gs around rest v others × (us ≡ u ∷ others)

-- statements one after another, and the items of a list
abbrev pub EachPasses : List Signal → List ℕ → List Stmt → Tables → Tables → Type 0
EachPasses gs around [] v w = w ≡ v
EachPasses gs around (a ∷ rest) v w = (u : Tables) × Passes gs around a v u × EachPasses gs around rest u w

abbrev pub EachItemPasses : List Signal → List ℕ → List CaseItem → Tables → List Tables → Type 0
EachItemPasses gs around [] v us = us ≡ []
EachItemPasses gs around (i ∷ rest) v us =
    (u : Tables) × (others : List Tables) × Passes gs around i.body v u × EachItemPasses gs around rest v others × (us ≡ u ∷ others)

-- a path leads past the items of a list
abbrev pub LeadsPastEach : List Signal → CaseKind → Expr → List CaseItem → Type 0
LeadsPastEach gs kind a items = (AnyDefault items → ⊥) × (IsFull (place_over gs) kind a (labels_of items) → ⊥)
