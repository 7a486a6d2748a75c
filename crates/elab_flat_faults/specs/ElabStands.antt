-- Which faults stand for a module without instances.
use Rattle.std.specs.Prelude.{ℕ, ◌+◌, ◌≡◌, ◌⊎◌, ◌<◌, true, false, List, [], ◌∷◌, ◌++◌, Some}
use Rattle.std.specs.List.{flat_map}
use Rattle.vlog_tree.specs.declared.item.Assign.{Assign}
use Rattle.vlog_tree.specs.declared.stmt.Lval.{Lval}
use Rattle.vlog_tree.specs.declared.stmt.Stmt.{Stmt, Row_of-Stmt, end_of-Stmt, more_of-Stmt, Row_of-CaseItem, end_of-CaseItem, more_of-CaseItem}
use Rattle.vlog_tree.specs.declared.stmt.Stmt.TheVariants as s
use Rattle.vlog_tree_runs.specs.declared.flat.Always.{Always}
use Rattle.vlog_tree_runs.specs.declared.flat.Flat.{Flat}
use Rattle.vlog_tree_runs.specs.declared.flat.Signal.{Signal}
use Rattle.vlog_tree_runs.specs.Places.{Name, Among}
use Rattle.vlog_tree_runs.specs.Blocks.{low_in, lefts, left_names, Drives}
use Rattle.vlog_tree_runs.specs.Cycles.{flat_place, IsRegister}
use Rattle.elab_flat_faults.specs.Texts.{names_in}
use Rattle.elab_flat_faults.specs.declared.elaborating.ElabFault.{ElabFault}
use Rattle.elab_flat_faults.specs.declared.elaborating.ElabFault.TheVariants as f
use Rattle.elab_flat_faults.specs.Paths.{Step, reads_in, IsPath, IsSetBy, IsAllSet, width_in}
use Rattle.elab_flat_faults.specs.Drivers.{HasTwoDrivers, HasDriver, IsWanted, IsChain}

-- a bit of a signal, counted from its lowest one, and its declared number
abbrev pub IsBit : Flat → Name → ℕ → ℕ → Type 0
IsBit m x b n = (b < width_in (flat_place m) x) × (n ≡ low_in (flat_place m) x + b)

abbrev pub IsCombinational : Flat → Always → Type 0
IsCombinational m k = Among m.blocks k × (k.clocked ≡ false)

-- a block drives a bit that some path doesn't set
pub record MissesBit (m : Flat) (x : Name) : Type 0 where
  pub block : Always
  pub combinational : IsCombinational m block
  pub bit : ℕ
  pub left : Lval
  pub within : bit < width_in (flat_place m) x
  pub is_left : Among (lefts block.body) left
  pub drives : Drives (flat_place m) left x bit
  pub steps : List Step
  pub path : IsPath (flat_place m) block.body steps
  pub unset : IsSetBy (flat_place m) steps x bit → ⊥

-- a block with a list of names reads another one that it hasn't assigned all of
pub record ReadsUnlisted (m : Flat) (x : Name) : Type 0 where
  pub block : Always
  pub combinational : IsCombinational m block
  pub names : List Name
  pub listed : block.names ≡ Some names
  pub before : List Step
  pub after : List Step
  pub step : Step
  pub path : IsPath (flat_place m) block.body (before ++ step ∷ after)
  pub reads : Among (flat_map names_in (reads_in step)) x
  pub open' : IsAllSet (flat_place m) before x → ⊥
  pub absent : Among names x → ⊥

-- ---- forms of assignment

-- a statement assigns to x by `=`, or by `<=`
abbrev mutual
  pub blocking_lefts : Stmt → List Lval
  blocking_lefts s.Empty = []
  blocking_lefts (s.Block' n h row) = row_blocking_lefts row
  blocking_lefts (s.If' a h (more_of-Stmt x end_of-Stmt)) = blocking_lefts x
  blocking_lefts (s.IfElse' a h (more_of-Stmt x end_of-Stmt) g (more_of-Stmt y end_of-Stmt)) = blocking_lefts x ++ blocking_lefts y
  blocking_lefts (s.Case' kind a h row) = case_blocking_lefts row
  blocking_lefts (s.Blocking left right) = left ∷ []
  blocking_lefts (s.Nonblocking left right) = []

  pub row_blocking_lefts : {m : _} → Row_of-Stmt m → List Lval
  row_blocking_lefts end_of-Stmt = []
  row_blocking_lefts (more_of-Stmt a rest) = blocking_lefts a ++ row_blocking_lefts rest

  pub case_blocking_lefts : {m : _} → Row_of-CaseItem m → List Lval
  case_blocking_lefts end_of-CaseItem = []
  case_blocking_lefts (more_of-CaseItem labels body rest) = blocking_lefts body ++ case_blocking_lefts rest

abbrev mutual
  pub nonblocking_lefts : Stmt → List Lval
  nonblocking_lefts s.Empty = []
  nonblocking_lefts (s.Block' n h row) = row_nonblocking_lefts row
  nonblocking_lefts (s.If' a h (more_of-Stmt x end_of-Stmt)) = nonblocking_lefts x
  nonblocking_lefts (s.IfElse' a h (more_of-Stmt x end_of-Stmt) g (more_of-Stmt y end_of-Stmt)) = nonblocking_lefts x ++ nonblocking_lefts y
  nonblocking_lefts (s.Case' kind a h row) = case_nonblocking_lefts row
  nonblocking_lefts (s.Blocking left right) = []
  nonblocking_lefts (s.Nonblocking left right) = left ∷ []

  pub row_nonblocking_lefts : {m : _} → Row_of-Stmt m → List Lval
  row_nonblocking_lefts end_of-Stmt = []
  row_nonblocking_lefts (more_of-Stmt a rest) = nonblocking_lefts a ++ row_nonblocking_lefts rest

  pub case_nonblocking_lefts : {m : _} → Row_of-CaseItem m → List Lval
  case_nonblocking_lefts end_of-CaseItem = []
  case_nonblocking_lefts (more_of-CaseItem labels body rest) = nonblocking_lefts body ++ case_nonblocking_lefts rest

abbrev pub Names : List Lval → Name → Type 0
Names ls x = Among (flat_map left_names ls) x

-- the declared signal of a name is a `reg`, or isn't one
abbrev pub IsReg : Flat → Name → Type 0
IsReg m x = (g : Signal) × Among m.signals g × (g.name ≡ x) × (g.reg ≡ true)

abbrev pub IsWire : Flat → Name → Type 0
IsWire m x = (g : Signal) × Among m.signals g × (g.name ≡ x) × (g.reg ≡ false)

-- the wrong form of assignment for the block or the declaration, or a clocked and a combinational block both assign
abbrev pub IsWronglyAssigned : Flat → Name → Type 0
IsWronglyAssigned m x =
    ((a : Assign) × Among m.assigns a × Among (left_names a.left) x × IsReg m x)
    ⊎ (((k : Always) × Among m.blocks k × Names (lefts k.body) x × IsWire m x)
    ⊎ (((k : Always) × Among m.blocks k × (k.clocked ≡ true) × Names (blocking_lefts k.body) x)
    ⊎ (((k : Always) × Among m.blocks k × (k.clocked ≡ false) × Names (nonblocking_lefts k.body) x)
    ⊎ ((k j : Always) × Among m.blocks k × Among m.blocks j × (k.clocked ≡ true) × (j.clocked ≡ false) × Names (lefts k.body) x × Names (lefts j.body) x))))

-- a fault stands
abbrev pub Stands : Flat → ElabFault → Type 0
Stands m (f.Latch x) = MissesBit m x
Stands m (f.Loop x) = (xs : List Name) × IsChain m x xs x
Stands m (f.Drivers x n) = (b : ℕ) × IsBit m x b n × HasTwoDrivers m x b
Stands m (f.Undriven x n) = (b : ℕ) × IsBit m x b n × IsWanted m x b × (HasDriver m x b → ⊥) × (IsRegister m x → ⊥)
Stands m (f.Sensitivity x) = ReadsUnlisted m x
Stands m (f.Kind x) = IsWronglyAssigned m x
Stands m f.Memory = ⊥
