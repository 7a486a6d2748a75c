-- What drives a bit, what reads it, and what a signal depends on (IEEE 1364-2005, sections 5.2.1 and 6.1).
use Rattle.std.specs.Prelude.{ℕ, pos, ◌-ℤ◌, ◌≡◌, ◌⊎◌, ◌<◌, true, false, List, [], ◌∷◌, ◌++◌, map, reverse, slice_get, Some, if◌then◌else◌}
use Rattle.std.specs.List.{flat_map}
use Rattle.vlog_tree.specs.declared.expr.Expr.{Expr, Row_of-Expr, end_of-Expr, more_of-Expr}
use Rattle.vlog_tree.specs.declared.expr.Expr.TheVariants as e
use Rattle.vlog_tree.specs.declared.item.Assign.{Assign}
use Rattle.vlog_tree.specs.declared.stmt.Lval.{Lval, Row_of-Lval, end_of-Lval, more_of-Lval}
use Rattle.vlog_tree.specs.declared.stmt.Lval.TheVariants as l
use Rattle.vlog_tree.specs.declared.stmt.Stmt.{Stmt}
use Rattle.vlog_tree.specs.Value.{part_low, part_width}
use Rattle.vlog_tree_runs.specs.declared.flat.Always.{Always}
use Rattle.vlog_tree_runs.specs.declared.flat.Flat.{Flat}
use Rattle.vlog_tree_runs.specs.declared.flat.TopPort.{TopPort}
use Rattle.vlog_tree_runs.specs.Places.{Name, Among, Place}
use Rattle.vlog_tree_runs.specs.Blocks.{IsWithin, low_in, lefts, left_names, Drives}
use Rattle.vlog_tree_runs.specs.Cycles.{flat_place, IsRegister}
use Rattle.elab_flat_faults.specs.Texts.{names_in, numbers_in, alone_in, compared_in, stores_in, assign_exprs, compared_exprs}
use Rattle.elab_flat_faults.specs.Paths.{IsConstant, constant, Step, Assigns, IsPath, DependsAt}

-- ---- drivers

-- an input of the top, a part of a continuous assignment's left side, or a block
pub data Driver : Type 0 where
  Input : Name → Driver
  Part : Lval → Driver
  Block : List Lval → Driver

-- the parts of a left side, each a driver of its own
abbrev mutual
  pub parts_of : Lval → List Lval
  parts_of (l.Name x) = l.Name x ∷ []
  parts_of (l.Select x a) = l.Select x a ∷ []
  parts_of (l.Part x span a b) = l.Part x span a b ∷ []
  parts_of (l.Concat' h row) = row_parts_of row

  pub row_parts_of : {m : _} → Row_of-Lval m → List Lval
  row_parts_of end_of-Lval = []
  row_parts_of (more_of-Lval a rest) = parts_of a ++ row_parts_of rest

abbrev pub input_drivers : List TopPort → List Driver
input_drivers [] = []
input_drivers (p ∷ ps) = if p.output then input_drivers ps else Input p.name ∷ input_drivers ps

abbrev pub drivers_of : Flat → List Driver
drivers_of f =
    input_drivers f.ports ++ flat_map (λ (a : Assign). map Part (parts_of a.left)) f.assigns ++ map (λ (k : Always). Block (lefts k.body)) f.blocks

abbrev pub DrivesIn : Place → Driver → Name → ℕ → Type 0
DrivesIn p (Input y) x b = y ≡ x
DrivesIn p (Part left) x b = Drives p left x b
DrivesIn p (Block ls) x b = (left : Lval) × Among ls left × Drives p left x b

-- two drivers at different places of the list
pub record HasTwoDrivers (f : Flat) (x : Name) (b : ℕ) : Type 0 where
  pub first : ℕ
  pub second : ℕ
  pub apart : first < second
  pub one : Driver
  pub other : Driver
  pub one_is : slice_get (drivers_of f) first ≡ Some one
  pub other_is : slice_get (drivers_of f) second ≡ Some other
  pub drives_one : DrivesIn (flat_place f) one x b
  pub drives_other : DrivesIn (flat_place f) other x b

abbrev pub HasDriver : Flat → Name → ℕ → Type 0
HasDriver f x b = (d : Driver) × Among (drivers_of f) d × DrivesIn (flat_place f) d x b

-- ---- readers

-- an expression reads bit b of a signal: at an index that isn't constant it reads all of them
abbrev mutual
  pub ReadsBit : Place → Expr → Name → ℕ → Type 0
  ReadsBit p (e.Number n) x b = ⊥
  ReadsBit p (e.Name y) x b = y.text ≡ x
  ReadsBit p (e.Select' y h (more_of-Expr a end_of-Expr)) x b =
      ((y.text ≡ x) × (IsConstant p a → constant p a -ℤ pos (low_in p y.text) ≡ pos b)) ⊎ ReadsBit p a x b
  ReadsBit p (e.Part' y span h (more_of-Expr a end_of-Expr) g (more_of-Expr c end_of-Expr)) x b =
      ((y.text ≡ x) × (IsConstant p a → IsConstant p c →
      IsWithin (part_low span (constant p a) (constant p c) -ℤ pos (low_in p y.text)) (part_width span (constant p a) (constant p c)) b))
      ⊎ (ReadsBit p a x b ⊎ ReadsBit p c x b)
  ReadsBit p (e.ConstantSelect' k h (more_of-Expr a end_of-Expr)) x b = ReadsBit p a x b
  ReadsBit p (e.ConstantPart' k span h (more_of-Expr a end_of-Expr) g (more_of-Expr c end_of-Expr)) x b = ReadsBit p a x b ⊎ ReadsBit p c x b
  ReadsBit p (e.Cast' cast h (more_of-Expr a end_of-Expr)) x b = ReadsBit p a x b
  ReadsBit p (e.Paren' h (more_of-Expr a end_of-Expr)) x b = ReadsBit p a x b
  ReadsBit p (e.Concat' h row) x b = AnyReadsBit p row x b
  ReadsBit p (e.Repeat' h (more_of-Expr a end_of-Expr) g row) x b = ReadsBit p a x b ⊎ AnyReadsBit p row x b
  ReadsBit p (e.Unary' op h (more_of-Expr a end_of-Expr)) x b = ReadsBit p a x b
  ReadsBit p (e.Binary' op h (more_of-Expr a end_of-Expr) g (more_of-Expr c end_of-Expr)) x b = ReadsBit p a x b ⊎ ReadsBit p c x b
  ReadsBit p (e.Choice' h (more_of-Expr d end_of-Expr) g (more_of-Expr a end_of-Expr) i (more_of-Expr c end_of-Expr)) x b =
      ReadsBit p d x b ⊎ (ReadsBit p a x b ⊎ ReadsBit p c x b)

  pub AnyReadsBit : {m : _} → Place → Row_of-Expr m → Name → ℕ → Type 0
  AnyReadsBit p end_of-Expr x b = ⊥
  AnyReadsBit p (more_of-Expr a rest) x b = ReadsBit p a x b ⊎ AnyReadsBit p rest x b

abbrev pub block_exprs : Always → List Expr
block_exprs k = alone_in k.body ++ flat_map compared_exprs (compared_in k.body) ++ map (λ a. a.right) (stores_in k.body)

-- all expressions of the module
abbrev pub exprs_of : Flat → List Expr
exprs_of f = flat_map assign_exprs f.assigns ++ flat_map block_exprs f.blocks

-- a bit is read, or is one of an output of the top
abbrev pub IsWanted : Flat → Name → ℕ → Type 0
IsWanted f x b =
    ((a : Expr) × Among (exprs_of f) a × ReadsBit (flat_place f) a x b) ⊎ ((p : TopPort) × Among f.ports p × (p.output ≡ true) × (p.name ≡ x))

-- ---- dependences

-- on some path through a combinational block an assignment to y depends on z
abbrev pub BlockDepends : Place → Stmt → Name → Name → Type 0
BlockDepends p body y z =
    (before after : List Step) × (left : Lval) × (as' : List Expr)
    × IsPath p body (before ++ Assigns left as' ∷ after) × Among (left_names left) y × DependsAt p (reverse before) as' z

-- y depends on z: by a continuous assignment, or by an assignment on a path through a combinational block. A register depends on nothing
abbrev pub DependsOn : Flat → Name → Name → Type 0
DependsOn f y z =
    (IsRegister f y → ⊥)
    × (((a : Assign) × Among f.assigns a × Among (left_names a.left) y × Among (flat_map names_in (a.right ∷ numbers_in a.left)) z)
    ⊎ ((k : Always) × Among f.blocks k × (k.clocked ≡ false) × BlockDepends (flat_place f) k.body y z))

-- each of a list depends on the next one, and the last one on z
abbrev pub IsChain : Flat → Name → List Name → Name → Type 0
IsChain f y [] z = DependsOn f y z
IsChain f y (x ∷ xs) z = DependsOn f y x × IsChain f x xs z
