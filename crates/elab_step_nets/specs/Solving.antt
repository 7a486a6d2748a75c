-- A module without instances, solved one group of nets after another (IEEE 1364-2005, sections 6.1 and 9.2).
use Rattle.std.specs.Prelude.{◌≡◌, ◌⊎◌, true, false, List, [], ◌∷◌, ◌++◌, map, if◌then◌else◌}
use Rattle.std.specs.List.{flat_map}
use Rattle.vlog_tree.specs.declared.item.Assign.{Assign}
use Rattle.vlog_tree.specs.declared.stmt.Stmt.{Stmt}
use Rattle.vlog_tree.specs.declared.stmt.Stmt.TheVariants as s
use Rattle.vlog_tree_runs.specs.declared.flat.Always.{Always}
use Rattle.vlog_tree_runs.specs.declared.flat.Flat.{Flat}
use Rattle.vlog_tree_runs.specs.declared.flat.Signal.{Signal}
use Rattle.vlog_tree_runs.specs.Places.{Name, Cycle, Among, Place}
use Rattle.vlog_tree_runs.specs.Contents.{is_among}
use Rattle.vlog_tree_runs.specs.Blocks.{run, lefts, left_names}
use Rattle.vlog_tree_runs.specs.Cycles.{IsRegister, IsInput}

-- the bodies of the combinational blocks
abbrev pub bodies : List Always → List Stmt
bodies [] = []
bodies (k ∷ ks) = if k.clocked then bodies ks else k.body ∷ bodies ks

-- the continuous assignments, each as a statement, and the combinational blocks
abbrev pub processes : Flat → List Stmt
processes f = map (λ (a : Assign). s.Blocking a.left a.right) f.assigns ++ bodies f.blocks

-- the bodies of the clocked blocks
abbrev pub clocked : List Always → List Stmt
clocked [] = []
clocked (k ∷ ks) = if k.clocked then k.body ∷ clocked ks else clocked ks

-- the names that a statement assigns
abbrev pub assigned_by : Stmt → List Name
assigned_by k = flat_map left_names (lefts k)

-- those that assign a name
abbrev pub drivers_of : List Stmt → Name → List Stmt
drivers_of [] x = []
drivers_of (k ∷ ks) x = if is_among (assigned_by k) x then k ∷ drivers_of ks x else drivers_of ks x

-- a cycle, with another one's values of some names
abbrev pub taking : List Name → Cycle → Cycle → Cycle
taking xs d c y = if is_among xs y then d y else c y

-- a cycle in which these names have in turn what each statement makes of them
abbrev pub driven : Place → List Stmt → List Name → Cycle → Cycle
driven p [] xs c = c
driven p (k ∷ ks) xs c = driven p ks xs (taking xs (run true p k c c) c)

-- the same from 0 on
abbrev pub settled : Place → List Stmt → List Name → Cycle → Cycle
settled p ks xs c = driven p ks xs (taking xs (λ y. 0) c)

-- those that assign the first one of a group of names
abbrev pub drivers_in : List Stmt → List Name → List Stmt
drivers_in ks [] = []
drivers_in ks (x ∷ xs) = drivers_of ks x

-- groups of nets one after another, each by the statements that assign it
abbrev pub solved : Place → List Stmt → List (List Name) → Cycle → Cycle
solved p ks [] c = c
solved p ks (xs ∷ rest) c = solved p ks rest (settled p (drivers_in ks xs) xs c)

-- the names of groups, group after group
abbrev pub joined : List (List Name) → List Name
joined [] = []
joined (xs ∷ rest) = xs ++ joined rest

-- names that the same statements assign, none of which depends on one of them
pub record IsGroup (ks : List Stmt) (depends : Name → Name → Type 0) (xs : List Name) : Type 0 where
  pub same : (x : Name) → Among xs x → drivers_of ks x ≡ drivers_in ks xs
  pub apart : (x z : Name) → Among xs x → depends x z → Among xs z → ⊥

abbrev pub AreGroups : List Stmt → (Name → Name → Type 0) → List (List Name) → Type 0
AreGroups ks depends [] = Unit {0}
AreGroups ks depends (xs ∷ rest) = IsGroup ks depends xs × AreGroups ks depends rest

-- no name stands twice
abbrev pub AreDistinct : List Name → Type 0
AreDistinct [] = Unit {0}
AreDistinct (x ∷ xs) = (Among xs x → ⊥) × AreDistinct xs

-- none of the signals is a memory
abbrev pub ArePlain : List Signal → Type 0
ArePlain [] = Unit {0}
ArePlain (g ∷ gs) = (g.depth ≡ 0) × ArePlain gs

-- nets one after another, each depending on earlier ones alone
abbrev pub IsOrder : (Name → Name → Type 0) → List Name → Type 0
IsOrder depends [] = Unit {0}
IsOrder depends (x ∷ xs) = ((z : Name) → depends x z → Among (x ∷ xs) z → ⊥) × (Among xs x → ⊥) × IsOrder depends xs

-- `d` after clocked blocks, one after another, which all read the cycle `c` before the edge
abbrev pub after_edge : Place → List Stmt → Cycle → Cycle → Cycle
after_edge p [] c d x = d x
after_edge p (k ∷ ks) c d x = after_edge p ks c (run false p k c d) x

-- a declared signal that is no register and no input
pub record IsNet (f : Flat) (x : Name) : Type 0 where
  pub signal : Signal
  pub is_declared : Among f.signals signal
  pub named : signal.name ≡ x
  pub no_register : IsRegister f x → ⊥
  pub no_input : IsInput f x → ⊥

-- the nets of a module, each after those that it depends on
pub record IsNetOrder (f : Flat) (depends : Name → Name → Type 0) (xs : List Name) : Type 0 where
  pub order : IsOrder depends xs
  pub nets : (x : Name) → Among xs x → IsNet f x
  pub others : (g : Signal) → Among f.signals g → Among xs g.name ⊎ (IsRegister f g.name ⊎ IsInput f g.name)
