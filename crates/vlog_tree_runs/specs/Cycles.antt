-- Cycles and runs, of a list of modules from its top and of one module without instances (IEEE 1364-2005, sections 6.1, 9.2 and 12.3;
-- a bit has two values, and a register that isn't reset may start with any).
use Rattle.std.specs.Prelude.{nat_eq, ℕ, ◌+◌, ◌^◌, ◌<◌, ◌≡◌, ◌⊎◌, true, false, List, [], ◌++◌, Some}
use Rattle.std.specs.Int.{bit_at}
use Rattle.std.specs.List.{flat_map}
use Rattle.vlog_tree.specs.declared.item.Assign.{Assign}
use Rattle.vlog_tree.specs.declared.module.Module.{Module}
use Rattle.vlog_tree.specs.declared.stmt.Lval.{Lval}
use Rattle.vlog_tree.specs.declared.stmt.Stmt.{Stmt}
use Rattle.vlog_tree.specs.Valuation.{word_name}
use Rattle.vlog_tree.specs.Value.{assigned}
use Rattle.vlog_tree_runs.specs.declared.flat.Always.{Always}
use Rattle.vlog_tree_runs.specs.declared.flat.Flat.{Flat}
use Rattle.vlog_tree_runs.specs.declared.flat.Signal.{Signal}
use Rattle.vlog_tree_runs.specs.declared.flat.TopPort.{TopPort}
use Rattle.vlog_tree_runs.specs.Places.{Name, Cycle, Among, Place, holders, read, valuation, pieces, total, give}
use Rattle.vlog_tree_runs.specs.Blocks.{run, lefts, left_names, Drives, Stores}
use Rattle.vlog_tree_runs.specs.Contents.{Decl, signals_in, Block, blocks_in, is_clocked}
use Rattle.vlog_tree_runs.specs.Scopes.{Scope, IsScope, scope_at, place_of, Link, links_of, own_link}

-- ---- equations

-- the cycle after a continuous assignment or a connection
abbrev pub linked : Link → Cycle → Cycle
linked k c x = give (pieces k.into c k.left) (assigned (valuation k.from c) k.right (total (pieces k.into c k.left))) c x

-- it holds: the left side has the value of the right side, so that assigning it changes nothing
abbrev pub Holds : Link → Cycle → Type 0
Holds k c = (x : Name) → linked k c x ≡ c x

-- a combinational block, run from this cycle with its assignments taking effect at once, gives back this cycle
abbrev pub GivesBack : Place → Stmt → Cycle → Type 0
GivesBack p body c = (x : Name) → run true p body c c x ≡ c x

-- ---- what has a value from where

-- x is the full name of what holds the value of a signal, or of a word of it, that is named y in its place
abbrev pub IsHeldBy : Place → Name → Signal → Name → Type 0
IsHeldBy p y g x = (g.name ≡ y) × (w : Signal) × Among (holders g) w × (x ≡ p.prefix ++ w.name)

-- a statement assigns to x or to a part of it
abbrev pub IsAssigned : Place → Stmt → Name → Type 0
IsAssigned p body x = (y : Name) × Among (flat_map left_names (lefts body)) y × (g : Signal) × Among p.signals g × IsHeldBy p y g x

-- a left side of a place drives bit b of the declared vector x
abbrev pub DrivesBit : Place → Lval → Name → ℕ → Type 0
DrivesBit p left x b = (g : Signal) × Among p.signals g × (nat_eq g.depth 0 ≡ true) × (x ≡ p.prefix ++ g.name) × Drives p left g.name b

-- a left side assigns to the word x of a memory
abbrev pub DrivesWord : Place → Lval → Name → Type 0
DrivesWord p left x =
    (g : Signal) × Among p.signals g × (nat_eq g.depth 0 ≡ false) × (j : ℕ) × (j < g.depth) × Stores p left g.name j × (x ≡ p.prefix ++ (word_name (read g.name) j).text)

abbrev pub DrivesFull : Place → Lval → Name → ℕ → Type 0
DrivesFull p left x b = DrivesBit p left x b ⊎ DrivesWord p left x

-- ---- a list of modules from its top

-- x is a register: a clocked block assigns to it
abbrev pub IsRegisterFrom : List Module → Name → Name → Type 0
IsRegisterFrom ms top x =
    (s : Scope) × IsScope ms top s × (b : Block) × Among (blocks_in s.module') b × (is_clocked b.events ≡ true) × IsAssigned (place_of s) b.body x

-- a continuous assignment, a connection or a combinational block drives bit b of x
abbrev pub IsDrivenFrom : List Module → Name → Name → ℕ → Type 0
IsDrivenFrom ms top x b =
    (s : Scope) × IsScope ms top s
    × (((k : Link) × Among (links_of ms s) k × DrivesFull k.into k.left x b)
    ⊎ ((c : Block) × Among (blocks_in s.module') c × (is_clocked c.events ≡ false) × (left : Lval) × Among (lefts c.body) left × DrivesFull (place_of s) left x b))

-- x is an input of the top
abbrev pub IsInputFrom : List Module → Name → Name → Type 0
IsInputFrom ms top x = (s : Scope) × (scope_at ms top [] ≡ Some s) × (d : Decl) × Among (signals_in s.module') d × (d.input ≡ true) × (d.name ≡ x)

-- a cycle of a list of modules from its top: values of their lengths, in which each assignment, connection and combinational block
-- holds, and where a bit is 0 that nothing drives and that is of no register and no top input
pub record IsCycleFrom (ms : List Module) (top : Name) (c : Cycle) : Type 0 where
  pub fits : (s : Scope) → IsScope ms top s → (g w : Signal) → Among (place_of s).signals g → Among (holders g) w → c (s.prefix ++ w.name) < 2 ^ w.width
  pub links : (s : Scope) → IsScope ms top s → (k : Link) → Among (links_of ms s) k → Holds k c
  pub blocks : (s : Scope) → IsScope ms top s → (b : Block) → Among (blocks_in s.module') b → is_clocked b.events ≡ false → GivesBack (place_of s) b.body c
  pub unset : (s : Scope) → IsScope ms top s → (g w : Signal) (b : ℕ) → Among (place_of s).signals g → Among (holders g) w →
      ¬ IsDrivenFrom ms top (s.prefix ++ w.name) b → ¬ IsRegisterFrom ms top (s.prefix ++ w.name) → ¬ IsInputFrom ms top (s.prefix ++ w.name) →
      bit_at (c (s.prefix ++ w.name)) b ≡ 0

-- a clocked block drives bit b of x
abbrev pub IsClockedFrom : List Module → Name → Name → ℕ → Type 0
IsClockedFrom ms top x b =
    (s : Scope) × IsScope ms top s × (k : Block) × Among (blocks_in s.module') k × (is_clocked k.events ≡ true)
    × (left : Lval) × Among (lefts k.body) left × DrivesFull (place_of s) left x b

-- d follows c: a bit that a clocked block drives has what this block gives from c, and the other bits of registers keep their values
pub record FollowsFrom (ms : List Module) (top : Name) (c d : Cycle) : Type 0 where
  pub driven : (s : Scope) → IsScope ms top s → (k : Block) → Among (blocks_in s.module') k → is_clocked k.events ≡ true →
      (left : Lval) → Among (lefts k.body) left → (x : Name) (b : ℕ) → DrivesFull (place_of s) left x b →
      bit_at (d x) b ≡ bit_at (run false (place_of s) k.body c c x) b
  pub kept : (x : Name) (b : ℕ) → IsRegisterFrom ms top x → ¬ IsClockedFrom ms top x b → bit_at (d x) b ≡ bit_at (c x) b

-- ---- one module without instances

abbrev pub flat_place : Flat → Place
flat_place f = record { prefix = []; signals = f.signals; params = [] }

abbrev pub IsRegister : Flat → Name → Type 0
IsRegister f x = (b : Always) × Among f.blocks b × (b.clocked ≡ true) × IsAssigned (flat_place f) b.body x

abbrev pub IsDriven : Flat → Name → ℕ → Type 0
IsDriven f x b =
    ((a : Assign) × Among f.assigns a × DrivesFull (flat_place f) a.left x b)
    ⊎ ((c : Always) × Among f.blocks c × (c.clocked ≡ false) × (left : Lval) × Among (lefts c.body) left × DrivesFull (flat_place f) left x b)

abbrev pub IsInput : Flat → Name → Type 0
IsInput f x = (p : TopPort) × Among f.ports p × (p.output ≡ false) × (p.name ≡ x)

-- a cycle of a module without instances
pub record IsCycle (f : Flat) (c : Cycle) : Type 0 where
  pub fits : (g w : Signal) → Among f.signals g → Among (holders g) w → c w.name < 2 ^ w.width
  pub links : (a : Assign) → Among f.assigns a → Holds (own_link (flat_place f) a) c
  pub blocks : (b : Always) → Among f.blocks b → b.clocked ≡ false → GivesBack (flat_place f) b.body c
  pub unset : (g w : Signal) (b : ℕ) → Among f.signals g → Among (holders g) w → ¬ IsDriven f w.name b → ¬ IsRegister f w.name → ¬ IsInput f w.name →
      bit_at (c w.name) b ≡ 0

abbrev pub IsClocked : Flat → Name → ℕ → Type 0
IsClocked f x b =
    (k : Always) × Among f.blocks k × (k.clocked ≡ true) × (left : Lval) × Among (lefts k.body) left × DrivesFull (flat_place f) left x b

pub record Follows (f : Flat) (c d : Cycle) : Type 0 where
  pub driven : (k : Always) → Among f.blocks k → k.clocked ≡ true → (left : Lval) → Among (lefts k.body) left → (x : Name) (b : ℕ) →
      DrivesFull (flat_place f) left x b → bit_at (d x) b ≡ bit_at (run false (flat_place f) k.body c c x) b
  pub kept : (x : Name) (b : ℕ) → IsRegister f x → ¬ IsClocked f x b → bit_at (d x) b ≡ bit_at (c x) b

-- ---- runs

-- n cycles, each following the one before
pub record IsRun (f : Flat) (n : ℕ) (c : ℕ → Cycle) : Type 0 where
  pub cycles : (t : ℕ) → t < n → IsCycle f (c t)
  pub steps : (t : ℕ) → t + 1 < n → Follows f (c t) (c (t + 1))
