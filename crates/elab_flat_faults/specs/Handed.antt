-- What a module without instances has of the top's header, and which clocks it has (IEEE 1364-2005, sections 9.7.4 and 12.3).
use Rattle.std.specs.Prelude.{◌≡◌, ◌↔◌, ◌+◌, ◌≤◌, ◌^◌, Bool, List, [], ◌∷◌, ◌++◌, Option, Some, None, map, reverse}
use Rattle.std.specs.List.{flat_map}
use Rattle.vlog_tree.specs.declared.module.Module.{Module}
use Rattle.vlog_tree.specs.declared.stmt.Edge.{Edge}
use Rattle.vlog_tree_runs.specs.declared.flat.Flat.{Flat}
use Rattle.vlog_tree_runs.specs.declared.flat.Signal.{Signal}
use Rattle.vlog_tree_runs.specs.declared.flat.TopPort.{TopPort}
use Rattle.vlog_tree_runs.specs.Places.{Name, Among}
use Rattle.vlog_tree_runs.specs.Contents.{Decl, decls_in, declares, port_names, Block, instances_in}
use Rattle.vlog_tree_runs.specs.Scopes.{Scope, scope_at, module_at}
use Rattle.elab_flat_laws.specs.Flattened.{AreScopes, CanFlatten, IsFlatOf}
use Rattle.elab_flat_faults.specs.Clocks.{Reaches, WaitsFor, Reset}
use Rattle.elab_flat_faults.specs.FlatStands.{AreDistinct, IsClockedBlock, IsClockOf}

-- ---- ports

-- a port as its declarations have it
abbrev pub top_port : List Decl → Name → TopPort
top_port ds x = record { name = x; output = declares ds (λ d. d.output) x }

-- the ports are those of the top's header, in its order
abbrev pub HasTopPorts : List Module → Name → Flat → Type 0
HasTopPorts ms top f = (m : Module) → module_at ms top ≡ Some m → f.ports ≡ map (top_port (decls_in m)) (port_names m)

-- ---- clocks

-- the input y of the top is the asynchronous reset of some block, and active at this level
abbrev pub IsResetOf : List Module → Name → Name → Bool → Type 0
IsResetOf ms top y high =
    (path : List Name) × (s : Scope) × (scope_at ms top path ≡ Some s) × (k : Block) × (edges : List Edge) × IsClockedBlock s k edges
    × (clock : Name) × (r : Reset) × WaitsFor edges k.body clock (Some r) × Reaches ms top (reverse path) r.name y × (r.high ≡ high)

-- the clock, where a block waits for one, and the asynchronous resets
pub record HasClocks (ms : List Module) (top : Name) (f : Flat) : Type 0 where
  pub clock : (y : Name) → (f.clock ≡ Some y) ↔ IsClockOf ms top y
  pub asyncs : (y : Name) (high : Bool) → Among f.asyncs (record { name = y; high = high }) ↔ IsResetOf ms top y high

-- ---- signals

-- no signal is a memory
abbrev pub HasNoMemories : Flat → Type 0
HasNoMemories f = (g : Signal) → Among f.signals g → g.depth ≡ 0

-- ---- texts

-- the paths that are one instance longer
abbrev pub longer : List Name → Option Scope → List (List Name)
longer path None = []
longer path (Some s) = map (λ i. path ++ i.name ∷ []) (instances_in s.module')

abbrev pub below : List Module → Name → List Name → List (List Name)
below ms top path = longer path (scope_at ms top path)

-- the top's path and then, path after path, those one instance longer
abbrev pub AreInOrder : List Module → Name → List (List Name) → Type 0
AreInOrder ms top paths = paths ≡ [] ∷ flat_map (below ms top) paths

-- each scope of a list stands at a path of its own, and the paths in their order
pub record HaveOwnPaths (ms : List Module) (top : Name) (ss : List Scope) : Type 0 where
  pub paths : List (List Name)
  pub lead : map Some ss ≡ map (scope_at ms top) paths
  pub distinct : AreDistinct paths
  pub in_order : AreInOrder ms top paths

-- the texts of the instances one after another, in the order of their paths, each instance told at a path of its own
pub record IsFlattened (ms : List Module) (top : Name) (f : Flat) : Type 0 where
  pub scopes : List Scope
  pub all : AreScopes ms top scopes
  pub own : HaveOwnPaths ms top scopes
  pub texts : IsFlatOf ms top scopes f
  pub usable : CanFlatten ms scopes

-- ---- bits

-- the bits of each signal have numbers below 2 ^ 64
abbrev pub AreNumbered : Flat → Type 0
AreNumbered f = (g : Signal) → Among f.signals g → g.low + g.width ≤ 2 ^ 64
