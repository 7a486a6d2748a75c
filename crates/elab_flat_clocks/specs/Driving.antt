-- What the blocks with edges of scopes wait for, in inputs of the top (IEEE 1364-2005, section 9.7.4; IEEE 1364.1-2002, section 5.2.2).
use Rattle.std.specs.Prelude.{◌≡◌, ◌↔◌, Bool, List, [], Option, Some, None, map, reverse}
use Rattle.std.specs.List.{flat_map}
use Rattle.std.specs.Option.{option_map}
use Rattle.vlog_tree.specs.declared.module.Module.{Module}
use Rattle.vlog_tree.specs.declared.stmt.Edge.{Edge}
use Rattle.vlog_tree.specs.declared.stmt.Events.TheVariants as v
use Rattle.vlog_tree.specs.declared.stmt.Stmt.{Stmt}
use Rattle.vlog_tree_runs.specs.Places.{Name, Among}
use Rattle.vlog_tree_runs.specs.Contents.{Block, blocks_in}
use Rattle.vlog_tree_runs.specs.Scopes.{Scope, scope_at}
use Rattle.elab_flat_faults.specs.declared.flattening.FlatFault.{FlatFault}
use Rattle.elab_flat_faults.specs.declared.flattening.FlatFault.TheVariants as f
use Rattle.elab_flat_faults.specs.Clocks.{Reaches, Reset, WaitsFor, IsTimed}
use Rattle.elab_flat_faults.specs.FlatStands.{full, Stands}
use Rattle.elab_flat_clocks.specs.declared.timing.Timing.{Timing}
use Rattle.elab_flat_clocks.specs.Timings.{reset_meant}
use Rattle.elab_flat_clocks.specs.Tables.{Link, input_at, IsTable}
use Rattle.elab_flat_clocks.specs.Tabled.{AreTables}

-- a clock and an asynchronous reset
pub record Timed : Type 0 where
  pub clock : Name
  pub reset : Option Reset

abbrev pub timed_meant : Timing → Timed
timed_meant t = record { clock = t.clock.now; reset = option_map reset_meant t.reset }

-- ---- by a table

abbrev pub at_level : Bool → Name → Reset
at_level high y = record { name = y; high = high }

abbrev pub reset_reached : List Link → Reset → Option Reset
reset_reached t r = option_map (at_level r.high) (input_at t r.name)

abbrev pub resets_reached : List Link → Option Reset → Option (Option Reset)
resets_reached t None = Some None
resets_reached t (Some r) = option_map Some (reset_reached t r)

abbrev pub timed_by : Option Name → Option (Option Reset) → Option Timed
timed_by None r = None
timed_by (Some y) None = None
timed_by (Some y) (Some r) = Some (record { clock = y; reset = r })

-- the inputs of the top that a clock and a reset are
abbrev pub timed_reached : List Link → Timed → Option Timed
timed_reached t u = timed_by (input_at t u.clock) (resets_reached t u.reset)

-- ---- of a block

-- the reset is this input of the top
abbrev pub ReachesAs : List Module → Name → List Name → Option Reset → Option Reset → Type 0
ReachesAs ms top back None o = o ≡ None
ReachesAs ms top back (Some r) o = (y : Name) × Reaches ms top back r.name y × (o ≡ Some (at_level r.high y))

-- the clock and the reset that a block with edges waits for are these inputs of the top
pub record IsDriven (ms : List Module) (top : Name) (back : List Name) (edges : List Edge) (body : Stmt) (u : Timed) : Type 0 where
  pub clock : Name
  pub reset : Option Reset
  pub waits : WaitsFor edges body clock reset
  pub reaches : Reaches ms top back clock u.clock
  pub resets : ReachesAs ms top back reset u.reset

abbrev pub IsDrivenBy : List Link → List Edge → Stmt → Option Timed → Type 0
IsDrivenBy t edges body o = (ms : List Module) (top : Name) (back : List Name) → IsTable ms top back t → (u : Timed) → IsDriven ms top back edges body u ↔ (o ≡ Some u)

-- ---- of the blocks of scopes

-- a block of the scope at a path
pub record Site : Type 0 where
  pub path : List Name
  pub block : Block

abbrev pub site : List Name → Block → Site
site path k = record { path = path; block = k }

abbrev pub sites_in : List Name → Option Scope → List Site
sites_in path None = []
sites_in path (Some s) = map (site path) (blocks_in s.module')

abbrev pub sites_at : List Module → Name → List Name → List Site
sites_at ms top path = sites_in path (scope_at ms top path)

abbrev pub IsDrivenSite : List Module → Name → Site → Timed → Type 0
IsDrivenSite ms top z u = (edges : List Edge) × (z.block.events ≡ v.Edges edges) × IsDriven ms top (reverse z.path) edges z.block.body u

-- these are what the blocks with edges wait for, and each of them waits for something
pub record AreTimings (ms : List Module) (top : Name) (zs : List Site) (us : List Timed) : Type 0 where
  pub waited : (u : Timed) → Among us u → (z : Site) × Among zs z × IsDrivenSite ms top z u
  pub whole : (u : Timed) (z : Site) → Among zs z → IsDrivenSite ms top z u → Among us u
  pub driven : (z : Site) (edges : List Edge) (edge : Edge) → Among zs z → z.block.events ≡ v.Edges edges → Among edges edge →
      (u : Timed) × IsDriven ms top (reverse z.path) edges z.block.body u

-- those of the blocks of one text, by the table of a scope
abbrev pub AreTimingsBy : List Link → List Block → List Timed → Type 0
AreTimingsBy t ks us = (ms : List Module) (top : Name) (path : List Name) → IsTable ms top (reverse path) t → AreTimings ms top (map (site path) ks) us

-- those of all scopes
abbrev pub AreTimingsOf : List Scope → List (List Link) → List Timed → Type 0
AreTimingsOf ss ts us =
    (ms : List Module) (top : Name) (paths : List (List Name)) → map Some ss ≡ map (scope_at ms top) paths → AreTables ms top paths ts →
    AreTimings ms top (flat_map (sites_at ms top) paths) us

-- ---- faults

-- no input of the top clocks a block
abbrev pub IsUntimed : List Link → List Edge → Stmt → Type 0
IsUntimed t edges body = (ms : List Module) (top : Name) (back : List Name) → IsTable ms top back t → (y : Name) → IsTimed ms top back edges body y → ⊥

abbrev pub BreaksTiming : Scope → List Link → Block → FlatFault → Type 0
BreaksTiming s t k (f.Clock n) = (edges : List Edge) × (k.events ≡ v.Edges edges) × IsUntimed t edges k.body × (edge : Edge) × Among edges edge × (n ≡ full s edge.name)
BreaksTiming s t k fault = ⊥

abbrev pub BreaksTimings : Scope → List Link → FlatFault → Type 0
BreaksTimings s t fault = (k : Block) × Among (blocks_in s.module') k × BreaksTiming s t k fault

-- a fault stands, by the tables of the scopes
abbrev pub StandsBy : List Scope → List (List Link) → FlatFault → Type 0
StandsBy ss ts fault =
    (ms : List Module) (top : Name) (paths : List (List Name)) → map Some ss ≡ map (scope_at ms top) paths → AreTables ms top paths ts → Stands ms top fault
