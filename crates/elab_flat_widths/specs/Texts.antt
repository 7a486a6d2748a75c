-- What is connected to instances keeps the rules on constants and lengths, or breaks one.
use Rattle.std.specs.Prelude.{ℕ, ◌≡◌, ◌⊎◌, List, Option, Some, None, if◌then◌else◌}
use Rattle.vlog_tree.specs.declared.expr.Expr.{Expr}
use Rattle.vlog_tree.specs.declared.module.Module.{Module}
use Rattle.vlog_tree_runs.specs.Places.{Name, Among, Place}
use Rattle.vlog_tree_runs.specs.Blocks.{is_parameter}
use Rattle.vlog_tree_runs.specs.Contents.{Decl, signals_in, port_names, Inner, instances_in}
use Rattle.vlog_tree_runs.specs.Scopes.{Scope, place_of, Given, given_to, left_of, child, decl_at, signal_of, instance_at}
use Rattle.elab_flat_faults.specs.Constants.{at_rest, stored}
use Rattle.elab_flat_faults.specs.declared.flattening.FlatFault.{FlatFault}
use Rattle.elab_flat_faults.specs.FlatStands.{StandsAt}
use Rattle.elab_flat_instances.specs.Unfolding.{StandsIn}
use Rattle.elab_flat_widths.specs.declared.violation.Violation.{Violation}
use Rattle.elab_flat_widths.specs.declared.side.Side.TheVariants as d
use Rattle.elab_flat_widths.specs.Ranges.{fault_of, StandsAlone}
use Rattle.elab_flat_widths.specs.Taken.{IsSound, Breaks}
use Rattle.elab_flat_widths.specs.Stores.{IsSoundLeft, BreaksLeft}

-- ---- connections

-- an input takes an expression at its length, and an output is assigned to one
abbrev pub taking : Scope → Decl → Option ℕ
taking t port = if port.input then Some (signal_of t.params port).width else None

abbrev pub IsSoundGiven : Place → Expr → Option ℕ → Type 0
IsSoundGiven p a (Some n) = IsSound (is_parameter p) (at_rest p) (stored (at_rest p) n a)
IsSoundGiven p a None = IsSoundLeft d.Continuous p (left_of a)

abbrev pub BreaksGiven : Place → Expr → Option ℕ → Violation → Type 0
BreaksGiven p a (Some n) w = Breaks (is_parameter p) (at_rest p) (stored (at_rest p) n a) w
BreaksGiven p a None w = BreaksLeft d.Continuous p (left_of a) w

-- what is connected to a port that is declared
abbrev pub IsSoundConnection : Place → Scope → Given → Option Decl → Type 0
IsSoundConnection p t g None = Unit {0}
IsSoundConnection p t g (Some port) = IsSoundGiven p g.value (taking t port)

abbrev pub BreaksConnection : Place → Scope → Given → Option Decl → Violation → Type 0
BreaksConnection p t g None w = ⊥
BreaksConnection p t g (Some port) w = BreaksGiven p g.value (taking t port) w

abbrev pub AreSoundConnections : Place → Scope → Inner → Type 0
AreSoundConnections p t i = (g : Given) → Among (given_to (port_names t.module') i.args) g → IsSoundConnection p t g (decl_at (signals_in t.module') g.name)

abbrev pub SomeConnectionBreaks : Place → Scope → Inner → Violation → Type 0
SomeConnectionBreaks p t i w = (g : Given) × Among (given_to (port_names t.module') i.args) g × BreaksConnection p t g (decl_at (signals_in t.module') g.name) w

-- ---- faults of connections

-- the fault of a rule that is broken in a scope of this name, or a fault of an instance's scope
abbrev pub IsConnectionFault : Name → Scope → (Violation → Type 0) → FlatFault → Type 0
IsConnectionFault path t IsViolation fault = ((w : Violation) × IsViolation w × (fault ≡ fault_of path w)) ⊎ StandsAlone t fault

-- what is connected to the ports of an instance breaks a rule, or a range of a port does
abbrev pub IsInnerFault : List Module → Name → Scope → Inner → FlatFault → Type 0
IsInnerFault ms path s i fault = (t : Scope) × (child ms s i ≡ Some t) × IsConnectionFault path t (SomeConnectionBreaks (place_of s) t i) fault

-- what is connected to the ports of some instance of a scope is at fault
abbrev pub IsSomeInnerFault : List Module → Name → Scope → FlatFault → Type 0
IsSomeInnerFault ms path s fault = (i : Inner) × Among (instances_in s.module') i × IsInnerFault ms path s i fault

-- what is connected to an instance of a scope keeps the rules
abbrev pub HasSoundConnections : List Module → Scope → Inner → Type 0
HasSoundConnections ms s i = (t : Scope) → child ms s i ≡ Some t → AreSoundConnections (place_of s) t i

-- a fault stands at a scope of this name, or at an instance in it that its name finds
abbrev pub StandsAround : List Module → Name → Scope → FlatFault → Type 0
StandsAround ms path s fault =
    StandsAt ms path s fault ⊎ ((i : Inner) × (instance_at (instances_in s.module') i.name ≡ Some i) × (t : Scope) × (child ms s i ≡ Some t) × StandsIn ms t fault)
