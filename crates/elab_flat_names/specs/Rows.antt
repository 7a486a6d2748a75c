-- The names that a scope declares, and how its text breaks the rules on names and ports.
use Rattle.std.specs.Prelude.{◌≡◌, ◌⊎◌, nat_eq, true, false, List, [], ◌∷◌, ◌++◌, Some, None, map, filter, if◌then◌else◌}
use Rattle.std.specs.List.{flat_map}
use Rattle.vlog_tree.specs.declared.expr.Expr.{Expr}
use Rattle.vlog_tree.specs.declared.item.Connection.{Connection}
use Rattle.vlog_tree.specs.declared.module.Module.{Module}
use Rattle.vlog_tree.specs.declared.valuation.Entry.{Entry}
use Rattle.vlog_tree_runs.specs.Places.{Name, Among}
use Rattle.vlog_tree_runs.specs.Contents.{Decl, decls_in, ports_decls, signals_in, port_names, params_in, is_among, Inner}
use Rattle.vlog_tree_runs.specs.Scopes.{Scope, Given, given_to, place_of, decl_at, module_at}
use Rattle.elab_flat_faults.specs.Declaring.{Repeats, is_port, SameShape, IsDeclaredAgain, words_of, MissesPorts, IsAssignable, open_params, Overshoots}
use Rattle.elab_flat_laws.specs.Uses.{has_signal, is_declared}
use Rattle.elab_flat_faults.specs.Texts.{all_exprs, names_in, arg_names, assigned_in, waited_in}
use Rattle.elab_flat_faults.specs.declared.flattening.FlatFault.{FlatFault}
use Rattle.elab_flat_faults.specs.declared.flattening.FlatFault.TheVariants as f
use Rattle.elab_flat_params.specs.declared.unfit.BadSignal.{BadSignal}
use Rattle.elab_flat_params.specs.declared.unfit.BadSignal.TheVariants as g
use Rattle.elab_flat_params.specs.declared.unfit.BadWords.{BadWords}
use Rattle.elab_flat_params.specs.declared.unfit.BadWords.TheVariants as w
use Rattle.elab_flat_instances.specs.Unfolding.{unfit_fault, range_fault, StandsIn}
use Rattle.elab_flat_scopes.specs.Borrowed.{param_name}
use Rattle.elab_flat_scopes.specs.Finding.{decl_name}
use Rattle.elab_flat_names.specs.Assignable.{is_assignable}
use Rattle.elab_flat_names.specs.Searching.{IsAbsent}

-- ---- names

-- the names that are read in the present row
abbrev pub entry_names : List Entry → List Name
entry_names [] = []
entry_names (e ∷ es) = if nat_eq e.offset 0 then e.name ∷ entry_names es else entry_names es

-- the parameters and the signals of a scope
abbrev pub scope_names : Scope → List Name
scope_names s = entry_names s.params ++ map decl_name (signals_in s.module')

-- the declarations that give a direction
abbrev pub directed_names : Module → List Name
directed_names m = map decl_name (filter is_port (decls_in m))

-- a name in an expression of a text
abbrev pub IsRead : Module → Name → Type 0
IsRead m x = (a : Expr) × Among (all_exprs m) a × Among (names_in a) x

-- a name is read that isn't declared, or assigned or waited for where it is no signal
abbrev pub IsUsedUnknown : Scope → Name → Type 0
IsUsedUnknown s x =
    (IsRead s.module' x × (is_declared (place_of s) x ≡ false))
    ⊎ (Among (assigned_in s.module' ++ waited_in s.module') x × (has_signal (place_of s).signals x ≡ false))

-- ---- signals

-- a declaration says of its ranges what one of the text does
pub record IsDeclaredAs (m : Module) (d : Decl) : Type 0 where
  pub from : Decl
  pub among : Among (decls_in m) from
  pub name : from.name ≡ d.name
  pub shape : from.shape ≡ d.shape
  pub words : from.words ≡ d.words

abbrev pub AreDeclaredAs : Module → List Decl → Type 0
AreDeclaredAs m ds = (d : Decl) → Among ds d → IsDeclaredAs m d

-- a fault stands at a scope, whatever the modules and its name
abbrev pub StandsAlone : Scope → FlatFault → Type 0
StandsAlone s fault = (ms : List Module) → StandsIn ms s fault

-- the fault of a range of words, and of a declaration
abbrev pub words_fault : Name → BadWords → FlatFault
words_fault n (w.First cause) = unfit_fault n cause
words_fault n (w.Last cause) = unfit_fault n cause
words_fault n w.Order = f.Constant n
words_fault n w.Many = f.Width n

abbrev pub signal_fault : Name → BadSignal → FlatFault
signal_fault n (g.Bits cause) = range_fault n cause
signal_fault n (g.Words cause) = words_fault n cause
signal_fault n g.Memory = f.Memory

-- ---- signals that are declared again

-- the declarations of names that stand before them, or among those that are done
abbrev pub again : List Name → List Decl → List Decl
again done [] = []
again done (d ∷ ds) = if is_among done d.name then d ∷ again done ds else again (d.name ∷ done) ds

-- the names that the header declares itself
abbrev pub headed_names : Module → List Name
headed_names m = map decl_name (ports_decls m.ports)

-- a second declaration may go with the first one: one is a port of the body, the other a `wire` or `reg`
pub record MayGoWith (headed : List Name) (first second : Decl) : Type 0 where
  pub in_body : Among headed second.name → ⊥
  pub one_port : is_port first ≡ is_port second → ⊥
  pub no_words : (first.words ≡ None) × (second.words ≡ None)

-- it does, where both have one shape
abbrev pub GoesWith : Module → List Entry → Decl → Decl → Type 0
GoesWith m v first second = MayGoWith (headed_names m) first second × SameShape v first second

-- a declaration doesn't go with the first one of its name
abbrev pub IsStray : Module → List Entry → List Decl → Decl → Type 0
IsStray m v ds e = (d : Decl) × (decl_at ds e.name ≡ Some d) × (GoesWith m v d e → ⊥)

abbrev pub IsMisfit : Module → List Entry → List Decl → List Decl → Name → Type 0
IsMisfit m v ds es x = (e : Decl) × Among es e × (e.name ≡ x) × IsStray m v ds e

-- a signal is declared more than once in another way
abbrev pub IsWronglyAgain : Module → List Entry → Name → Type 0
IsWronglyAgain m v x = Repeats (map decl_name (decls_in m)) x × (IsDeclaredAgain m v x → ⊥)

-- a parameter has the name of a memory's word
abbrev pub IsWordOf : Scope → Name → Type 0
IsWordOf s x = Among (map param_name (params_in s.module')) x × Among (flat_map words_of (place_of s).signals) x

-- ---- instances

abbrev pub connection_name : Connection → Name
connection_name n = n.port

-- a fault stands at a scope, whatever modules there are beside this one of an instance in it
abbrev pub StandsInside : Scope → Inner → Module → FlatFault → Type 0
StandsInside s i m fault = (ms : List Module) → module_at ms i.of_module ≡ Some m → StandsIn ms s fault

-- the overrides of an instance name parameters of its module that can be overridden, each once
pub record HasFitOverrides (i : Inner) (m : Module) : Type 0 where
  pub named : (x : Name) → IsAbsent (arg_names i.overrides) (open_params m) x → ⊥
  pub few : Overshoots (open_params m) i.overrides → ⊥
  pub once : (x : Name) → Repeats (arg_names i.overrides) x → ⊥

-- its connections name ports of its module, each once, or are as many as they
pub record HasFitConnections (i : Inner) (m : Module) : Type 0 where
  pub named : (x : Name) → IsAbsent (arg_names i.args) (port_names m) x → ⊥
  pub all_ports : MissesPorts (port_names m) i.args → ⊥
  pub once : (x : Name) → Repeats (arg_names i.args) x → ⊥

-- an output is connected to an expression that can't be assigned
abbrev pub IsBadGiven : List Decl → List Name → Given → Type 0
IsBadGiven ports signals d = (port : Decl) × (decl_at ports d.name ≡ Some port) × (port.input ≡ false) × (port.output ≡ true) × (is_assignable signals d.value ≡ false)

abbrev pub IsBadOutput : List Given → List Decl → List Name → Name → Type 0
IsBadOutput ds ports signals x = (d : Given) × Among ds d × (d.name ≡ x) × IsBadGiven ports signals d

-- its outputs are connected to expressions that can be assigned
abbrev pub HasFitOutputs : Scope → Inner → Module → Type 0
HasFitOutputs s i m =
    (d : Given) → Among (given_to (port_names m) i.args) d → (port : Decl) → decl_at (signals_in m) d.name ≡ Some port → port.input ≡ false → port.output ≡ true →
    (IsAssignable (place_of s) d.value → ⊥) → ⊥

-- an instance has a module, which its overrides and its connections fit
pub record FitsInner (ms : List Module) (s : Scope) (i : Inner) : Type 0 where
  pub module' : Module
  pub found : module_at ms i.of_module ≡ Some module'
  pub overrides : HasFitOverrides i module'
  pub connections : HasFitConnections i module'
  pub outputs : HasFitOutputs s i module'

-- ---- all together

-- a fault of names or ports
abbrev pub IsOfNames : FlatFault → Type 0
IsOfNames (f.Unknown n) = Unit {0}
IsOfNames (f.Twice n) = Unit {0}
IsOfNames (f.Port n) = Unit {0}
IsOfNames f.NoTop = ⊥
IsOfNames (f.Recursion n) = ⊥
IsOfNames f.Instances = ⊥
IsOfNames (f.Constant n) = ⊥
IsOfNames (f.Width n) = ⊥
IsOfNames (f.Clock n) = ⊥
IsOfNames f.Memory = ⊥
