-- Which faults stand for a list of modules from its top.
use Rattle.std.specs.Prelude.{ℕ, ◌≡◌, ◌⊎◌, ◌<◌, Bool, true, false, List, [], ◌∷◌, ◌++◌, length, reverse, take, Option, Some, None, is_some, slice_get, codes, map, if◌then◌else◌}
use Rattle.std.specs.List.{flat_map}
use Rattle.vlog_tree.specs.declared.expr.Expr.{Expr}
use Rattle.vlog_tree.specs.declared.expr.Expr.TheVariants as e
use Rattle.vlog_tree.specs.declared.expr.Name.{Name as Read}
use Rattle.vlog_tree.specs.declared.module.Module.{Module}
use Rattle.vlog_tree.specs.declared.stmt.Edge.{Edge}
use Rattle.vlog_tree.specs.declared.stmt.Events.TheVariants as v
use Rattle.vlog_tree.specs.declared.stmt.Lval.{Lval}
use Rattle.vlog_tree.specs.declared.valuation.Entry.{Entry}
use Rattle.vlog_tree.specs.Valuation.{IsLength, entry_at}
use Rattle.vlog_tree_runs.specs.Places.{Name, Among, Place, pieces, total}
use Rattle.vlog_tree_runs.specs.Blocks.{is_parameter, lefts, left_names}
use Rattle.vlog_tree_runs.specs.Contents.{Param, params_in, is_open, Decl, decls_in, signals_in, port_names, assigns_in, Block, blocks_in, Inner, instances_in}
use Rattle.vlog_tree_runs.specs.Scopes.{Scope, scope_at, scope_from, place_of, Given, given_at, given_to, overriding, left_of, child, decl_at, module_at, signal_of, width_in}
use Rattle.elab_flat_laws.specs.Uses.{has_signal, is_declared}
use Rattle.elab_flat_faults.specs.declared.flattening.FlatFault.{FlatFault}
use Rattle.elab_flat_faults.specs.declared.flattening.FlatFault.TheVariants as f
use Rattle.elab_flat_faults.specs.Texts.{names_in, numbers_in, alone_in, compared_in, stores_in, arg_names, own_exprs, all_exprs, assigned_in, waited_in}
use Rattle.elab_flat_faults.specs.Declaring.{Repeats, IsDeclaredTwice, LacksDirection, IsUnlisted, MissesPorts, IsAssignable, open_params, Overshoots}
use Rattle.elab_flat_faults.specs.Constants.{at_rest, Taken, alone, stored, assigned_to, compared, BreaksConstants, BreaksLengths, IsInconstant, IsMissized, HasConstantNumbers, HasConstantSpans, AreSpansDefined, IsLeftFormed, IsOrdered, IsFromZero, BreaksBounds, BreaksRange, BreaksWords, InRange}
use Rattle.elab_flat_faults.specs.Clocks.{Reaches, IsTimed, IsBitInput}

-- where a text stands, as a name: the top's name at the top
abbrev pub path_name : Name → List Name → Name
path_name top [] = top
path_name top (x ∷ []) = x
path_name top (x ∷ y ∷ path) = x ++ codes "." ++ path_name top (y ∷ path)

-- the full names of something in a scope, of an instance, and of what an instance's module names
abbrev pub full : Scope → Name → Name
full s x = s.prefix ++ x

abbrev pub inside : Scope → Inner → Name → Name
inside s i x = s.prefix ++ i.name ++ codes "." ++ x

-- ---- unknown names

abbrev pub UsesUnknown : List Module → Scope → Name → Type 0
UsesUnknown ms s n =
    -- in an expression
    ((a : Expr) × Among (all_exprs s.module') a × (x : Name) × Among (names_in a) x × (is_declared (place_of s) x ≡ false) × (n ≡ full s x))
    -- assigned, or waited for
    ⊎ (((x : Name) × Among (assigned_in s.module' ++ waited_in s.module') x × (has_signal (place_of s).signals x ≡ false) × (n ≡ full s x))
    -- the module of an instance
    ⊎ ((i : Inner) × Among (instances_in s.module') i × ((module_at ms i.of_module ≡ None) × (n ≡ full s i.name))))

-- a port, or a parameter that can be overridden, that an instance's module doesn't have
abbrev pub GivesUnknown : List Module → Scope → Name → Type 0
GivesUnknown ms s n =
    (i : Inner) × Among (instances_in s.module') i × (m : Module) × (module_at ms i.of_module ≡ Some m)
    × (((x : Name) × Among (arg_names i.args) x × (Among (port_names m) x → ⊥) × (n ≡ inside s i x))
    ⊎ (((x : Name) × Among (arg_names i.overrides) x × (Among (open_params m) x → ⊥) × (n ≡ inside s i x))
    ⊎ (Overshoots (open_params m) i.overrides × (n ≡ full s i.name))))

-- ---- names that stand twice

abbrev pub OverridesTwice : Scope → Name → Type 0
OverridesTwice s n = (i : Inner) × Among (instances_in s.module') i × (x : Name) × Repeats (arg_names i.overrides) x × (n ≡ inside s i x)

-- ---- ports

abbrev pub BreaksPorts : List Module → Scope → Name → Type 0
BreaksPorts ms s n =
    ((x : Name) × (LacksDirection s.module' x ⊎ IsUnlisted s.module' x) × (n ≡ full s x))
    ⊎ ((i : Inner) × Among (instances_in s.module') i × (m : Module) × (module_at ms i.of_module ≡ Some m)
    × ((MissesPorts (port_names m) i.args × (n ≡ full s i.name))
    ⊎ (((x : Name) × Repeats (arg_names i.args) x × (n ≡ inside s i x))
    ⊎ ((d : Given) × Among (given_to (port_names m) i.args) d × (port : Decl) × (decl_at (signals_in m) d.name ≡ Some port) × (port.input ≡ false) × (port.output ≡ true)
    × (IsAssignable (place_of s) d.value → ⊥) × (n ≡ inside s i d.name)))))

-- ---- constants and lengths

-- parameter number k of a scope is read over those before it
abbrev pub before : Scope → ℕ → List Entry
before s k = take k s.params

abbrev pub is_before : Scope → ℕ → Name → Bool
is_before s k x = is_some (entry_at (before s k) x 0)

-- parameter number k
abbrev pub IsParam : Scope → ℕ → Param → Type 0
IsParam s k p = slice_get (params_in s.module') k ≡ Some p

-- a parameter's own value in its place
abbrev pub param_value : Scope → ℕ → Param → Taken
param_value s k p = stored (before s k) (width_in p.shape.range 0 (before s k)) p.value

-- the expressions of a scope's text in their places, connections apart
abbrev pub assigns_taken : Scope → List Taken
assigns_taken s = flat_map (λ a. assigned_to (place_of s) a ∷ map (alone (at_rest (place_of s))) (numbers_in a.left)) (assigns_in s.module')

abbrev pub block_taken : Scope → Block → List Taken
block_taken s k =
    map (assigned_to (place_of s)) (stores_in k.body) ++ map (alone (at_rest (place_of s))) (alone_in k.body)
    ++ flat_map (compared (at_rest (place_of s))) (compared_in k.body)

-- what is connected to a port: to an input in its length, and to an output as a left side
abbrev pub port_taken : Scope → Scope → Given → Option Decl → List Taken
port_taken s t d None = []
port_taken s t d (Some port) =
    if port.input then stored (at_rest (place_of s)) (signal_of t.params port).width d.value ∷ [] else map (alone (at_rest (place_of s))) (numbers_in (left_of d.value))

abbrev pub port_left : Given → Option Decl → List Lval
port_left d None = []
port_left d (Some port) = if port.input then [] else left_of d.value ∷ []

abbrev pub inner_taken : Scope → Inner → Option Scope → List Taken
inner_taken s i None = []
inner_taken s i (Some t) = flat_map (λ d. port_taken s t d (decl_at (signals_in t.module') d.name)) (given_to (port_names t.module') i.args)

abbrev pub inner_lefts : Inner → Option Scope → List Lval
inner_lefts i None = []
inner_lefts i (Some t) = flat_map (λ d. port_left d (decl_at (signals_in t.module') d.name)) (given_to (port_names t.module') i.args)

abbrev pub all_taken : List Module → Scope → List Taken
all_taken ms s =
    assigns_taken s ++ flat_map (block_taken s) (blocks_in s.module') ++ flat_map (λ i. inner_taken s i (child ms s i)) (instances_in s.module')

-- the left sides of equations, whose numbers are constant, and those of blocks
abbrev pub fixed_lefts : List Module → Scope → List Lval
fixed_lefts ms s = map (λ a. a.left) (assigns_in s.module') ++ flat_map (λ i. inner_lefts i (child ms s i)) (instances_in s.module')

abbrev pub block_lefts : Scope → List Lval
block_lefts s = flat_map (λ k. lefts k.body) (blocks_in s.module')

-- an override in the place of parameter number k of the instance's scope
pub record IsOverride (ms : List Module) (s : Scope) (i : Inner) (p : Param) (t : Taken) : Type 0 where
  pub inner : Among (instances_in s.module') i
  pub scope : Scope
  pub child_is : child ms s i ≡ Some scope
  pub number : ℕ
  pub declared : IsParam scope number p
  pub can : is_open scope.module' p ≡ true
  pub value : Expr
  pub given : given_at (overriding scope.module' i.overrides) p.name ≡ Some value
  pub taken_is : t ≡ stored s.params (width_in p.shape.range 0 (before scope number)) value

abbrev pub AreAllDeclared : Place → Expr → Type 0
AreAllDeclared p a = (x : Name) → Among (names_in a) x → is_declared p x ≡ true

abbrev pub BreaksConstant : List Module → Name → Scope → Name → Type 0
BreaksConstant ms path s n =
    -- the ranges of a declaration
    ((d : Decl) × Among (decls_in s.module') d × (n ≡ full s d.name)
    × (InRange (BreaksBounds IsOrdered (is_parameter (place_of s)) s.params) d.shape.range ⊎ InRange (BreaksBounds IsFromZero (is_parameter (place_of s)) s.params) d.words))
    -- the range and the value of a parameter
    ⊎ (((k : ℕ) × (p : Param) × IsParam s k p × (n ≡ full s p.name)
    × (InRange (BreaksBounds IsOrdered (is_before s k) (before s k)) p.shape.range ⊎ IsInconstant (is_before s k) (before s k) (param_value s k p)))
    -- an override
    ⊎ (((i : Inner) × (p : Param) × (t : Taken) × IsOverride ms s i p t × (n ≡ inside s i p.name) × IsInconstant (is_parameter (place_of s)) s.params t)
    -- an expression
    ⊎ (((t : Taken) × Among (all_taken ms s) t × BreaksConstants (is_parameter (place_of s)) (at_rest (place_of s)) t × (n ≡ path))
    -- a left side
    ⊎ ((left : Lval)
    × ((Among (fixed_lefts ms s) left × (HasConstantNumbers (is_parameter (place_of s)) left → ⊥))
    ⊎ (Among (block_lefts s) left × (HasConstantSpans (is_parameter (place_of s)) left → ⊥))) × (n ≡ path)))))

abbrev pub BreaksWidth : List Module → Name → Scope → Name → Type 0
BreaksWidth ms path s n =
    -- the ranges of a declaration
    ((d : Decl) × Among (decls_in s.module') d × (n ≡ full s d.name)
    × (InRange (BreaksRange (is_parameter (place_of s)) s.params) d.shape.range ⊎ InRange (BreaksWords (is_parameter (place_of s)) s.params) d.words))
    -- the range and the value of a parameter
    ⊎ (((k : ℕ) × (p : Param) × IsParam s k p × (n ≡ full s p.name)
    × (InRange (BreaksRange (is_before s k) (before s k)) p.shape.range ⊎ IsMissized (is_before s k) (before s k) (param_value s k p)))
    -- an override
    ⊎ (((i : Inner) × (p : Param) × (t : Taken) × IsOverride ms s i p t × (n ≡ inside s i p.name) × IsMissized (is_parameter (place_of s)) s.params t)
    -- an expression of declared names
    ⊎ (((t : Taken) × Among (all_taken ms s) t × AreAllDeclared (place_of s) t.value × BreaksLengths (is_parameter (place_of s)) (at_rest (place_of s)) t × (n ≡ path))
    -- a left side of declared names
    ⊎ ((left : Lval) × Among (fixed_lefts ms s ++ block_lefts s) left × ((x : Name) → Among (left_names left) x → has_signal (place_of s).signals x ≡ true)
    × HasConstantSpans (is_parameter (place_of s)) left × AreSpansDefined (at_rest (place_of s)) left
    × ((IsLeftFormed (at_rest (place_of s)) left → ⊥) ⊎ (IsLength (total (pieces (place_of s) (λ x. 0) left)) → ⊥)) × (n ≡ path)))))

-- ---- clocks

-- a clocked block of a scope
pub record IsClockedBlock (s : Scope) (k : Block) (edges : List Edge) : Type 0 where
  pub block : Among (blocks_in s.module') k
  pub events : k.events ≡ v.Edges edges

-- y is the clock of some block
abbrev pub IsClockOf : List Module → Name → Name → Type 0
IsClockOf ms top y =
    (path : List Name) × (s : Scope) × (scope_at ms top path ≡ Some s) × (k : Block) × (edges : List Edge) × IsClockedBlock s k edges × IsTimed ms top (reverse path) edges k.body y

-- a connection of a name alone to an input of one bit of a scope passes the name on
pub record PassesOn (t : Scope) (d : Given) : Type 0 where
  pub name : Read
  pub alone : d.value ≡ e.Name name
  pub input : IsBitInput t d.name

-- an expression of a scope reads a clock by this name
abbrev pub ReadsClock : List Module → Name → List Name → Expr → Name → Type 0
ReadsClock ms top path a x = Among (names_in a) x × (y : Name) × Reaches ms top (reverse path) x y × IsClockOf ms top y

abbrev pub BreaksClocks : List Module → Name → List Name → Scope → Name → Type 0
BreaksClocks ms top path s n =
    -- a block that no input of the top clocks
    ((k : Block) × (edges : List Edge) × IsClockedBlock s k edges × ((y : Name) → IsTimed ms top (reverse path) edges k.body y → ⊥)
    × (edge : Edge) × Among edges edge × (n ≡ full s edge.name))
    -- one of two clocks
    ⊎ (((k : Block) × (edges : List Edge) × (y z : Name) × IsClockedBlock s k edges × IsTimed ms top (reverse path) edges k.body y × IsClockOf ms top z × (y ≡ z → ⊥) × (n ≡ y))
    -- a clock that is read in an expression outside the instances
    ⊎ (((a : Expr) × Among (own_exprs s.module') a × (x : Name) × ReadsClock ms top path a x × (n ≡ full s x))
    -- or in a connection that doesn't pass it on
    ⊎ ((i : Inner) × Among (instances_in s.module') i × (t : Scope) × (child ms s i ≡ Some t) × (d : Given) × Among (given_to (port_names t.module') i.args) d
    × (PassesOn t d → ⊥) × (x : Name) × ReadsClock ms top path d.value x × (n ≡ full s x))))

-- ---- all together

-- a scope below a scope has its module
abbrev pub IsRecursive : List Module → Name → List Name → Type 0
IsRecursive ms top path =
    (s : Scope) × (scope_at ms top path ≡ Some s)
    × (x : Name) × (rest : List Name) × (t : Scope) × (scope_from ms (Some s) (x ∷ rest) ≡ Some t) × (t.module'.name ≡ s.module'.name)

abbrev pub AreDistinct : List (List Name) → Type 0
AreDistinct [] = Unit {0}
AreDistinct (p ∷ ps) = (Among ps p → ⊥) × AreDistinct ps

-- more than n paths lead to scopes
abbrev pub HasMore : List Module → Name → ℕ → Type 0
HasMore ms top n =
    (paths : List (List Name)) × AreDistinct paths × (n < length paths) × ((p : List Name) → Among paths p → (s : Scope) × (scope_at ms top p ≡ Some s))

-- what stands at some scope
abbrev pub AtSome : List Module → Name → (List Name → Scope → Type 0) → Type 0
AtSome ms top P = (path : List Name) × (s : Scope) × (scope_at ms top path ≡ Some s) × P path s

-- a fault stands at a scope, which has this name where an expression is at fault
abbrev pub StandsAt : List Module → Name → Scope → FlatFault → Type 0
StandsAt ms path s (f.Unknown n) = UsesUnknown ms s n ⊎ GivesUnknown ms s n
StandsAt ms path s (f.Twice n) = ((x : Name) × IsDeclaredTwice s x × (n ≡ full s x)) ⊎ OverridesTwice s n
StandsAt ms path s (f.Port n) = BreaksPorts ms s n
StandsAt ms path s (f.Constant n) = BreaksConstant ms path s n
StandsAt ms path s (f.Width n) = BreaksWidth ms path s n
StandsAt ms path s f.NoTop = ⊥
StandsAt ms path s (f.Recursion n) = ⊥
StandsAt ms path s f.Instances = ⊥
StandsAt ms path s (f.Clock n) = ⊥
StandsAt ms path s f.Memory = ⊥

abbrev pub AtSomeScope : List Module → Name → FlatFault → Type 0
AtSomeScope ms top fault = AtSome ms top (λ path s. StandsAt ms (path_name top path) s fault)

-- a fault stands for a list of modules
abbrev pub Stands : List Module → Name → FlatFault → Type 0
Stands ms top f.NoTop = module_at ms top ≡ None
Stands ms top (f.Unknown n) = AtSomeScope ms top (f.Unknown n)
Stands ms top (f.Twice n) = Repeats (map (λ m. m.name) ms) n ⊎ AtSomeScope ms top (f.Twice n)
Stands ms top (f.Port n) = AtSomeScope ms top (f.Port n)
Stands ms top (f.Recursion n) = (path : List Name) × IsRecursive ms top path × (n ≡ path_name top path)
Stands ms top f.Instances = ((path : List Name) → IsRecursive ms top path → ⊥) × HasMore ms top 4096
Stands ms top (f.Constant n) = AtSomeScope ms top (f.Constant n)
Stands ms top (f.Width n) = AtSomeScope ms top (f.Width n)
Stands ms top (f.Clock n) = AtSome ms top (λ path s. BreaksClocks ms top path s n)
Stands ms top f.Memory = ⊥

-- a refusal's fault stands, want of memory apart
abbrev pub Refuses : (FlatFault → Type 0) → FlatFault → Type 0
Refuses IsFault f.Memory = Unit {0}
Refuses IsFault fault = IsFault fault
