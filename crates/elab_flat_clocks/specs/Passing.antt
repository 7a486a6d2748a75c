-- Connections that pass a name on to an input of one bit, and the expressions of those that don't (IEEE 1364-2005, section 12.3).
use Rattle.std.specs.Prelude.{◌≡◌, ◌↔◌, Bool, true, false, ◌&&◌, List, [], ◌∷◌, ◌++◌, Option, Some, None, map, if◌then◌else◌}
use Rattle.std.specs.Borrow.{Bor}
use Rattle.std.specs.List.{flat_map}
use Rattle.std.proofs.Common.{Vec, Global}
use Rattle.vlog_tree.specs.declared.expr.Expr.{Expr}
use Rattle.vlog_tree.specs.declared.expr.Expr.TheVariants as e
use Rattle.vlog_tree.specs.declared.module.Module.{Module}
use Rattle.vlog_tree.specs.declared.valuation.Entry.{Entry}
use Rattle.vlog_tree_runs.specs.Places.{Among}
use Rattle.vlog_tree_runs.specs.Contents.{Decl, signals_in, port_names, Inner, instances_in}
use Rattle.vlog_tree_runs.specs.Scopes.{Scope, Given, given_to, child, decl_at}
use Rattle.elab_flat_faults.specs.declared.flattening.FlatFault.{FlatFault}
use Rattle.elab_flat_faults.specs.FlatStands.{PassesOn}
use Rattle.elab_flat_names.specs.Rows.{StandsAlone}
use Rattle.elab_flat_names.specs.Exprs.{expr_meant}
use Rattle.elab_flat_clocks.specs.Tables.{is_bit_input}

-- what a list of views of expressions stands for
abbrev pub exprs_meant : Vec (Bor Expr) Global → List Expr
exprs_meant v = map expr_meant v.items

-- an expression is a name alone
abbrev pub is_name : Expr → Bool
is_name (e.Name x) = true
is_name a = false

abbrev pub is_bit_decl : List Entry → Option Decl → Bool
is_bit_decl v None = false
is_bit_decl v (Some d) = is_bit_input v d

-- a connection passes a name on to an input of one bit of a scope
abbrev pub passes_on : Scope → Given → Bool
passes_on t d = is_name d.value && is_bit_decl t.params (decl_at (signals_in t.module') d.name)

-- its expression, where it passes nothing on
abbrev pub kept_given : Scope → Given → List Expr
kept_given t d = if passes_on t d then [] else d.value ∷ []

-- the expressions of an instance's connections that pass nothing on
abbrev pub kept_to : Inner → Scope → List Expr
kept_to i t = flat_map (kept_given t) (given_to (port_names t.module') i.args)

-- and those of instances with their scopes
abbrev pub kept_into : List Inner → List Scope → List Expr
kept_into [] ts = []
kept_into (i ∷ is) [] = []
kept_into (i ∷ is) (t ∷ ts) = kept_to i t ++ kept_into is ts

-- a connection of these instances has this expression and doesn't pass it on
abbrev pub IsKeptBy : List Module → Scope → List Inner → Expr → Type 0
IsKeptBy ms s is a =
    (i : Inner) × Among is i × (t : Scope) × (child ms s i ≡ Some t) × (d : Given) × Among (given_to (port_names t.module') i.args) d
    × (PassesOn t d → ⊥) × (d.value ≡ a)

-- a connection in a scope has this expression and doesn't pass it on
abbrev pub IsKept : List Module → Scope → Expr → Type 0
IsKept ms s a = IsKeptBy ms s (instances_in s.module') a

-- the expressions are those that connections don't pass on, for each scope
abbrev pub AreKept : List Module → List Scope → List (List Expr) → Type 0
AreKept ms [] [] = Unit {0}
AreKept ms (s ∷ ss) (as' ∷ kept) = ((a : Expr) → Among as' a ↔ IsKept ms s a) × AreKept ms ss kept
AreKept ms [] (as' ∷ kept) = ⊥
AreKept ms (s ∷ ss) [] = ⊥

-- a fault stands at one of some scopes
abbrev pub StandsAmong : List Scope → FlatFault → Type 0
StandsAmong ss fault = (s : Scope) × Among ss s × StandsAlone s fault
