-- Which inputs of the top reach the one-bit inputs of a scope.
use Rattle.std.specs.Prelude.{◌≡◌, ◌↔◌, nat_eq, Bool, ◌&&◌, List, [], ◌∷◌, ◌++◌, Option, Some, None, map, filter, reverse, if◌then◌else◌}
use Rattle.std.specs.Str.{bytes_eq}
use Rattle.vlog_tree.specs.declared.expr.Expr.{Expr}
use Rattle.vlog_tree.specs.declared.expr.Expr.TheVariants as e
use Rattle.vlog_tree.specs.declared.expr.Name.{Name as Read}
use Rattle.vlog_tree.specs.declared.module.Module.{Module}
use Rattle.vlog_tree.specs.declared.valuation.Entry.{Entry}
use Rattle.vlog_tree_runs.specs.Places.{Name}
use Rattle.vlog_tree_runs.specs.Contents.{Decl, signals_in, Inner, instances_in}
use Rattle.vlog_tree_runs.specs.Scopes.{Scope, scope_at, instance_at, child, Given, given_at, width_in}
use Rattle.elab_flat_faults.specs.Clocks.{Reaches}
use Rattle.elab_flat_scopes.specs.Finding.{decl_name}
use Rattle.elab_flat_clocks.specs.declared.table.Link.{Link as View}

-- a name and the input of the top that reaches it
pub record Link : Type 0 where
  pub name : Name
  pub input : Name

abbrev pub link_meant : View → Link
link_meant l = record { name = l.name.now; input = l.input.now }

abbrev pub link_name : Link → Name
link_name l = l.name

-- what reaches a name
abbrev pub input_at : List Link → Name → Option Name
input_at [] x = None
input_at (l ∷ ls) x = if bytes_eq l.name x then Some l.input else input_at ls x

-- a declaration of an input of one bit
abbrev pub is_bit_input : List Entry → Decl → Bool
is_bit_input v d = d.input && nat_eq (width_in d.shape.range 1 v) 1

abbrev pub bit_inputs : Scope → List Name
bit_inputs s = map decl_name (filter (is_bit_input s.params) (signals_in s.module'))

-- the inputs of the top reach themselves
abbrev pub itself : Name → Link
itself x = record { name = x; input = x }

-- what reaches an expression: it must be a name
abbrev pub reached_name : List Link → Read → Option Name
reached_name t r = if nat_eq r.offset 0 then input_at t r.text else None

abbrev pub reached : List Link → Option Expr → Option Name
reached t None = None
reached t (Some (e.Name r)) = reached_name t r
reached t (Some a) = None

abbrev pub link_of : Name → Option Name → List Link
link_of x None = []
link_of x (Some y) = record { name = x; input = y } ∷ []

-- inputs that are given expressions of the outer scope
abbrev pub links : List Link → List Given → List Name → List Link
links t ds [] = []
links t ds (x ∷ xs) = link_of x (reached t (given_at ds x)) ++ links t ds xs

-- a table tells of each name of the scope at the end of a path which input of the top reaches it
abbrev pub IsTable : List Module → Name → List Name → List Link → Type 0
IsTable ms top back t = (x y : Name) → (input_at t x ≡ Some y) ↔ Reaches ms top back x y

-- the table of an instance where that of its outer scope is one
abbrev pub IsTableBelow : List Link → Inner → Scope → List Link → Type 0
IsTableBelow outer i s t =
    (ms : List Module) (top : Name) (back : List Name) (o : Scope) → scope_at ms top (reverse back) ≡ Some o → instance_at (instances_in o.module') i.name ≡ Some i → child ms o i ≡ Some s →
    IsTable ms top back outer → IsTable ms top (i.name ∷ back) t
