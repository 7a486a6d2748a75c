-- What views into the text of a module stand for.
use Rattle.std.specs.Prelude.{Option, unwrap_or}
use Rattle.std.specs.Borrow.{Bor}
use Rattle.std.specs.Option.{option_copied}
use Rattle.vlog_tree.specs.declared.item.Assign.{Assign}
use Rattle.vlog_tree.specs.declared.item.Shape.{Shape}
use Rattle.vlog_tree.specs.declared.stmt.Lval.{Lval}
use Rattle.vlog_tree.specs.declared.stmt.Lval.TheVariants as l
use Rattle.vlog_tree_runs.specs.Places.{Name}
use Rattle.vlog_tree_runs.specs.Contents.{bare, Param as Parameter, Decl as Declaration, Block as Always, Inner as Instance}
use Rattle.vlog_tree_runs.specs.Scopes.{Given as Gift}
use Rattle.elab_flat_scopes.specs.declared.assign.Assigned.{Assigned}
use Rattle.elab_flat_scopes.specs.declared.assign.Target.{Target}
use Rattle.elab_flat_scopes.specs.declared.assign.Target.TheVariants as t
use Rattle.elab_flat_scopes.specs.declared.block.Block.{Block}
use Rattle.elab_flat_scopes.specs.declared.decl.Decl.{Decl}
use Rattle.elab_flat_scopes.specs.declared.given.Given.{Given}
use Rattle.elab_flat_scopes.specs.declared.inner.Inner.{Inner}
use Rattle.elab_flat_scopes.specs.declared.param.Param.{Param}

abbrev pub name_meant : Bor Name → Name
name_meant x = x.now

-- the sign and the range, neither where there is none
abbrev pub shape_meant : Option (Bor Shape) → Shape
shape_meant shape = unwrap_or (option_copied shape) bare

abbrev pub param_meant : Param → Parameter
param_meant p = record { name = p.name.now; shape = shape_meant p.shape; value = p.value.now; in_header = p.in_header; is_local = p.is_local }

abbrev pub decl_meant : Decl → Declaration
decl_meant d =
    record { name = d.name.now; shape = shape_meant d.shape; input = d.input; output = d.output; reg = d.reg; words = option_copied d.words }

abbrev pub target_meant : Target → Lval
target_meant (t.Wire x) = l.Name x.now
target_meant (t.Left a) = a.now

abbrev pub assigned_meant : Assigned → Assign
assigned_meant a = record { left = target_meant a.left; right = a.right.now }

abbrev pub block_meant : Block → Always
block_meant b = record { events = b.events.now; body = b.body.now }

abbrev pub inner_meant : Inner → Instance
inner_meant i = record { name = i.name.now; of_module = i.of_module.now; overrides = i.overrides.now; args = i.args.now }

abbrev pub given_meant : Given → Gift
given_meant g = record { name = g.name.now; value = g.value.now }

abbrev pub param_name : Parameter → Name
param_name p = p.name
