use Rattle.std.proofs.Common.{◌≡◌, ◌++◌, drop, map}
use Rattle.std.specs.List.{flat_map}
use Rattle.elab_flat_faults.specs.Texts.{names_in}
use Rattle.elab_flat_scopes.specs.Borrowed.{name_meant}
use Rattle.elab_flat_names.specs.Exprs.{expr_meant}
use Rattle.elab_flat_names.proofs.names.names_read.Given as goal

abbrev pub invariant-loop-expr : goal.invariant-loop-expr
invariant-loop-expr l = map name_meant l.all.items ++ flat_map names_in (map expr_meant (drop l.expr-index l.exprs)) ≡ flat_map names_in (map expr_meant l.exprs)
