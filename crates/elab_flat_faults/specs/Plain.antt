-- Module texts as a reader gives them (IEEE 1364-2005, sections 3.7 and 3.7.1: a simple identifier has no dot).
use Rattle.std.specs.Prelude.{List}
use Rattle.vlog_tree.specs.declared.expr.Expr.{Expr}
use Rattle.vlog_tree.specs.declared.module.Module.{Module}
use Rattle.vlog_tree_runs.specs.Places.{Among}
use Rattle.elab_flat_laws.specs.Uses.{IsPresent}
use Rattle.elab_flat_laws.specs.Flattened.{HasSimpleNames}
use Rattle.elab_flat_faults.specs.Texts.{all_exprs}

-- no name of a module has a dot, and each name is read in the present cycle
pub record IsPlainText (m : Module) : Type 0 where
  pub names : HasSimpleNames m
  pub present : (a : Expr) → Among (all_exprs m) a → IsPresent a

abbrev pub ArePlainTexts : List Module → Type 0
ArePlainTexts ms = (m : Module) → Among ms m → IsPlainText m
