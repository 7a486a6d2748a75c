use Rattle.std.proofs.Common.{List, ap, ◌∙◌}
use Rattle.vlog_tree.specs.declared.valuation.Entry.{Entry}
use Rattle.vlog_tree.specs.Valuation.{place_at}
use Rattle.elab_step_expr.specs.Leaves.{declared}
use Rattle.elab_step_expr.proofs.leaves.Leaves.place.Goals as goal

pub returns : goal.returns
returns c = c.place.ensures ∙ ap (λ (es : List Entry). place_at es c.args.name.now c.args.offset) (c.self.invariant.1 ∙ ap declared c.self.view_is)
