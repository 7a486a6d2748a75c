use Rattle.std.proofs.Common.{drop}
use Rattle.elab_flat_params.specs.Constants.{is_known}
use Rattle.elab_flat_widths.proofs.Constants.{IsLeft}
use Rattle.elab_flat_widths.proofs.constant.+constant.Given as goal

abbrev pub invariant-all_have_constant_parts-loop-expr : goal.invariant-all_have_constant_parts-loop-expr
invariant-all_have_constant_parts-loop-expr l = IsLeft (is_known l.params) l.exprs (drop l.expr-index l.exprs)
