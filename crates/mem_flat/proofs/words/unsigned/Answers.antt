use Rattle.std.proofs.Common.{ap, ◌∙◌}
use Rattle.vlog_tree.specs.declared.expr.Cast.TheVariants as k
use Rattle.vlog_tree.specs.declared.expr.Expr.TheVariants as e
use Rattle.mem_flat.proofs.words.unsigned.Goals as goal

pub returns : goal.returns
returns c = ap (e.Cast k.Unsigned) (c.in_ok-index.ensures ∙ c.in_ok-copied.ensures)
