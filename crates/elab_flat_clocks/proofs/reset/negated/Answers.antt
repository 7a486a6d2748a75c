use Rattle.std.proofs.Common.{sym, ◌∙◌}
use Rattle.elab_flat_clocks.specs.Heads.{IsName}
use Rattle.elab_flat_clocks.proofs.Edges.{negated_by}
use Rattle.elab_flat_clocks.proofs.reset.negated.Goals as goal

pub returns-in-Name : goal.returns-in-Name
returns-in-Name c = negated_by c.args.op c.args.operand.now (IsName c.in-Name.name.now) (sym c.is_not.ensures ∙ c.if-not-is_not.false) c.in-Name.ensures
