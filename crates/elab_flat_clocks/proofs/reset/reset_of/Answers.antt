use Rattle.std.proofs.Common.{◌∙◌}
use Rattle.elab_flat_clocks.specs.Heads.{IsName, IsNumber, IsUnary, IsBinary, IsOther}
use Rattle.elab_flat_clocks.proofs.Edges.{reset_from}
use Rattle.elab_flat_clocks.proofs.reset.reset_of.Goals as goal

pub returns-in-Name : goal.returns-in-Name
returns-in-Name c = reset_from c.args.condition.now (IsName c.in-Name.name.now) c.in-Name.ensures

pub returns-in-Number : goal.returns-in-Number
returns-in-Number c = reset_from c.args.condition.now (IsNumber c.in-Number.field-0.now) c.in-Number.ensures

pub returns-in-Unary : goal.returns-in-Unary
returns-in-Unary c = c.negated.ensures ∙ reset_from c.args.condition.now (IsUnary c.in-Unary.op c.in-Unary.a.now) c.in-Unary.ensures

pub returns-in-Binary : goal.returns-in-Binary
returns-in-Binary c = c.level_of.ensures ∙ reset_from c.args.condition.now (IsBinary c.in-Binary.op c.in-Binary.a.now c.in-Binary.b.now) c.in-Binary.ensures

pub returns-in-Other : goal.returns-in-Other
returns-in-Other c = reset_from c.args.condition.now IsOther c.in-Other.ensures
