use Rattle.std.proofs.Common.{sym, ◌∙◌}
use Rattle.elab_flat_clocks.specs.Heads.{IsName, IsNumber}
use Rattle.elab_flat_clocks.proofs.Edges.{level_by}
use Rattle.elab_flat_clocks.proofs.reset.level_of.Goals as goal

pub returns-in-Number-head_of : goal.returns-in-Number-head_of
returns-in-Number-head_of c =
    c.at_level.ensures
    ∙ level_by c.args.op c.args.a.now c.args.b.now (IsName c.in-Name.name.now) (IsNumber c.in-Number-head_of.number.now) (sym c.is_equal.ensures ∙ c.if-not-is_equal.false) c.in-Name.ensures c.in-Number-head_of.ensures
