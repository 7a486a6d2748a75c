use Rattle.std.proofs.Common.{sym, ◌∙◌}
use Rattle.test_judges.proofs.JudgeLaws.{cycle_if, if_cycle}
use Rattle.test_judges.proofs.judge.is_cycle.Goals as goal

pub returns : goal.returns
returns c = (
  λ t. cycle_if c.args.flat.now c.requires.can c.bits_stay.ensures.block c.args.values.now c.requires.values (sym c.in_ok-meets.ensures ∙ t),
  λ h. c.in_ok-meets.ensures ∙ if_cycle c.args.flat.now c.requires.can c.args.values.now c.requires.values h,
)
