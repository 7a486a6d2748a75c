use Rattle.std.proofs.Common.{sym, ◌∙◌}
use Rattle.test_judges.proofs.JudgeLaws.{follows_if, if_follows}
use Rattle.test_judges.proofs.judge.follows.Goals as goal

pub returns : goal.returns
returns c = (
  λ t. follows_if c.args.flat.now c.requires.can c.args.now.now c.args.next.now c.requires.now c.requires.next (sym c.in_ok-meets.ensures ∙ t),
  λ h. c.in_ok-meets.ensures ∙ if_follows c.args.flat.now c.requires.can c.args.now.now c.args.next.now c.requires.now c.requires.next h,
)
