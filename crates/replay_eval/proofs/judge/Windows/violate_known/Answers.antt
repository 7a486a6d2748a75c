use Rattle.replay_eval.proofs.judge.Windows.violate_known.Goals as goal

pub returns-in-End : goal.returns-in-End
returns-in-End c = rw c.in-End.is c.violates_end.ensures

pub returns-in-Split : goal.returns-in-Split
returns-in-Split c = rw c.in-Split.is c.violates_split.ensures

pub returns-in-SameEnd : goal.returns-in-SameEnd
returns-in-SameEnd c = rw c.in-SameEnd.is c.violates_same_end.ensures

pub returns-in-Choose : goal.returns-in-Choose
returns-in-Choose c = rw c.in-Choose.is c.violates_choose.ensures

pub returns-in-Hand : goal.returns-in-Hand
returns-in-Hand c = rw c.in-Hand.is c.violates_hand.ensures

pub returns-in-Determine : goal.returns-in-Determine
returns-in-Determine c = rw c.in-Determine.is c.violates_determine.ensures
