use Rattle.std.proofs.Common.{◌≡◌, ◌≤◌, drop}
use Rattle.set_tree.specs.Lines.{last_row}
use Rattle.replay_eval.proofs.judge.last_row.Given as goal

abbrev pub invariant-loop-successor : goal.invariant-loop-successor
invariant-loop-successor l = record {
  last : last_row l.set l.last l.n (drop l.successor-index l.next) ≡ last_row l.set l.window l.n l.next;
  small : l.last ≤ 400;
}
