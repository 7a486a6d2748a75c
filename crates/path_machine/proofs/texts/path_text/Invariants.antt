use Rattle.std.proofs.Common.{◌≡◌, take}
use Rattle.path_machine.specs.Texts.{steps_text}
use Rattle.path_machine.proofs.texts.path_text.Given as goal

-- the text so far
abbrev pub invariant-loop-at : goal.invariant-loop-at
invariant-loop-at l = l.text.items ≡ steps_text l.sound (take l.at-index l.path.steps)
