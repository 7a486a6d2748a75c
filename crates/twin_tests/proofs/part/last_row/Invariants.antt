use Rattle.std.proofs.Common.{◌≡◌, ◌≤◌, take}
use Rattle.set_tree.specs.Lines.{last_row}
use Rattle.twin_tests.proofs.part.last_row.Given as goal

-- the last row so far
abbrev pub invariant-loop-property : goal.invariant-loop-property
invariant-loop-property l = (l.last ≡ last_row l.set l.window l.n (take l.property-index l.properties)) × (l.last ≤ 1000)
