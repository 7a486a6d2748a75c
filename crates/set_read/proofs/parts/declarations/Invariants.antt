use Rattle.std.proofs.Common.{◌≤◌, ◌-◌, length}
use Rattle.vlog_tree.specs.Lists.{Sequence, highest}
use Rattle.set_tree.specs.Spelling.{SpellsDeclaration}
use Rattle.set_read.specs.Answers.{NoRole}
use Rattle.set_read.specs.Heights.{declaration_height}
use Rattle.set_read.proofs.Steps.{Rest}
use Rattle.set_read.proofs.parts.declarations.Given as goal

abbrev pub invariant-loop-role : goal.invariant-loop-role
invariant-loop-role l =
    Sequence (SpellsDeclaration l.tokens) l.at l.list l.end × (highest declaration_height l.list ≤ 499) × (l.at ≤ l.end)
    × Rest declaration_height (SpellsDeclaration l.tokens) (NoRole l.tokens) l.at l.end

abbrev pub decreases-loop-role : goal.decreases-loop-role
decreases-loop-role l = length l.tokens - l.end
