use Rattle.std.proofs.Common.{◌≡◌, ◌-◌, suc}
use Rattle.set_tree.specs.Formulas.{meaning_of}
use Rattle.set_tree.specs.Parts.{first_offset}
use Rattle.replay_eval.proofs.property.first_offset.Given as goal

abbrev pub invariant-loop-offset : goal.invariant-loop-offset
invariant-loop-offset l = first_offset (meaning_of l.set) l.formula l.rows l.offset (suc l.span.high - l.offset) ≡ first_offset (meaning_of l.set) l.formula l.rows l.span.low (suc l.span.high - l.span.low)
