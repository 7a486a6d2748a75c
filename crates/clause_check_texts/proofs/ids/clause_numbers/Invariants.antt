use Rattle.std.proofs.Common.{◌≡◌, map, take}
use Rattle.clause_check_texts.specs.Steps.{clause_number}
use Rattle.clause_check_texts.proofs.ids.clause_numbers.Given as goal

abbrev pub invariant-loop-hint : goal.invariant-loop-hint
invariant-loop-hint l = l.numbers.items ≡ map (clause_number l.inputs l.ids) (take l.hint-index l.hints)
