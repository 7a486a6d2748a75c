use Rattle.std.proofs.Common.{◌≡◌, ◌<◌, ℕ, false, get_or}
use Rattle.clause_check_texts.specs.declared.words.Number.{Number}
use Rattle.clause_check_texts.specs.Lines.{is_zero}
use Rattle.clause_check_texts.proofs.line.count_before_zero.Given as goal

-- none so far
abbrev pub invariant-loop-i : goal.invariant-loop-i
invariant-loop-i l = (k : ℕ) (d : Number) → k < l.i → is_zero (get_or l.numbers k d) ≡ false
