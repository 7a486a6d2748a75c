use Rattle.std.proofs.Common.{◌≡◌, ◌<◌, ℕ, false, get_or}
use Rattle.clause_check_texts.specs.Words.{is_end}
use Rattle.clause_check_texts.proofs.words.line_len.Given as goal

-- none so far
abbrev pub invariant-loop-i : goal.invariant-loop-i
invariant-loop-i l = (k : ℕ) → k < l.i → is_end (get_or l.bytes k 0) ≡ false
