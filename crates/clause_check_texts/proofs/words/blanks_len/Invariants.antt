use Rattle.std.proofs.Common.{◌≡◌, ◌<◌, ℕ, true, get_or}
use Rattle.clause_check_texts.specs.Words.{is_blank}
use Rattle.clause_check_texts.proofs.words.blanks_len.Given as goal

-- blanks so far
abbrev pub invariant-loop-i : goal.invariant-loop-i
invariant-loop-i l = (k : ℕ) → k < l.i → is_blank (get_or l.bytes k 0) ≡ true
