use Rattle.std.proofs.Common.{◌≡◌, ℕ, ◌<◌, ◌≤◌, false, length, get_or}
use Rattle.signoff_places.specs.Lines.{is_feed}
use Rattle.signoff_places.proofs.place.last_line.Given as goal

abbrev pub invariant-loop-at : goal.invariant-loop-at
invariant-loop-at l = (k : ℕ) → l.at ≤ k → k < length l.text → is_feed (get_or l.text k 0) ≡ false
