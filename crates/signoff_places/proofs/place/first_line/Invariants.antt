use Rattle.std.proofs.Common.{◌≡◌, ℕ, ◌<◌, false, get_or}
use Rattle.signoff_places.specs.Lines.{is_feed}
use Rattle.signoff_places.proofs.place.first_line.Given as goal

abbrev pub invariant-loop-at : goal.invariant-loop-at
invariant-loop-at l = (k : ℕ) → k < l.at → is_feed (get_or l.text k 0) ≡ false
