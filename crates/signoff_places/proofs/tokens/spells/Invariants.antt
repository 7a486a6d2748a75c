use Rattle.std.proofs.Common.{◌≡◌, ◌≤◌, length}
use Rattle.signoff_places.specs.Paths.{spells}
use Rattle.signoff_places.proofs.tokens.spells.Given as goal

abbrev pub invariant-loop-dot : goal.invariant-loop-dot
invariant-loop-dot l = record { same : spells l.rest l.here ≡ spells l.path l.tokens; shorter : length l.rest ≤ length l.path }

abbrev pub decreases-loop-dot : goal.decreases-loop-dot
decreases-loop-dot l = length l.rest
