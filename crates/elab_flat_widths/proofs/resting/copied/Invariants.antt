use Rattle.std.proofs.Common.{◌≡◌, ◌++◌, drop}
use Rattle.elab_flat_widths.proofs.resting.copied.Given as goal

abbrev pub invariant-loop-entry : goal.invariant-loop-entry
invariant-loop-entry l = l.all ++ drop l.entry-index l.entry-items ≡ l.entry-items
