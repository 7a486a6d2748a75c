use Rattle.std.proofs.Common.{◌≡◌, drop}
use Rattle.test_judges.specs.Values.{all_fit}
use Rattle.test_judges.proofs.values.all_fit.Given as goal

abbrev pub invariant-loop-i : goal.invariant-loop-i
invariant-loop-i l = all_fit (drop l.i l.signals) (drop l.i l.values) ≡ all_fit l.signals l.values
