use Rattle.std.proofs.Common.{◌≡◌, length}
use Rattle.helper_box.specs.Asked.{AreReady}
use Rattle.helper_box.proofs.offering.claims_of.Given as goal

-- one for each helper so far, and they pass
abbrev pub invariant-loop-helper : goal.invariant-loop-helper
invariant-loop-helper g l = record {
  count : length l.ready.items ≡ l.helper-index;
  pass : AreReady l.ob l.cnf l.ready.items;
}
