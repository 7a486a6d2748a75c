use Rattle.std.proofs.Common.{◌≡◌, map}
use Rattle.std.specs.Vec.Iter.{into_iter_items}
use Rattle.helper_box.specs.Asked.{AreReady}
use Rattle.helper_box.proofs.Turns.{after}
use Rattle.helper_box.proofs.offering.ask_each.Given as goal

-- the helpers so far have been asked, and the claims that are left pass
abbrev pub invariant-loop-helper : goal.invariant-loop-helper
invariant-loop-helper g l = record {
  asked : map g.H.Helper.asked l.helpers ≡ after l.helper-index (map g.H.Helper.asked l.fn.helpers);
  ready : AreReady l.ob l.cnf (into_iter_items l.ready);
}
