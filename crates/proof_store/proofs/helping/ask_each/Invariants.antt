use Rattle.std.proofs.Common.{map}
use Rattle.std.specs.Vec.Iter.{into_iter_items}
use Rattle.proof_store.proofs.Helps.{AskLoop}
use Rattle.proof_store.proofs.helping.ask_each.Given as goal

-- the obligations so far
abbrev pub invariant-loop-ready : goal.invariant-loop-ready
invariant-loop-ready g l = AskLoop l.fn.all.items (into_iter_items l.ready-iterator) l.helped.items (map g.H.Helper.asked l.fn.helpers.items) (map g.H.Helper.asked l.helpers.items)
