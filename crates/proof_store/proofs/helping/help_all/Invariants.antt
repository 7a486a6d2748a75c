use Rattle.std.proofs.Common.{map}
use Rattle.std.specs.Vec.Iter.{into_iter_items}
use Rattle.proof_store.proofs.Helps.{HelpLoop}
use Rattle.proof_store.proofs.Pieces.{joined}
use Rattle.proof_store.proofs.helping.help_all.Given as goal

-- the obligations so far
abbrev pub invariant-loop-few : goal.invariant-loop-few
invariant-loop-few g l = HelpLoop l.fn.obs (joined (into_iter_items l.few-iterator)) l.helped.items (map g.H.Helper.asked l.fn.helpers.items) (map g.H.Helper.asked l.helpers.items)
