use Rattle.std.proofs.Common.{◌≡◌, ◌++◌, drop, map}
use Rattle.elab_flat_laws.specs.Moved.{moved_left}
use Rattle.elab_flat_move.proofs.expr.Mover.+left.Given as goal

abbrev pub invariant-lefts-loop-left : goal.invariant-lefts-loop-left
invariant-lefts-loop-left l = l.all ++ map (moved_left l.self.prefix.now l.self.params.now) (drop l.left-index l.lefts) ≡ map (moved_left l.self.prefix.now l.self.params.now) l.lefts
