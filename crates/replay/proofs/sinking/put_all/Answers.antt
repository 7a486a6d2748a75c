use Rattle.std.proofs.Common.{ℕ, List, refl}
use Rattle.std.specs.Borrow.{Bor}
use Rattle.replay.proofs.Putting.{stopped_in_loop}
use Rattle.replay.proofs.sinking.put_all.Goals as goal

pub returns-in_err-put : goal.returns-in_err-put
returns-in_err-put g c =
    stopped_in_loop c.from_residual.result (λ (piece : Bor (List ℕ)). piece.now) c.args.pieces.now c.loop-piece.piece-index _ _ refl c.loop-piece-test.true refl c.from_residual.ensures.1 c.loop-piece.invariant c.in_err-put.ensures
