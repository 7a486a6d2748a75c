use Rattle.std.proofs.Common.{arith}
use Rattle.elab_flat_clocks.proofs.Growing.{stands_there}
use Rattle.elab_flat_clocks.proofs.kept.kept_into.Goals as goal

pub returns-in-Err-clause-err : goal.returns-in-Err-clause-err
returns-in-Err-clause-err c =
    stands_there c.args.scopes.now c.loop-inner.at c.index-scopes-at.result (omega (arith, c.loop-inner.invariant.place, c.loop-inner-test.true, c.requires)) c.index-scopes-at.is c.in-Err.fault c.in-Err.ensures.err
