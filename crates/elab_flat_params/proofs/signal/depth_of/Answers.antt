use Rattle.std.proofs.Common.{ap}
use Rattle.std.specs.Option.{option_copied}
use Rattle.elab_flat_params.proofs.signal.depth_of.Goals as goal

pub returns-in-Err-clause-err : goal.returns-in-Err-clause-err
returns-in-Err-clause-err c = (c.in-Some.range.now, ap option_copied c.in-Some.is, rw c.in-Err.is at c.in_ok-found-in-Some.ensures.err)
