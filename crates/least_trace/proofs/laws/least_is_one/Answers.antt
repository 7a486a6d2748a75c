use Rattle.least_trace.proofs.Uniqueness.{found_one}
use Rattle.least_trace.proofs.laws.least_is_one.Goals as goal

pub returns : goal.returns
returns c = found_one
