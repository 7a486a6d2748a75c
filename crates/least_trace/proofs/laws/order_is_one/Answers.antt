use Rattle.least_trace.proofs.Ordered.{one_order}
use Rattle.least_trace.proofs.laws.order_is_one.Goals as goal

pub returns : goal.returns
returns c = one_order
