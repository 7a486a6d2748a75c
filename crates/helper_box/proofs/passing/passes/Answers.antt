use Rattle.std.proofs.Common.{sym}
use Rattle.helper_box.proofs.passing.passes.Goals as goal

pub returns-in-Unsat : goal.returns-in-Unsat
returns-in-Unsat c = rw (c.in-Unsat.is, sym c.deref.ensures.value) c.refutes.ensures
