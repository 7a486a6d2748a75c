use Rattle.cdcl.proofs.BeginLemmas.{begins_new}
use Rattle.cdcl.proofs.solver.Solver.new.Goals as goal

pub returns : goal.returns
returns c =
    let s = c.in_ok-new.field-0 in let h = c.in_ok-new.ensures in let w = c.in_ok-new-2.ensures in
    begins_new c.args.cnf.now s c.in_ok-new-2.field-0 h.stands h.steps h.starts w.watched w.lists w.empty w.lits w.bounds
