use Rattle.std.proofs.Common.{subst}
use Rattle.cdcl.specs.declared.solver.End.{End}
use Rattle.cdcl.specs.declared.solver.End.TheVariants.{Unsat, Spent}
use Rattle.cdcl.specs.Ends.{IsEnd}
use Rattle.job_pool.proofs.Decided.{evident}
use Rattle.job_pool.proofs.evidence.decide.Goals as goal

pub returns-in-Unsat : goal.returns-in-Unsat
returns-in-Unsat c =
    let built = c.in_ok-built.built in
    let of = c.in_ok-built.ensures in
    evident c.args.budget c.args.ob.now built.cnf built.bits.items (Unsat c.in-Unsat.steps) of.vars of.clauses of.carries (subst (λ (end : End). IsEnd built.cnf c.args.budget end) c.in-Unsat.is c.in_ok-steps.ensures.end)

pub returns : goal.returns
returns c =
    let built = c.in_ok-built.built in
    let of = c.in_ok-built.ensures in
    evident c.args.budget c.args.ob.now built.cnf built.bits.items (Spent c.in-Spent.steps) of.vars of.clauses of.carries (subst (λ (end : End). IsEnd built.cnf c.args.budget end) c.in-Spent.is c.in_ok-steps.ensures.end)
