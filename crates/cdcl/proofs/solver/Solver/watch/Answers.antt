use Rattle.std.proofs.Common.{◌≡◌, length, subst, arith}
use Rattle.clause_check.specs.Derivations.{clauses_of, IsClauseAt}
use Rattle.cdcl.proofs.BeginLemmas.{watches_more}
use Rattle.cdcl.proofs.SearchLemmas.{all_ok}
use Rattle.cdcl.proofs.solver.Solver.watch.Goals as goal

pub returns : goal.returns
returns c =
    let s = c.args.self.now in
    let vars = c.args.cnf.now.vars in
    let inputs = c.args.cnf.now.clauses in
    let clause = c.clause_at-clause.result.now in
    let number : c.in_ok-number.number ≡ length s.watches.watched.items = omega (arith, c.in_ok-number.ensures.ok) in
    let at : IsClauseAt vars (clauses_of inputs s.search.steps.items) (length s.watches.watched.items) clause =
    subst (λ n. IsClauseAt vars (clauses_of inputs s.search.steps.items) n clause) number
    (subst (λ b. IsClauseAt vars (clauses_of inputs b) c.in_ok-number.number clause) c.as_slice.ensures.value c.clause_at-clause.ensures) in
    let e = c.push.ensures in
    all_ok c.push.result e.watched e.lists e.lits e.bounds
    (λ hw hl hlits hbounds. watches_more c.args.cnf.now s c.args.watch c.push.new.self clause c.requires.part c.requires.is c.requires.first c.requires.second c.requires.kept hw hl at hlits hbounds)
