use Rattle.std.proofs.Common.{subst, sym, Bool, Vec, Global}
use Rattle.std.proofs.lemmas.Result.{IfOk-weaker}
use Rattle.clause_check.specs.Derivations.{Holds}
use Rattle.cdcl.proofs.EndLemmas.{holds_at_end}
use Rattle.cdcl.proofs.search.Search.assignment.Goals as goal

pub returns : goal.returns
returns c =
    let s = c.args.self.now in
    IfOk-weaker c.plain_values.result _ (λ (v : Vec Bool Global). Holds c.args.cnf.now v.items)
    (λ v h. subst (Holds c.args.cnf.now) (sym h) (holds_at_end c.args.cnf.now s.steps.items s.trail.vars s.trail.entries c.values.result.now c.values.ensures.shows c.values.ensures.len c.requires.stands.vars_are c.requires.complete c.requires.whole)) c.plain_values.ensures
