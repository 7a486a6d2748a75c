use Rattle.std.proofs.Common.{subst, sym}
use Rattle.clause_check.specs.Derivations.{IsRefutation, IsStep}
use Rattle.cdcl.proofs.EndLemmas.{refutation_from}
use Rattle.cdcl.proofs.search.Search.refutation.Goals as goal

pub returns : goal.returns
returns c =
    subst (IsRefutation c.args.cnf.now) (sym c.in_ok-push.ensures.items)
    (refutation_from c.args.cnf.now c.args.self.steps.items c.in_ok-last.last c.requires.stands.honest (subst (λ b. IsStep c.args.cnf.now b c.in_ok-last.last) c.as_slice.ensures.value (c.in_ok-last.ensures).step) (c.in_ok-last.ensures).empty)
