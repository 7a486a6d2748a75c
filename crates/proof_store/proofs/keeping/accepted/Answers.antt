use Rattle.proof_store.proofs.Proving.{none_passes, not_passed}
use Rattle.proof_store.proofs.keeping.accepted.Goals as goal

pub returns-else-accept : goal.returns-else-accept
returns-else-accept c =
    none_passes c.args.cnf.now c.args.bytes.now c.in_ok-steps.field-0 c.in-Some.steps c.in_ok-steps.ensures.exact c.in-Some.is
    (not_passed c.args.cnf.now c.in-Some.steps c.as_slice.result.now c.accept.result c.as_slice.ensures.value c.accept.ensures.accepted c.if-accept.false)
