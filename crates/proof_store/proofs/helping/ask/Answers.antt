use Rattle.proof_store.proofs.Asking.{asks_none_falls, none_falls_same}
use Rattle.proof_store.proofs.Helps.{none_rose, ready_rose, ready_shown}
use Rattle.proof_store.proofs.helping.ask.Goals as goal

pub returns-in_default-clause-first : goal.returns-in_default-clause-first
returns-in_default-clause-first g c = none_rose c.args.ready _ c.in_default.is

pub returns-in_default-clause-asked : goal.returns-in_default-clause-asked
returns-in_default-clause-asked g c = none_falls_same _

pub returns-in_err-claim-clause-asked : goal.returns-in_err-claim-clause-asked
returns-in_err-claim-clause-asked g c = asks_none_falls _ _ c.offer_ready.ensures.asked

pub returns-clause-shown : goal.returns-clause-shown
returns-clause-shown g c =
    ready_shown c.args.ready c.in-Some.field-0 c.in_ok-claim.claim c.evidence_of.result c.in-Some.is c.requires.ready c.in_ok-claim.ensures.passes c.evidence_of.ensures

pub returns-clause-first : goal.returns-clause-first
returns-clause-first g c = ready_rose c.args.ready c.in-Some.field-0 _ _ c.in-Some.is c.offer_ready.ensures.asked

pub returns-clause-asked : goal.returns-clause-asked
returns-clause-asked g c = asks_none_falls _ _ c.offer_ready.ensures.asked
