use Rattle.desk_http_connection.proofs.Sent.{serves_asked, serves_idly}
use Rattle.proof_store.specs.Provers.{limits_of}
use Rattle.desk_http.specs.Serving.{Acts}
use Rattle.desk_http.proofs.Acting.{acts, acts_keep}
use Rattle.desk_http.proofs.Keeping.{keeps_same}
use Rattle.desk_http.proofs.serving.serve_one.Goals as goal

pub returns-in_err-served-clause-keeps : goal.returns-in_err-served-clause-keeps
returns-in_err-served-clause-keeps g c = keeps_same _

pub returns-in-Done-clause-keeps : goal.returns-in-Done-clause-keeps
returns-in-Done-clause-keeps g c = keeps_same _

pub returns-in-Done-clause-serves : goal.returns-in-Done-clause-serves
returns-in-Done-clause-serves g c =
    let h = rw c.in-Done.is at c.in_ok-served.ensures.receives in
    serves_idly (Acts (limits_of c.args.checker.now.prover.settings)) _ _ _ _ _ _ h

pub returns-in-Act-clause-serves : goal.returns-in-Act-clause-serves
returns-in-Act-clause-serves g c =
    let h = rw c.in-Act.is at c.in_ok-served.ensures.receives in
    let did = c.act-outcome.ensures in
    serves_asked (Acts (limits_of c.args.checker.now.prover.settings)) _ _ _ _ _ _ _ _ c.in-Act.command _ _ h.0 h.1 h.2 (acts (limits_of c.args.checker.now.prover.settings) _ _ _ _ did.step did.left did.book did.desk did.proceeds) c.reply_to.ensures.sends

pub returns-in-Act-clause-keeps : goal.returns-in-Act-clause-keeps
returns-in-Act-clause-keeps g c =
    let did = c.act-outcome.ensures in
    acts_keep (limits_of c.args.checker.now.prover.settings) _ _ _ _ (acts (limits_of c.args.checker.now.prover.settings) c.in-Act.command _ _ _ did.step did.left did.book did.desk did.proceeds)
