use Rattle.std.proofs.Common.{refl, inr}
use Rattle.desk_http_reply.specs.Reply.{starved_reply}
use Rattle.desk_http_connection.proofs.Sent.{serves_sent}
use Rattle.desk_http_connection.proofs.serve.receive_present.Goals as goal

pub returns-in-NoMemory-clause-receives : goal.returns-in-NoMemory-clause-receives
returns-in-NoMemory-clause-receives g c =
    serves_sent {D = Unit {0}} (λ command outcome old new. ⊥) _ _ _ _ _ _ tt tt starved_reply _ c.in-NoMemory.ensures.takes.0 c.in-NoMemory.ensures.takes.1 (inr (refl, refl)) c.send.ensures.sends
