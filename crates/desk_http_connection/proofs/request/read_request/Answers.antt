use Rattle.desk_http_connection.proofs.Rests.{takes_rest, takes_refused, takes_cut}
use Rattle.desk_http_connection.proofs.request.read_request.Goals as goal

pub returns-in-Head-clause-takes : goal.returns-in-Head-clause-takes
returns-in-Head-clause-takes g c =
    let head = c.in-Head.ensures.ends in
    takes_rest _ _ _ _ _ _ _ _ head.0 head.2 (rw c.deref.ensures.value at c.read_rest.ensures.rest)

pub returns-in-Refused-clause-takes : goal.returns-in-Refused-clause-takes
returns-in-Refused-clause-takes g c = let e = c.in-Refused.ensures.ends in
    takes_refused _ _ _ _ _ _ e.0 e.1 e.2

pub returns-in-Cut-clause-takes : goal.returns-in-Cut-clause-takes
returns-in-Cut-clause-takes g c = let e = c.in-Cut.ensures.ends in takes_cut _ _ _ _ _ e.0 e.1 e.2 e.3
