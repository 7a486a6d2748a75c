use Rattle.desk_http_connection.proofs.Unique.{one}
use Rattle.desk_http_connection.proofs.laws.one_request.Goals as goal

pub returns : goal.returns
returns c = one
