use Rattle.std.proofs.Common.{◌≡◌, ◌≤◌, ◌-◌, ◌++◌, ℕ, List, length}
use Rattle.desk_http_request.specs.Reading.{TakesBytes}
use Rattle.desk_http_connection.proofs.body.fill.Given as goal

abbrev pub invariant-body : goal.invariant-body
invariant-body g l = record {
  taken : (d : List ℕ) × (l.body.items ≡ l.fn.body.items ++ d) × TakesBytes (g.P.Port.wire l.fn.port) (g.P.Port.wire l.port) d;
  within : length l.body.items ≤ l.count;
  calm : g.P.Port.faults l.port ≡ g.P.Port.faults l.fn.port;
  other : g.P.Port.next_faults l.port ≡ g.P.Port.next_faults l.fn.port;
}

abbrev pub decreases-body : goal.decreases-body
decreases-body g l = l.count - length l.body.items
