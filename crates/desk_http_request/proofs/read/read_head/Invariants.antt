use Rattle.std.proofs.Common.{◌≡◌, ◌-◌, length}
use Rattle.desk_http_request.specs.Reading.{TakesBytes}
use Rattle.desk_http_request.proofs.read.read_head.Given as goal

abbrev pub invariant-head : goal.invariant-head
invariant-head g l = record {
  taken : TakesBytes (g.P.Port.wire l.fn.port) (g.P.Port.wire l.port) l.bytes.items;
  calm : g.P.Port.faults l.port ≡ g.P.Port.faults l.fn.port;
  other : g.P.Port.next_faults l.port ≡ g.P.Port.next_faults l.fn.port;
}

abbrev pub decreases-head : goal.decreases-head
decreases-head g l = 16384 - length l.bytes.items
