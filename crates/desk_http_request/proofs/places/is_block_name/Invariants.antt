use Rattle.std.proofs.Common.{◌≡◌, drop}
use Rattle.std.specs.List.{list_all}
use Rattle.desk_http_request.specs.Places.{is_name_byte}
use Rattle.desk_http_request.proofs.places.is_block_name.Given as goal

abbrev pub invariant-loop-b : goal.invariant-loop-b
invariant-loop-b l = list_all is_name_byte l.name ≡ list_all is_name_byte (drop l.b-index l.name)
