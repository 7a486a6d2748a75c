use Rattle.std.proofs.Common.{◌≡◌, map, drop}
use Rattle.httparse.specs.Spans.{header_bytes}
use Rattle.desk_http_request.specs.Fields.{values}
use Rattle.desk_http_request.proofs.fields.declared_length.Given as goal

abbrev pub invariant-loop-i : goal.invariant-loop-i
invariant-loop-i l = values l.name (map (header_bytes l.buf) l.headers) ≡ values l.name (map (header_bytes l.buf) (drop l.i l.headers))
