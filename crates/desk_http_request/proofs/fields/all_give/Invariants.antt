use Rattle.std.proofs.Common.{◌≡◌, map, drop}
use Rattle.std.specs.List.{list_all}
use Rattle.httparse.specs.Spans.{header_bytes}
use Rattle.desk_http_request.specs.Fields.{values, gives}
use Rattle.desk_http_request.proofs.fields.all_give.Given as goal

abbrev pub invariant-loop-header : goal.invariant-loop-header
invariant-loop-header l = list_all (gives l.count) (values l.name (map (header_bytes l.buf) l.headers))
    ≡ list_all (gives l.count) (values l.name (map (header_bytes l.buf) (drop l.header-index l.headers)))
