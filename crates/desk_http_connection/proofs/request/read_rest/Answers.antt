use Rattle.std.proofs.Common.{◌≡◌, ◌≤◌, length, sym, ap, ◌∙◌, arith}
use Rattle.desk_http_request.specs.Asked.{Order}
use Rattle.desk_http_request.specs.Seen.{seen_place}
use Rattle.desk_http_request.specs.Front.{front}
use Rattle.desk_http_connection.proofs.Rests.{rest_of_body}
use Rattle.desk_http_connection.proofs.request.read_rest.Goals as goal

pub returns-in-Ok-Ok-clause-rest : goal.returns-in-Ok-Ok-clause-rest
returns-in-Ok-Ok-clause-rest g c =
    let same : c.split_at.result.0.now ≡ front c.args.bytes.now = c.split_at.ensures.front ∙ c.front_len-len.ensures.front in
    let seen = rw c.in-Ok-Ok.field-0-is at c.in-Ok-Ok.ensures in
    let asks = rw same at seen in
    let le : c.args.spans.len ≤ length c.args.bytes.now =
    omega (arith, c.requires.within.section.len_fits, ap length same, c.split_at.ensures.front_len, c.front_len-len.ensures.within) in
    let body = rw c.split_at-in-Ok-Ok.ensures.back at c.read_body.ensures.body in
    let order : Order = record { place = seen_place c.in-Ok-Ok.order.place; count = c.in-Ok-Ok.order.count } in
    rest_of_body c.args.bytes.now c.args.headers.now c.args.spans order c.requires.head le (sym asks) _ _ _ _ _ body
