use Rattle.std.proofs.Common.{rules, ◌≡◌, ap, ◌∙◌, take, drop}
use Rattle.desk_http_request.proofs.Lines.{front_cut}
use Rattle.desk_http_request.specs.Front.{lines_of}
use Rattle.desk_http_request.proofs.bounds.front_len.Goals as goal

pub returns-then-bytes-ge-MOST_BYTES-clause-front : goal.returns-then-bytes-ge-MOST_BYTES-clause-front
returns-then-bytes-ge-MOST_BYTES-clause-front c =
    let lines : take c.lines_len-lines.result.0 (drop c.breaks_len-breaks.result c.args.bytes.now) ≡ lines_of 66 (drop c.breaks_len-breaks.result c.args.bytes.now) = search rules in
    ap (λ n. take n c.args.bytes.now) c.min.ensures ∙ front_cut _ _ _ 66 16384 (c.breaks_len-breaks.ensures.split 66) lines

pub returns-else-bytes-ge-MOST_BYTES-clause-front : goal.returns-else-bytes-ge-MOST_BYTES-clause-front
returns-else-bytes-ge-MOST_BYTES-clause-front c =
    let lines : take c.lines_len-lines.result.0 (drop c.breaks_len-breaks.result c.args.bytes.now) ≡ lines_of 66 (drop c.breaks_len-breaks.result c.args.bytes.now) = search rules in
    ap (λ n. take n c.args.bytes.now) c.min.ensures ∙ front_cut _ _ _ 66 16384 (c.breaks_len-breaks.ensures.split 66) lines
