use Rattle.std.proofs.Common.{◌≡◌, sym, ap, ◌∙◌, ◌++◌, append-nil, take, drop, arith}
use Rattle.desk_http_request.proofs.Lines.{lines_of-none, lines_left-none}
use Rattle.desk_http_request.specs.Front.{lines_of, lines_left}
use Rattle.desk_http_request.proofs.bounds.lines_len.Goals as goal

pub returns-then-left-eq0-clause-lines : goal.returns-then-left-eq0-clause-lines
returns-then-left-eq0-clause-lines c =
    let none : c.loop-i.left ≡ 0 = omega arith in
    let rest : lines_of c.loop-i.left (drop c.loop-i.i c.args.bytes.now) ≡ _ = ap (λ n. lines_of n (drop c.loop-i.i c.args.bytes.now)) none ∙ lines_of-none _ in
    sym (c.loop-i.invariant.lines ∙ ap (λ l. take c.loop-i.i c.args.bytes.now ++ l) rest ∙ append-nil _)

pub returns-then-left-eq0-clause-left : goal.returns-then-left-eq0-clause-left
returns-then-left-eq0-clause-left c =
    let none : c.loop-i.left ≡ 0 = omega arith in
    sym (c.loop-i.invariant.left ∙ ap (λ n. lines_left n (drop c.loop-i.i c.args.bytes.now)) none ∙ lines_left-none _)
