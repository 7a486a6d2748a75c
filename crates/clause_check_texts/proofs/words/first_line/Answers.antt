use Rattle.std.proofs.Common.{◌≡◌, ◌+◌, ℕ, List, ◌∷◌, take, drop, sym, ap, subst, ◌∙◌, arith}
use Rattle.clause_check_texts.specs.Words.{is_end, lines}
use Rattle.clause_check_texts.proofs.WordLemmas.{line_last, line_first, most_before, rest_left}
use Rattle.clause_check_texts.proofs.words.first_line.Goals as goal

pub returns-then-end-bytes-clause-lines : goal.returns-then-end-bytes-clause-lines
returns-then-end-bytes-clause-lines c = line_last c.args.bytes.now (omega (arith, c.line_len-end.ensures, c.if-end-bytes.true))

pub overflow_add-result : goal.overflow_add-result
overflow_add-result c = omega (arith, c.line_len-end.ensures, most_before is_end c.args.bytes.now)

pub slice_bounds-result-count : goal.slice_bounds-result-count
slice_bounds-result-count c = omega (arith, c.line_len-end.ensures, most_before is_end c.args.bytes.now)

pub slice_bounds-result-start : goal.slice_bounds-result-start
slice_bounds-result-start c = omega (arith, c.line_len-end.ensures, most_before is_end c.args.bytes.now, c.if-end-bytes.false)

pub returns-clause-lines : goal.returns-clause-lines
returns-clause-lines c =
    let text = c.args.bytes.now in
    let n = c.line_len-end.result in
    let e = c.line_len-end.ensures in
    let first : lines text ≡ take n text ∷ lines (drop (n + 1) text) =
    subst (λ (k : ℕ). lines text ≡ take k text ∷ lines (drop (k + 1) text)) (sym e) (line_first text (omega (arith, e, most_before is_end text, c.if-end-bytes.false))) in
    first ∙ ap (λ (cs : List ℕ). take n text ∷ lines cs) (rest_left text (n + 1))
