use Rattle.std.proofs.Common.{◌<◌, ◌+◌, ◌++◌, List, ℕ, inr, sym, ap, ◌∙◌, arith, drop, length, take}
use Rattle.path_machine.specs.Rows.{ended}
use Rattle.path_machine.proofs.Reading.{line_split, not_ended}
use Rattle.path_machine.proofs.Spelling.{rest_is}
use Rattle.path_machine.proofs.line.first_row.Goals as goal

pub returns-then-end-text-clause-row : goal.returns-then-end-text-clause-row
returns-then-end-text-clause-row c = λ inputs listed. not_ended inputs c.args.text.now c.count_before-end.result c.requires.some c.count_before-end.ensures.none c.if-end-text.true

pub returns-in-Some-clause-row : goal.returns-in-Some-clause-row
returns-in-Some-clause-row c = λ inputs listed.
    let text = c.args.text.now in
    let n = c.count_before-end.result in
    let lt : n < length text = omega (arith, c.if-end-text.false, c.count_before-end.ensures.most) in
    record {
      line = take n text;
      split = line_split text n lt c.count_before-end.ensures.found ∙ ap (λ (cs : List ℕ). ended (take n text) ++ cs) (rest_is text n);
      spelt = (c.count_before-end.ensures.none, sym (c.in_ok-row.ensures inputs listed) ∙ c.in-Some.is);
    }

pub returns-in-None-clause-row : goal.returns-in-None-clause-row
returns-in-None-clause-row c = λ inputs listed.
    let text = c.args.text.now in
    let n = c.count_before-end.result in
    let lt : n < length text = omega (arith, c.if-end-text.false, c.count_before-end.ensures.most) in
    inr (take n text, drop (n + 1) text, line_split text n lt c.count_before-end.ensures.found, c.count_before-end.ensures.none, sym (c.in_ok-row.ensures inputs listed) ∙ c.in-None.is)
