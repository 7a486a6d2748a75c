use Rattle.std.proofs.Common.{sym, ◌∙◌, refl, arith}
use Rattle.std.specs.Option.{option_map}
use Rattle.path_machine.proofs.Spelling.{now_none, now_nothing, now_some, now_something, row_begin, row_fails, row_longer, row_step, row_stops, row_whole}
use Rattle.path_machine.proofs.line.row_of.Goals as goal

pub loop-width-init : goal.loop-width-init
loop-width-init c = row_begin c.args.widths.now c.args.line.now c.new-row.result (option_map (λ l. l.now) c.words_of-left.result) c.new-row.ensures c.words_of-left.ensures

pub returns-in_default : goal.returns-in_default
returns-in_default c = λ inputs listed. row_stops c.args.widths.now c.args.line.now c.loop-width.width-index c.loop-width.row _ c.loop-width-test.true c.loop-width.invariant inputs listed (now_none c.loop-width.left c.in_default.not-Some)

pub returns-in_default-value_of : goal.returns-in_default-value_of
returns-in_default-value_of c = λ inputs listed.
    row_fails c.args.widths.now c.args.line.now c.loop-width.width-index c.loop-width.row _ c.loop-width-test.true c.loop-width.invariant inputs listed c.in-Some.words.now c.first_word-split.result.word.now
    (option_map (λ l. l.now) c.first_word-split.result.left) _ (now_some c.loop-width.left c.in-Some.words c.in-Some.is) c.first_word-split.ensures refl (sym c.in_default-value_of.is ∙ c.value_of.ensures)

pub loop-width-preserved : goal.loop-width-preserved
loop-width-preserved c =
    row_step c.args.widths.now c.args.line.now c.loop-width.width-index c.loop-width.row c.push.new.self _ c.in-Some.words.now c.first_word-split.result.word.now
    (option_map (λ l. l.now) c.first_word-split.result.left) _ c.in-Some-value_of.value c.loop-width-test.true (now_some c.loop-width.left c.in-Some.words c.in-Some.is) c.first_word-split.ensures refl
    (sym c.in-Some-value_of.is ∙ c.value_of.ensures) c.in_ok-push.ensures.ok c.loop-width.invariant

pub returns-then-is_some : goal.returns-then-is_some
returns-then-is_some c = λ inputs listed.
    let more = now_something c.loop-width.left (sym c.is_some.ensures ∙ c.if-is_some.true) in
    row_longer c.args.widths.now c.args.line.now c.loop-width.width-index c.loop-width.row _ more.0 (let past = c.loop-width-test.false in omega (arith, past)) more.1 c.loop-width.invariant inputs listed

pub returns : goal.returns
returns c = λ inputs listed.
    row_whole c.args.widths.now c.args.line.now c.loop-width.width-index c.loop-width.row _ (let past = c.loop-width-test.false in omega (arith, past)) (now_nothing c.loop-width.left (sym c.is_some.ensures ∙ c.if-is_some.false)) c.loop-width.invariant inputs listed
