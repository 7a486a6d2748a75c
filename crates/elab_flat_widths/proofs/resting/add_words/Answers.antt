use Rattle.std.proofs.Common.{◌≡◌, ◌++◌, map, codes, false, ap, ◌∙◌}
use Rattle.std.specs.Prelude.{decimal}
use Rattle.vlog_tree_runs.specs.Places.{words_from}
use Rattle.vlog_tree.specs.declared.valuation.Entry.{Entry}
use Rattle.elab_flat_widths.specs.Ranges.{resting_word}
use Rattle.elab_flat_widths.proofs.Zeros.{word_added}
use Rattle.elab_flat_widths.proofs.resting.add_words.Goals as goal

pub loop-index-preserved : goal.loop-index-preserved
loop-index-preserved c =
    let g = c.args.signal.now in
    let i = c.loop-index.index in
    let name : c.in_ok-word_name.field-0 ≡ g.name ++ codes "$" ++ decimal i = c.in_ok-word_name.ensures ∙ ap (λ z. z ++ codes "$" ++ decimal i) c.bytes.ensures in
    let x : Entry = record { name = c.in_ok-word_name.field-0; offset = 0; width = g.width; low = 0; signed = false; depth = 0; value = 0 } in
    word_added g i c.loop-index-test.true c.loop-index.rest c.push.new.self (c.args.rest.now ++ map resting_word (words_from g 0 g.depth)) x
    (λ j. record { name = name j; offset = 0; width = g.width; low = 0; signed = false; depth = 0; value = 0 }) c.in_ok-push.ensures.ok c.loop-index.invariant
