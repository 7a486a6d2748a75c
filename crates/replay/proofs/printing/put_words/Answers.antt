use Rattle.std.proofs.Common.{ℕ, List, ◌∷◌}
use Rattle.replay.proofs.Putting.{done_in_loop, spaced_words, stopped_in_loop}
use Rattle.replay.proofs.printing.put_words.Goals as goal

pub returns-in_err-put_word : goal.returns-in_err-put_word
returns-in_err-put_word g c =
    stopped_in_loop c.from_residual.result (λ (w : List ℕ). 32 ∷ w) c.args.words.now c.loop-word.word-index c.word-item.result c.word-item.result (spaced_words c.args.words.now) c.loop-word-test.true c.word-item.is c.from_residual.ensures.1 c.loop-word.invariant (rw c.bytes.ensures at c.in_err-put_word.ensures)

pub returns : goal.returns
returns g c = done_in_loop (λ (w : List ℕ). 32 ∷ w) c.args.words.now c.loop-word.word-index (spaced_words c.args.words.now) c.loop-word-test.false c.loop-word.invariant
