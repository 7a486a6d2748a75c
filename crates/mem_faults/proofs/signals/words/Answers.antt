use Rattle.mem_faults.proofs.Keeping.{word_added, words_done}
use Rattle.mem_faults.proofs.signals.words.Goals as goal

pub loop-word-preserved : goal.loop-word-preserved
loop-word-preserved c =
    word_added c.args.memory.now c.loop-word.word c.loop-word-test.true c.loop-word.all _ _ _ c.in_ok-word_signal.ensures c.in_ok-push.ensures.ok c.loop-word.invariant

pub returns : goal.returns
returns c = words_done c.args.memory.now c.loop-word.word c.loop-word-test.false c.loop-word.all _ c.loop-word.invariant
