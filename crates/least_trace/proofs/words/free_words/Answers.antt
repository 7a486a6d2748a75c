use Rattle.least_trace.proofs.Steps.{words_step}
use Rattle.least_trace.proofs.words.free_words.Goals as goal

pub loop-node-preserved : goal.loop-node-preserved
loop-node-preserved c =
    words_step c.args.nodes.now c.loop-node.node-index c.node-item.result c.loop-node.words.items c.add_word.new.words.items c.loop-node-test.true c.node-item.is c.loop-node.invariant c.in_ok-add_word.ensures
