use Rattle.std.proofs.Common.{◌≡◌, ◌∙◌, List, ap}
use Rattle.word_core.specs.Words.{Bits}
use Rattle.word_dag.specs.Nodes.{named, node_value}
use Rattle.elab_step_design.specs.Designs.{Parts, naming_of}
use Rattle.unroll_laws.specs.Tests.{held}
use Rattle.replay.proofs.Cycling.{words_step}
use Rattle.replay.proofs.cycle.words_at.Goals as goal

pub loop-node-preserved : goal.loop-node-preserved
loop-node-preserved g c =
    let b = c.args.bound.now in
    let m = c.args.position in
    let ws = c.loop-node.words.items in
    let n = c.node-item.result in
    let listed : c.nodes-nodes.result.now ≡ b.design.nodes = c.nodes-nodes.ensures.nodes ∙ (c.dag.ensures.nodes ∙ ap (λ (d : Parts). d.nodes) c.design.ensures.value) in
    words_step b.design b.set m.resets m.at (g.S.Source.gives c.args.source.now) c.loop-node.node-index ws c.push.new.self.items c.nodes-nodes.result.now n c.node_word-word.result listed c.loop-node-test.true c.node-item.is c.in_ok-push.ensures.items c.node_word-word.ensures.width
    (λ e of. c.node_word-word.ensures.value e of ∙ ap (λ (vs : List Bits). node_value (named (naming_of (held b.design b.set m.resets e m.at)) n) vs n) c.as_slice.ensures.value) c.loop-node.invariant
