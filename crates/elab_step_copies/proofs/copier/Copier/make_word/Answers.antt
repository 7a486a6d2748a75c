use Rattle.std.proofs.Common.{refl}
use Rattle.elab_step_blocks.proofs.Saving.{node_get}
use Rattle.elab_step_copies.proofs.Becoming.{makes_word, node_read}
use Rattle.elab_step_copies.proofs.copier.Copier.make_word.Goals as goal

pub returns : goal.returns
returns c ns can =
    let k = c.args.self.now in
    let z = c.index-nodes-number.result in
    let at = node_read k.source c.nodes.result.now c.args.number z c.nodes.ensures.nodes c.requires.number c.index-nodes-number.is in
    let j = c.word_leaf-place.result in
    let word = c.word_leaf-place.ensures in
    makes_word k _ c.args.leaves.now ns c.args.number z j c.leaf.result.now.node can at (c.requires.free z at) word (node_get c.args.leaves.now j c.leaf.result.now word.0 c.leaf.ensures) refl refl refl c.in_ok-note_at.ensures
