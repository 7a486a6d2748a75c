use Rattle.std.proofs.Common.{◌≡◌, ◌∙◌, ◌≤◌, ◌<◌, ap, arith, length, take}
use Rattle.std.specs.Prelude.{slice_index}
use Rattle.word_dag.specs.Nodes.{node_value}
use Rattle.word_dag.proofs.Filling.{fill_step, fill_root}
use Rattle.word_dag.proofs.values.fill.Goals as goal

pub loop-i-preserved : goal.loop-i-preserved
loop-i-preserved c =
    let i = c.loop-i.i in
    let words = c.loop-i.words in
    let node = c.index-nodes-i.result in
    let lt : i < length c.args.nodes.now = omega arith in
    let room : length c.args.nodes.now ≤ length words = omega (arith, c.requires.room) in
    let value : c.value_of-word.result ≡ node_value (slice_index c.loop-i.left.now 0) (take i words) node = c.value_of-word.ensures ∙ ap (λ u. node_value u (take i words) node) c.first_or_zero.ensures in
    fill_step c.args.values.now c.loop-i.left.now words c.args.nodes.now i node c.value_of-word.result c.left_over-left.result.now lt room c.index-nodes-i.is value c.left_over-left.ensures c.loop-i.invariant

pub returns : goal.returns
returns c =
    let last : c.loop-i.i ≡ length c.args.nodes.now = omega arith in
    c.word_of.ensures ∙ fill_root c.args.values.now c.loop-i.left.now c.loop-i.words c.args.nodes.now c.loop-i.i c.args.root last c.requires.root c.loop-i.invariant
