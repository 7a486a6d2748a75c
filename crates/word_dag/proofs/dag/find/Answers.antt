use Rattle.std.proofs.Common.{◌<◌, ◌-◌, refl, arith}
use Rattle.word_dag.proofs.Finding.{find_start, find_step}
use Rattle.word_dag.proofs.dag.find.Goals as goal

pub loop-place-init : goal.loop-place-init
loop-place-init c =
    find_start c.args.nodes.now c.args.node.now c.args.index.now c.args.print c.last-place.result c.requires.index c.requires.print c.last-place.ensures

pub loop-place-preserved : goal.loop-place-preserved
loop-place-preserved c =
    let some : 0 < c.loop-place.place = omega arith in
    find_step c.args.nodes.now c.args.node.now c.index-nodes-number.result c.args.index.now c.loop-place.place (c.loop-place.place - 1) c.before-place.result c.is_same.result some refl c.requires.index c.index-nodes-number.is c.is_same.ensures c.if-is_same.false c.before-place.ensures c.loop-place.invariant
