use Rattle.std.proofs.Common.{refl}
use Rattle.elab_step_copies.proofs.Becoming.{makes_over, node_read, readers_within}
use Rattle.elab_step_copies.proofs.copier.Copier.make_over.Goals as goal

pub note-requires : goal.note-requires
note-requires c =
    let k = c.args.self.now in
    let y = c.index-nodes-number.result in
    readers_within k.source k.readers.items c.args.number y c.nodes.ensures.fit (node_read k.source c.nodes.result.now c.args.number y c.nodes.ensures.nodes c.requires.number c.index-nodes-number.is) c.requires.network.readers_long

pub returns-clause-one : goal.returns-clause-one
returns-clause-one c ls z can at bound is =
    let k = c.args.self.now in
    let y = c.index-nodes-number.result in
    makes_over k _ ls c.args.dag.now c.put.new.dag c.args.number y z c.args.copied c.in_ok-copy.copy can (node_read k.source c.nodes.result.now c.args.number y c.nodes.ensures.nodes c.requires.number c.index-nodes-number.is) at bound is
    c.in_ok-copy.ensures.adds c.in_ok-copy.ensures.keeps refl refl c.in_ok-note.ensures refl
