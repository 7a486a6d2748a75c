use Rattle.elab_step_copies.proofs.Becoming.{node_read, operands_within, unmade_found}
use Rattle.elab_step_copies.proofs.copier.Copier.unmade.Goals as goal

pub unmade_operand-requires : goal.unmade_operand-requires
unmade_operand-requires c =
    let k = c.args.self.now in
    let z = c.index-nodes-number.result in
    let at = node_read k.source c.nodes.result.now c.args.number z c.nodes.ensures.nodes c.requires.number c.index-nodes-number.is in
    operands_within k.source k.copies.items c.deref.result.now c.args.number z c.nodes.ensures.fit at c.requires.long c.deref.ensures.value

pub returns : goal.returns
returns c =
    let k = c.args.self.now in
    let z = c.index-nodes-number.result in
    let at = node_read k.source c.nodes.result.now c.args.number z c.nodes.ensures.nodes c.requires.number c.index-nodes-number.is in
    unmade_found k.source k.copies.items c.deref.result.now c.args.number z c.unmade_operand.result c.nodes.ensures.fit at c.deref.ensures.value c.unmade_operand.ensures
