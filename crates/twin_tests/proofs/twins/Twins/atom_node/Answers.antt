use Rattle.twin_tests.proofs.Sharing.{made_later}
use Rattle.twin_tests.proofs.twins.Twins.atom_node.Goals as goal

pub returns-in-Some-clause-width : goal.returns-in-Some-clause-width
returns-in-Some-clause-width c = (c.in-Some.ensures c.args.self.now.set.now c.requires.made).node

pub returns-clause-made : goal.returns-clause-made
returns-clause-made c =
    let set = c.args.self.now.set.now in
    let later = made_later set c.args.nodes.now.dag c.new_node.new.dag c.args.nodes.now.made.items c.in_ok-node.ensures.keeps c.requires.made in
    c.note.ensures.made set c.in_ok-node.ensures.node later
