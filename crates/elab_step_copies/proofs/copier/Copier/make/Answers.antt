use Rattle.std.proofs.Common.{◌≡◌, List, ℕ, Option, map, sym, ap, ◌∙◌, subst}
use Rattle.word_dag.specs.declared.node.Node.{Node}
use Rattle.word_dag.specs.Nodes.{FitsNode, width_of}
use Rattle.word_dag.specs.Walks.{renumbered}
use Rattle.elab_step_copies.specs.Copies.{HaveCopies, copy_at}
use Rattle.elab_step_copies.proofs.Becoming.{node_read, operands_there, over_fits}
use Rattle.elab_step_copies.proofs.Making.{operands_are}
use Rattle.elab_step_copies.proofs.copier.Copier.make.Goals as goal

pub over_copies-requires : goal.over_copies-requires
over_copies-requires c =
    let k = c.args.self.now in
    let z = c.index-nodes-number.result in
    let at = node_read k.source c.nodes.result.now c.args.number z c.nodes.ensures.nodes c.requires.number c.index-nodes-number.is in
    operands_there k.source k.copies.items c.deref.result.now c.args.number z at c.requires.operands c.deref.ensures.value

pub make_over-requires-clause-fits : goal.make_over-requires-clause-fits
make_over-requires-clause-fits c =
    let k = c.args.self.now in
    let z = c.index-nodes-number.result in
    let at = node_read k.source c.nodes.result.now c.args.number z c.nodes.ensures.nodes c.requires.number c.index-nodes-number.is in
    let have = subst (λ (xs : List ℕ). HaveCopies k.copies.items xs) (operands_are k.source c.args.number z at) c.requires.operands in
    let is : c.in-Some.copied ≡ renumbered (copy_at k.copies.items) z = c.in-Some.ensures.1 ∙ ap (λ (ms : List (Option ℕ)). renumbered (copy_at ms) z) c.deref.ensures.value in
    subst (λ (y : Node). FitsNode (map width_of c.args.dag.now) y) (sym is) (over_fits k c.args.leaves.now c.args.dag.now c.args.number z c.requires.copies at have)

pub returns-in_ok-make_over-in-Some-clause-one : goal.returns-in_ok-make_over-in-Some-clause-one
returns-in_ok-make_over-in-Some-clause-one c =
    let k = c.args.self.now in
    let z = c.index-nodes-number.result in
    let at = node_read k.source c.nodes.result.now c.args.number z c.nodes.ensures.nodes c.requires.number c.index-nodes-number.is in
    let is : c.in-Some.copied ≡ renumbered (copy_at k.copies.items) z = c.in-Some.ensures.1 ∙ ap (λ (ms : List (Option ℕ)). renumbered (copy_at ms) z) c.deref.ensures.value in
    c.in_ok-make_over-in-Some.ensures.one c.args.leaves.now z c.requires at c.in-Some.ensures.0 is
