use Rattle.std.proofs.Common.{get_or}
use Rattle.std.specs.List.{Contains}
use Rattle.std.proofs.lemmas.List.Elements.{Contains-get_or}
use Rattle.set_tree.specs.Parts.{property_at}
use Rattle.set_tree_structure.proofs.Firsts.{find_is_at}
use Rattle.std.proofs.Common.{refl, sym, ◌∙◌}
use Rattle.set_tree_structure.specs.Faults.{edge_faults}
use Rattle.set_tree_structure.specs.Tests.{stands}
use Rattle.set_tree_structure.proofs.Firsts.{each_next, each_here}
use Rattle.set_tree_structure.proofs.find.edges_fault.Goals as goal

pub returns-in-Some : goal.returns-in-Some
returns-in-Some c =
    each_here (stands c.args.set.now) (edge_faults c.args.set.now c.args.at) c.as_slice-next-items.result.now c.loop-next.next-index _ c.in-Some.fault _ c.loop-next-test.true refl (sym c.in-Some.is ∙ c.edge_fault.ensures) c.loop-next.invariant

pub loop-next-preserved : goal.loop-next-preserved
loop-next-preserved c =
    each_next (stands c.args.set.now) (edge_faults c.args.set.now c.args.at) c.as_slice-next-items.result.now c.loop-next.next-index _ _ c.loop-next-test.true refl (sym c.in_default.is ∙ c.edge_fault.ensures) c.loop-next.invariant

pub edge_fault-requires-clause-to : goal.edge_fault-requires-clause-to
edge_fault-requires-clause-to c =
    let at = find_is_at c.args.set.now c.args.at c.property_at.result.now c.property_at.ensures in
    let edge : Contains (property_at c.args.set.now c.args.at).next (get_or c.as_slice-next-items.result.now c.loop-next.next-index 0) =
    rw (at, sym c.as_slice-next-items.ensures) (Contains-get_or c.as_slice-next-items.result.now c.loop-next.next-index 0 c.loop-next-test.true) in
    c.requires.indexed.successors c.args.at _ c.requires.within edge
