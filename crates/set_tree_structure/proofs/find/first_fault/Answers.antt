use Rattle.std.proofs.Common.{suc, length, sym, ◌∙◌}
use Rattle.std.specs.List.{flat_map}
use Rattle.set_tree_structure.specs.declared.fault.GraphFault.TheVariants as g
use Rattle.set_tree_structure.specs.Faults.{positions, invariant_faults, domain_faults, property_faults, edges_faults}
use Rattle.set_tree_structure.specs.Tests.{stands}
use Rattle.set_tree_structure.proofs.Firsts.{in_first, in_second, in_third, in_last, no_hand}
use Rattle.set_tree_structure.proofs.find.first_fault.Goals as goal

pub returns-in-Some : goal.returns-in-Some
returns-in-Some c =
    let all = positions 0 (suc (length c.args.set.now.operations)) in
    in_first (stands c.args.set.now) g.HandAtReset (invariant_faults c.args.set.now) (domain_faults c.args.set.now) (flat_map (property_faults c.args.set.now) all) (flat_map (edges_faults c.args.set.now) all)
    (no_hand c.args.set.now _ c.len.ensures c.if-len-ne0.false) c.in-Some.fault (sym c.in-Some.is ∙ c.invariant_fault.ensures)

pub returns-in-Some-domain_fault : goal.returns-in-Some-domain_fault
returns-in-Some-domain_fault c =
    let all = positions 0 (suc (length c.args.set.now.operations)) in
    in_second (stands c.args.set.now) g.HandAtReset (invariant_faults c.args.set.now) (domain_faults c.args.set.now) (flat_map (property_faults c.args.set.now) all) (flat_map (edges_faults c.args.set.now) all)
    (no_hand c.args.set.now _ c.len.ensures c.if-len-ne0.false) c.in-Some-domain_fault.fault (sym c.in_default.is ∙ c.invariant_fault.ensures) (sym c.in-Some-domain_fault.is ∙ c.domain_fault.ensures)

pub returns-in-Some-properties_fault : goal.returns-in-Some-properties_fault
returns-in-Some-properties_fault c =
    let all = positions 0 (suc (length c.args.set.now.operations)) in
    in_third (stands c.args.set.now) g.HandAtReset (invariant_faults c.args.set.now) (domain_faults c.args.set.now) (flat_map (property_faults c.args.set.now) all) (flat_map (edges_faults c.args.set.now) all)
    (no_hand c.args.set.now _ c.len.ensures c.if-len-ne0.false) c.in-Some-properties_fault.fault (sym c.in_default.is ∙ c.invariant_fault.ensures) (sym c.in_default-domain_fault.is ∙ c.domain_fault.ensures)
    (sym c.in-Some-properties_fault.is ∙ c.properties_fault.ensures)

pub returns : goal.returns
returns c =
    let all = positions 0 (suc (length c.args.set.now.operations)) in
    in_last (stands c.args.set.now) g.HandAtReset (invariant_faults c.args.set.now) (domain_faults c.args.set.now) (flat_map (property_faults c.args.set.now) all) (flat_map (edges_faults c.args.set.now) all)
    (no_hand c.args.set.now _ c.len.ensures c.if-len-ne0.false) _ (sym c.in_default.is ∙ c.invariant_fault.ensures) (sym c.in_default-domain_fault.is ∙ c.domain_fault.ensures)
    (sym c.in_default-properties_fault.is ∙ c.properties_fault.ensures) c.all_edges_fault.ensures
