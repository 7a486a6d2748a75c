use Rattle.std.proofs.Common.{◌≡◌, ℕ, suc, ◌-◌, ◌<◌, length, arith, sym, ap, ◌∙◌}
use Rattle.std.specs.List.{find, flat_map}
use Rattle.set_tree_structure.specs.Faults.{positions, property_faults}
use Rattle.set_tree_structure.specs.Tests.{stands}
use Rattle.set_tree_structure.proofs.Firsts.{flat_next, flat_here}
use Rattle.set_tree_structure.proofs.find.properties_fault.Goals as goal

pub returns-in-Some : goal.returns-in-Some
returns-in-Some c =
    let lt : c.loop-at.at < suc (length c.args.set.now.operations) = omega (arith, c.len.ensures, c.loop-at-test.true) in
    flat_here (stands c.args.set.now) (property_faults c.args.set.now) c.loop-at.at c.loop-at.at (suc (length c.args.set.now.operations)) c.in-Some.fault _ lt (sym c.in-Some.is ∙ c.property_fault.ensures) c.loop-at.invariant

pub loop-at-preserved : goal.loop-at-preserved
loop-at-preserved c =
    let lt : c.loop-at.at < suc (length c.args.set.now.operations) = omega (arith, c.len.ensures, c.loop-at-test.true) in
    flat_next (stands c.args.set.now) (property_faults c.args.set.now) c.loop-at.at c.loop-at.at (suc (length c.args.set.now.operations)) _ lt (sym c.in_default.is ∙ c.property_fault.ensures) c.loop-at.invariant

pub loop-at-init : goal.loop-at-init
loop-at-init c =
    let e : suc (length c.args.set.now.operations) - 0 ≡ suc (length c.args.set.now.operations) = omega arith in
    ap (λ (n : ℕ). find (stands c.args.set.now) (flat_map (property_faults c.args.set.now) (positions 0 n))) e
