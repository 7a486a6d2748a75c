use Rattle.std.proofs.Common.{◌≡◌, true, false, length, sym, ◌∙◌}
use Rattle.set_tree_structure.specs.declared.fault.GraphFault.TheVariants as g
use Rattle.set_tree_structure.specs.declared.fault.Place.TheVariants as at
use Rattle.set_tree_structure.specs.Tests.{stands}
use Rattle.set_tree_structure.proofs.Firsts.{map_next, map_here, domain_stands}
use Rattle.set_tree_structure.proofs.find.domain_fault.Goals as goal

pub returns-then-reads_ahead : goal.returns-then-reads_ahead
returns-then-reads_ahead c =
    let lt = rw c.as_slice-name-items.ensures at c.loop-at-test.true in
    let is = rw c.as_slice-name-items.ensures at c.name-item.is in
    let hit : stands c.args.set.now (g.Offset (at.Output c.loop-at.at)) ≡ true = domain_stands c.args.set.now c.loop-at.at c.name-item.result lt is ∙ (sym c.reads_ahead.ensures ∙ c.if-reads_ahead.true) in
    map_here (stands c.args.set.now) (λ i. g.Offset (at.Output i)) c.loop-at.at c.loop-at.at (length c.args.set.now.names) _ lt hit c.loop-at.invariant

pub loop-at-preserved : goal.loop-at-preserved
loop-at-preserved c =
    let lt = rw c.as_slice-name-items.ensures at c.loop-at-test.true in
    let is = rw c.as_slice-name-items.ensures at c.name-item.is in
    let miss : stands c.args.set.now (g.Offset (at.Output c.loop-at.at)) ≡ false = domain_stands c.args.set.now c.loop-at.at c.name-item.result lt is ∙ (sym c.reads_ahead.ensures ∙ c.if-reads_ahead.false) in
    map_next (stands c.args.set.now) (λ i. g.Offset (at.Output i)) c.loop-at.at c.loop-at.at (length c.args.set.now.names) _ lt miss c.loop-at.invariant
