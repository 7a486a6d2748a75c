use Rattle.std.proofs.Common.{◌≡◌, not, true, false, length, sym, ap, ◌∙◌}
use Rattle.set_tree_structure.specs.declared.fault.GraphFault.TheVariants as g
use Rattle.set_tree_structure.specs.declared.fault.Place.TheVariants as at
use Rattle.set_tree_structure.specs.Tests.{stands}
use Rattle.set_tree_structure.proofs.Firsts.{map_next, map_here, invariant_stands}
use Rattle.set_tree_structure.proofs.find.invariant_fault.Goals as goal

pub returns-then-not-reads_within : goal.returns-then-not-reads_within
returns-then-not-reads_within c =
    let lt = rw c.as_slice-rule-items.ensures at c.loop-at-test.true in
    let is = rw c.as_slice-rule-items.ensures at c.rule-item.is in
    let hit : stands c.args.set.now (g.Offset (at.Invariant c.loop-at.at)) ≡ true = invariant_stands c.args.set.now c.loop-at.at c.rule-item.result lt is ∙ ap not (sym c.reads_within.ensures ∙ c.if-not-reads_within.true) in
    map_here (stands c.args.set.now) (λ i. g.Offset (at.Invariant i)) c.loop-at.at c.loop-at.at (length c.args.set.now.invariants) _ lt hit c.loop-at.invariant

pub loop-at-preserved : goal.loop-at-preserved
loop-at-preserved c =
    let lt = rw c.as_slice-rule-items.ensures at c.loop-at-test.true in
    let is = rw c.as_slice-rule-items.ensures at c.rule-item.is in
    let miss : stands c.args.set.now (g.Offset (at.Invariant c.loop-at.at)) ≡ false = invariant_stands c.args.set.now c.loop-at.at c.rule-item.result lt is ∙ ap not (sym c.reads_within.ensures ∙ c.if-not-reads_within.false) in
    map_next (stands c.args.set.now) (λ i. g.Offset (at.Invariant i)) c.loop-at.at c.loop-at.at (length c.args.set.now.invariants) _ lt miss c.loop-at.invariant
