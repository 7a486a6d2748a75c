use Rattle.std.proofs.Common.{◌≡◌, true, false, length, sym, ◌∙◌}
use Rattle.set_tree_structure.specs.declared.fault.GraphFault.TheVariants as g
use Rattle.set_tree_structure.specs.Tests.{stands}
use Rattle.set_tree_structure.proofs.Firsts.{map_next, map_here}
use Rattle.set_tree_structure.proofs.find.cover_fault.Goals as goal

pub returns-then-lacks_cover : goal.returns-then-lacks_cover
returns-then-lacks_cover c =
    let lt = rw c.len-output-end.ensures at c.loop-output-test.true in
    let hit : stands c.args.set.now (g.Cover c.args.at c.loop-output.output) ≡ true = sym c.lacks_cover.ensures ∙ c.if-lacks_cover.true in
    map_here (stands c.args.set.now) (λ o. g.Cover c.args.at o) c.loop-output.output c.loop-output.output (length c.args.set.now.names) _ lt hit c.loop-output.invariant

pub loop-output-preserved : goal.loop-output-preserved
loop-output-preserved c =
    let lt = rw c.len-output-end.ensures at c.loop-output-test.true in
    let miss : stands c.args.set.now (g.Cover c.args.at c.loop-output.output) ≡ false = sym c.lacks_cover.ensures ∙ c.if-lacks_cover.false in
    map_next (stands c.args.set.now) (λ o. g.Cover c.args.at o) c.loop-output.output c.loop-output.output (length c.args.set.now.names) _ lt miss c.loop-output.invariant
