use Rattle.std.proofs.Common.{◌≡◌, false, length, sym, ◌∙◌}
use Rattle.set_tree_structure.specs.declared.fault.GraphFault.TheVariants as g
use Rattle.set_tree_structure.specs.Tests.{stands}
use Rattle.set_tree_structure.proofs.Firsts.{map_next}
use Rattle.set_tree_structure.proofs.find.edge_fault.Goals as goal

pub loop-output-preserved : goal.loop-output-preserved
loop-output-preserved c =
    let lt = rw c.len-output-end.ensures at c.loop-output-test.true in
    let miss : stands c.args.set.now (g.Tile c.args.from c.args.to c.loop-output.output) ≡ false = sym c.is_apart.ensures ∙ c.if-is_apart.false in
    map_next (stands c.args.set.now) (λ o. g.Tile c.args.from c.args.to o) c.loop-output.output c.loop-output.output (length c.args.set.now.names) _ lt miss c.loop-output.invariant
