use Rattle.std.proofs.Common.{◌≡◌, ◌+◌, ◌<◌, suc, false, drop, length, map, arith, ap, sym, ◌∙◌}
use Rattle.elab_flat_scopes.specs.Borrowed.{name_meant}
use Rattle.elab_flat_drivers.specs.declared.names.Form.TheVariants as m
use Rattle.elab_flat_drivers.specs.Names.{chosen_names}
use Rattle.elab_flat_graphs.specs.Graphs.{graph_of}
use Rattle.elab_step.specs.Placing.{all_placed, blocks_placed}
use Rattle.elab_step.proofs.Placing.{block_cut}
use Rattle.elab_step.proofs.places.add_blocks.Goals as goal

pub loop-i-preserved : goal.loop-i-preserved
loop-i-preserved c =
    let names = c.args.names.now in
    let ks = c.args.blocks.now in
    let i = c.loop-i.i in
    let at = c.args.first + i in
    let now = graph_of c.loop-i.lists.items in
    let lt : i < length ks = omega (arith, c.loop-i-test.true, c.loop-i.auto.i-end) in
    let r = block_cut ks i (chosen_names false m.Any) lt in
    let new : graph_of c.add_places.new.lists.items ≡ all_placed names at (chosen_names false m.Any r.0) now =
    c.in_ok-add_places.ensures.placed ∙ ap (λ xs. all_placed names at (map name_meant xs) now) c.deref.ensures.value ∙ ap (λ xs. all_placed names at xs now) (c.in_ok-assigned.ensures ∙ r.2) in
    let z : c.args.first + (i + 1) ≡ suc at = omega arith in
    record {
      same = c.in_ok-add_places.ensures.same ∙ c.loop-i.invariant.same;
      placed = (λ j. blocks_placed names (z j) (drop (i + 1) ks) (new j)) ∙ ap (λ xs. blocks_placed names at xs now) (sym r.1) ∙ c.loop-i.invariant.placed;
    }
