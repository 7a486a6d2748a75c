use Rattle.std.proofs.Common.{◌≡◌, ◌<◌, Some, length, ap, sym, ◌∙◌, arith}
use Rattle.elab_flat_scopes.specs.Finding.{place_in}
use Rattle.elab_flat_graphs.specs.Graphs.{graph_of}
use Rattle.elab_step.specs.Placing.{placed_at}
use Rattle.elab_step.proofs.Making.{place_below}
use Rattle.elab_step.proofs.Placing.{set_placed}
use Rattle.elab_step.proofs.places.add_place.Goals as goal

pub index_mut-requires : goal.index_mut-requires
index_mut-requires c =
    let e : place_in c.args.names.now c.bytes.result.now ≡ Some c.in-Some.at = sym c.place.ensures ∙ c.in-Some.is in
    let r = place_below c.args.names.now c.bytes.result.now 0 c.in-Some.at e in
    let lt : c.in-Some.at < length c.args.lists.now.items = omega (arith, r, c.requires) in
    omega (arith, lt)

pub returns-in_ok-end_in-clause-placed : goal.returns-in_ok-end_in-clause-placed
returns-in_ok-end_in-clause-placed c =
    let e : place_in c.args.names.now c.bytes.result.now ≡ Some c.in-Some.at = sym c.place.ensures ∙ c.in-Some.is in
    let r = place_below c.args.names.now c.bytes.result.now 0 c.in-Some.at e in
    let lt : c.in-Some.at < length c.args.lists.now.items = omega (arith, r, c.requires) in
    let at : place_in c.args.names.now c.args.name.now ≡ Some c.in-Some.at = ap (λ z. place_in c.args.names.now z) (sym c.bytes.ensures) ∙ e in
    set_placed c.args.lists.now.items c.in-Some.at c.args.place c.end_in.new.list c.index_mut.result.now lt c.index_mut.ensures.value c.in_ok-end_in.ensures
    ∙ ap (λ o. placed_at o c.args.place (graph_of c.args.lists.now.items)) (sym at)
