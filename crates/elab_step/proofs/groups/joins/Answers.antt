use Rattle.std.proofs.Common.{arith, length, ap, ◌∙◌, ◌≡◌, ◌⊎◌, subst, List, ℕ, []}
use Rattle.elab_flat_graphs.specs.Graphs.{graph_of, successors}
use Rattle.elab_step.specs.Groups.{first_list}
use Rattle.elab_step.proofs.Placing.{placed_long}
use Rattle.elab_step.proofs.Grouping.{all_below, none_numbered}
use Rattle.elab_step.proofs.groups.joins.Goals as goal

pub none_has-requires : goal.none_has-requires
none_has-requires c k l =
    let g = graph_of c.args.graph.now in
    let r = all_below g c.args.net c.list_of.result.now c.requires.vertices c.list_of.ensures k l in
    let e = ap length c.deref-2.ensures.value in
    let n = c.requires.numbers in
    let m = placed_long c.args.graph.now in
    omega (arith, r, e, n, m)

pub returns : goal.returns
returns c ok =
    let ps = graph_of c.args.places.now in
    let P : List ℕ → Type 0 = λ z. (z ≡ []) ⊎ (successors ps c.args.net ≡ first_list ps z) in
    record {
      shares = subst P c.deref.ensures.value (c.shares.ensures c.if-not-shares.false);
      apart = none_numbered c.deref-2.result.now c.args.groups.now.numbers.items c.list_of.result.now (successors (graph_of c.args.graph.now) c.args.net) c.len.result (length c.args.groups.now.done.items)
          c.deref-2.ensures.value c.list_of.ensures (c.len.ensures ∙ c.args.groups.now.done.ok.0) (c.none_has.ensures ok);
    }
