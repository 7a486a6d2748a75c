use Rattle.std.proofs.Common.{arith, ◌≡◌, ◌≤◌, ◌<◌, [], List, ℕ, length, get_or, take, refl, sym, ap, ◌∙◌, subst, ◌⊎◌, inl, inr}
use Rattle.std.proofs.lemmas.List.{take_all}
use Rattle.vlog_tree_runs.specs.Places.{Among}
use Rattle.elab_flat_laws.proofs.Lists.{append_right}
use Rattle.elab_step_blocks.proofs.Joins.{take_next}
use Rattle.elab_flat_graphs.specs.Graphs.{graph_of}
use Rattle.elab_step.specs.declared.groups.Grouping.{Grouping}
use Rattle.elab_step.specs.Groups.{in_row, IsGrouping, Joins, AreGroupsOf}
use Rattle.elab_step_copies.proofs.Forgetting.{number_among}
use Rattle.elab_step.proofs.Placing.{placed_long}
use Rattle.elab_step.proofs.Grouping.{among_take, begun, closed, added, all_done}
use Rattle.elab_step.proofs.groups.groups_of.Goals as goal
use Rattle.elab_step.proofs.groups.groups_of.Goals.{then-not-joins+in_ok-close, else-not-joins}

pub loop-net-init : goal.loop-net-init
loop-net-init c =
    let s = c.in_ok-groups.groups in
    let m = placed_long c.args.graph.now in
    begun (graph_of c.args.graph.now) (graph_of c.args.places.now) s c.in_ok-groups.ensures.done c.in_ok-groups.ensures.last (c.in_ok-groups.ensures.numbers ∙ sym m)

pub joins-requires-clause-last : goal.joins-requires-clause-last
joins-requires-clause-last c i m =
    let s = c.loop-net.groups in
    let vs = c.args.order.now in
    c.requires.order i (among_take vs c.loop-net.net-index i (subst (λ z. Among z i) c.loop-net.invariant.all (append_right (in_row (graph_of s.done.items)) s.last.items i m)))

pub joins-requires-clause-net : goal.joins-requires-clause-net
joins-requires-clause-net c = c.requires.order _ (number_among c.args.order.now c.loop-net.net-index 0 (omega arith))

pub joins-requires-clause-numbers : goal.joins-requires-clause-numbers
joins-requires-clause-numbers c = c.loop-net.invariant.long ∙ placed_long c.args.graph.now

pub add-requires : goal.add-requires
add-requires c =
    let net = get_or c.args.order.now c.loop-net.net-index 0 in
    let r = c.requires.order _ (number_among c.args.order.now c.loop-net.net-index 0 (omega arith)) in
    let n = c.loop-net.invariant.long ∙ placed_long c.args.graph.now in
    let P : Grouping → Type 0 = λ z. net < length z.numbers.items in
    elim c.if-not-joins.branch [
      | then-not-joins+in_ok-close w ↦ let e = ap length w.in_ok-close.ensures.numbers in subst P (sym w.groups-is) (omega (arith, r, n, e))
      | else-not-joins w ↦ subst P (sym w.groups-is) (omega (arith, r, n))
    ]

pub loop-net-preserved : goal.loop-net-preserved
loop-net-preserved c =
    let g = graph_of c.args.graph.now in
    let ps = graph_of c.args.places.now in
    let vs = c.args.order.now in
    let i = c.loop-net.net-index in
    let net = get_or vs i 0 in
    let lt : i < length vs = omega arith in
    let r = c.requires.order net (number_among vs i 0 lt) in
    let m = placed_long c.args.graph.now in
    let within : net < length g = omega (arith, r, m) in
    let s = c.if-not-joins.groups in
    let P : Grouping → Type 0 = λ z. IsGrouping g ps (take i vs) z × ((z.last.items ≡ []) ⊎ Joins g ps z net) in
    let both : P s = elim c.if-not-joins.branch [
      | then-not-joins+in_ok-close w ↦
          subst P (sym w.groups-is) (
            closed g ps (take i vs) c.loop-net.groups w.close.new.self c.loop-net.invariant w.in_ok-close.ensures.done w.in_ok-close.ensures.last w.in_ok-close.ensures.numbers,
            inl w.in_ok-close.ensures.last,
          )
      | else-not-joins w ↦ subst P (sym w.groups-is) (c.loop-net.invariant, inr (c.joins.ensures w.if-not-joins.false))
    ] in
    let Q : List ℕ → Type 0 = λ z. IsGrouping g ps z c.add.new.self in
    subst Q (sym (take_next vs i net 0 lt refl))
    (added g ps (take i vs) net s c.add.new.self both.0 within both.1 c.in_ok-add.ensures.done c.in_ok-add.ensures.last c.in_ok-add.ensures.numbers)

pub returns : goal.returns
returns c =
    let g = graph_of c.args.graph.now in
    let ps = graph_of c.args.places.now in
    let vs = c.args.order.now in
    let i = c.loop-net.net-index in
    let le : length vs ≤ i = omega arith in
    let s = c.close-2.new.self in
    let h = closed g ps (take i vs) c.loop-net.groups s c.loop-net.invariant c.in_ok-close-2.ensures.done c.in_ok-close-2.ensures.last c.in_ok-close-2.ensures.numbers in
    let P : List ℕ → Type 0 = λ z. AreGroupsOf g ps z (graph_of s.done.items) in
    subst P (take_all i vs le) (all_done g ps (take i vs) s h c.in_ok-close-2.ensures.last)
