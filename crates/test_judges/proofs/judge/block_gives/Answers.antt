use Rattle.std.proofs.Common.{false, ◌≡◌, ◌≤◌, List, map, sym, ap, ◌∙◌, subst}
use Rattle.vlog_tree.specs.declared.stmt.Lval.{Lval}
use Rattle.vlog_tree_runs.specs.declared.flat.Signal.{Signal}
use Rattle.vlog_tree_runs.specs.Places.{Cycle}
use Rattle.vlog_tree_runs.specs.Blocks.{run}
use Rattle.elab_flat_drivers.specs.Parts.{part_meant}
use Rattle.elab_step_expr.proofs.Kept.{ready_kept}
use Rattle.elab_step_laws.specs.Laws.{place_over}
use Rattle.elab_step_nets.specs.Asked.{at_rest}
use Rattle.elab_step_nets.proofs.Boards.{shown_kept}
use Rattle.test_judges.specs.Values.{AreValues, held}
use Rattle.test_judges.specs.Numbers.{nought}
use Rattle.test_judges.specs.Driving.{bits_in, body_parts, ArePartsReady}
use Rattle.test_judges.specs.Judging.{each_same}
use Rattle.test_judges.proofs.Holding.{all_of, held_leaves}
use Rattle.test_judges.proofs.Readying.{body_ready}
use Rattle.test_judges.proofs.Tests.{shown_same, masks_fit, later, later_below, later_long, held_now}
use Rattle.test_judges.proofs.judge.block_gives.Goals as goal

pub masks-requires-clause-narrow : goal.masks-requires-clause-narrow
masks-requires-clause-narrow c = all_of (λ (g : Signal). g.width ≤ 64) c.as_slice.result.now c.args.flat.now.signals c.as_slice.ensures (λ g m. (c.requires.can.wide g m).1)

pub masks-requires-clause-ready : goal.masks-requires-clause-ready
masks-requires-clause-ready c = subst ArePartsReady (sym (ap (map part_meant) c.deref.ensures.value ∙ c.in_ok-parts.ensures)) (body_ready (at_rest c.args.flat.now) c.args.block.now.body c.requires.body)

pub run-requires-clause-set : goal.run-requires-clause-set
run-requires-clause-set c = record {
  ready = c.in_ok-state.ensures.set.ready;
  seen = ready_kept c.in_ok-before.before c.board.new.dag c.board-2.new.dag c.in_ok-state.ensures.keeps c.in_ok-before.ensures.set.ready;
  same = c.in_ok-before.ensures.rest ∙ sym c.in_ok-state.ensures.rest;
  apart = c.in_ok-state.ensures.set.apart;
}

pub leaves_same-requires-clause-masks : goal.leaves_same-requires-clause-masks
leaves_same-requires-clause-masks c =
    let gs = c.args.flat.now.signals in
    let qs = map part_meant c.deref.result.now in
    let e : c.deref-2.result.now ≡ map (bits_in qs) gs = c.deref-2.ensures.value ∙ c.in_ok-driven.ensures ∙ ap (map (bits_in qs)) c.as_slice.ensures in
    later_below gs c.board-2.new.dag c.in_ok-state.state c.run.new.state c.args.now.now c.in_ok-state.ensures.held c.run.ensures.same c.deref-2.result.now (subst (AreValues gs) (sym e) (masks_fit qs gs))

pub leaves_same-requires-clause-values : goal.leaves_same-requires-clause-values
leaves_same-requires-clause-values c =
    later_below c.args.flat.now.signals c.board-2.new.dag c.in_ok-state.state c.run.new.state c.args.now.now c.in_ok-state.ensures.held c.run.ensures.same c.args.next.now c.requires.next

pub leaves_same-requires-clause-each_mask : goal.leaves_same-requires-clause-each_mask
leaves_same-requires-clause-each_mask c =
    let gs = c.args.flat.now.signals in
    let qs = map part_meant c.deref.result.now in
    let e : c.deref-2.result.now ≡ map (bits_in qs) gs = c.deref-2.ensures.value ∙ c.in_ok-driven.ensures ∙ ap (map (bits_in qs)) c.as_slice.ensures in
    later_long gs c.board-2.new.dag c.in_ok-state.state c.run.new.state c.args.now.now c.in_ok-state.ensures.held c.run.ensures.same c.deref-2.result.now (subst (AreValues gs) (sym e) (masks_fit qs gs))

pub leaves_same-requires-clause-each_value : goal.leaves_same-requires-clause-each_value
leaves_same-requires-clause-each_value c =
    later_long c.args.flat.now.signals c.board-2.new.dag c.in_ok-state.state c.run.new.state c.args.now.now c.in_ok-state.ensures.held c.run.ensures.same c.args.next.now c.requires.next

pub returns : goal.returns
returns c =
    let gs = c.args.flat.now.signals in
    let vs = c.args.now.now in
    let a = c.board.new.dag in
    let b = c.board-2.new.dag in
    let before = c.in_ok-before.before in
    let ls = c.in_ok-state.state in
    let ms = c.run.new.state in
    let k : Cycle = held gs vs in
    let d : Cycle = run false (place_over gs) c.args.block.now.body k k in
    let qs = map part_meant c.deref.result.now in
    let p : qs ≡ body_parts c.args.block.now.body = ap (map part_meant) c.deref.ensures.value ∙ c.in_ok-parts.ensures in
    let e : c.deref-2.result.now ≡ map (bits_in qs) gs = c.deref-2.ensures.value ∙ c.in_ok-driven.ensures ∙ ap (map (bits_in qs)) c.as_slice.ensures in
    let first = shown_kept nought before a b k c.in_ok-state.ensures.keeps c.in_ok-before.ensures.set.ready (held_now nought a gs before vs c.requires.can.distinct c.in_ok-before.ensures.held) in
    let shown = c.in_ok-run.ensures.runs gs nought k k (held_leaves b gs ls vs c.in_ok-state.ensures.held) first (held_now nought b gs ls vs c.requires.can.distinct c.in_ok-state.ensures.held) in
    rw c.if-not-block.false
    (c.in_ok-same.ensures
    ∙ shown_same nought c.run.new.dag d c.deref-2.result.now gs ms c.args.next.now (later gs b ls ms vs c.in_ok-state.ensures.held c.run.ensures.same) shown
    ∙ ap (λ z. each_same d z gs c.args.next.now) (e ∙ ap (λ (z : List Lval). map (bits_in z) gs) p))
