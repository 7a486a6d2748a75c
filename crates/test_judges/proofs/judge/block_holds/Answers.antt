use Rattle.std.proofs.Common.{true, sym, ap, ◌∙◌, subst}
use Rattle.vlog_tree_runs.specs.Blocks.{run}
use Rattle.vlog_tree_runs.specs.Places.{Cycle}
use Rattle.elab_step_laws.specs.Laws.{place_over}
use Rattle.test_judges.specs.Values.{AreValues, held}
use Rattle.test_judges.specs.Numbers.{nought}
use Rattle.test_judges.specs.Judging.{each_same}
use Rattle.test_judges.proofs.Holding.{held_leaves}
use Rattle.test_judges.proofs.Tests.{shown_same, whole_fit, later, later_below, later_long, held_now}
use Rattle.test_judges.proofs.judge.block_holds.Goals as goal

pub leaves_same-requires-clause-masks : goal.leaves_same-requires-clause-masks
leaves_same-requires-clause-masks c =
    let gs = c.args.flat.now.signals in
    later_below gs c.board.new.dag c.in_ok-state.state c.run.new.state c.args.values.now c.in_ok-state.ensures.held c.run.ensures.same c.args.masks.now (subst (AreValues gs) (sym c.requires.masks) (whole_fit gs))

pub leaves_same-requires-clause-values : goal.leaves_same-requires-clause-values
leaves_same-requires-clause-values c =
    later_below c.args.flat.now.signals c.board.new.dag c.in_ok-state.state c.run.new.state c.args.values.now c.in_ok-state.ensures.held c.run.ensures.same c.args.values.now c.requires.values

pub leaves_same-requires-clause-each_mask : goal.leaves_same-requires-clause-each_mask
leaves_same-requires-clause-each_mask c =
    let gs = c.args.flat.now.signals in
    later_long gs c.board.new.dag c.in_ok-state.state c.run.new.state c.args.values.now c.in_ok-state.ensures.held c.run.ensures.same c.args.masks.now (subst (AreValues gs) (sym c.requires.masks) (whole_fit gs))

pub leaves_same-requires-clause-each_value : goal.leaves_same-requires-clause-each_value
leaves_same-requires-clause-each_value c =
    later_long c.args.flat.now.signals c.board.new.dag c.in_ok-state.state c.run.new.state c.args.values.now c.in_ok-state.ensures.held c.run.ensures.same c.args.values.now c.requires.values

pub returns : goal.returns
returns c =
    let gs = c.args.flat.now.signals in
    let vs = c.args.values.now in
    let a = c.board.new.dag in
    let ls = c.in_ok-state.state in
    let ms = c.run.new.state in
    let k : Cycle = held gs vs in
    let d : Cycle = run true (place_over gs) c.args.block.now.body k k in
    let shown = c.in_ok-run.ensures.runs gs nought k k (held_leaves a gs ls vs c.in_ok-state.ensures.held) tt (held_now nought a gs ls vs c.requires.can.distinct c.in_ok-state.ensures.held) in
    rw c.if-block.false (c.in_ok-same.ensures
    ∙ shown_same nought c.run.new.dag d c.args.masks.now gs ms vs (later gs a ls ms vs c.in_ok-state.ensures.held c.run.ensures.same) shown
    ∙ ap (λ z. each_same d z gs vs) c.requires.masks)
