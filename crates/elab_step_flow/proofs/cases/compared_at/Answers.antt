use Rattle.std.proofs.Common.{ℕ, Bool, max, map, ◌&&◌}
use Rattle.vlog_tree_runs.specs.Blocks.{widest, all_signed}
use Rattle.elab_step_flow.specs.Cases.{expr_meant}
use Rattle.elab_step_flow.proofs.Casing.{meant_among, longest_on, longest_end}
use Rattle.elab_step_flow.proofs.cases.compared_at.Goals as goal

pub shape-requires : goal.shape-requires
shape-requires c =
    c.requires.formed c.label-item.result.now (meant_among c.args.labels.now c.loop-label.label-index c.label-item.result c.loop-label-test.true c.label-item.is)

pub loop-label-preserved : goal.loop-label-preserved
loop-label-preserved c =
    let v = c.args.valuation.now in
    let labels = c.args.labels.now in
    let all = map expr_meant labels in
    let m : ℕ = max c.args.own.0 (widest v all) in
    let t : Bool = c.args.own.1 && all_signed v all in
    record {
      length = c.longer-longest.ensures.length;
      longest = longest_on v labels c.loop-label.label-index c.label-item.result c.loop-label.longest.0 c.in_ok-next.next.0 m c.loop-label.longest.1 c.in_ok-next.next.1 t c.longer-longest.result.0 c.longer-longest.result.1 c.loop-label-test.true
          c.label-item.is c.in_ok-next.ensures.width c.in_ok-next.ensures.sign c.longer-longest.ensures.width c.longer-longest.ensures.sign c.loop-label.invariant.longest;
    }

pub returns-clause-width : goal.returns-clause-width
returns-clause-width c =
    let v = c.args.valuation.now in
    let all = map expr_meant c.args.labels.now in
    (longest_end v c.args.labels.now c.loop-label.label-index c.loop-label.longest.0 (max c.args.own.0 (widest v all)) c.loop-label.longest.1 (c.args.own.1 && all_signed v all) c.loop-label-test.false
    c.loop-label.invariant.longest).0

pub returns-clause-sign : goal.returns-clause-sign
returns-clause-sign c =
    let v = c.args.valuation.now in
    let all = map expr_meant c.args.labels.now in
    (longest_end v c.args.labels.now c.loop-label.label-index c.loop-label.longest.0 (max c.args.own.0 (widest v all)) c.loop-label.longest.1 (c.args.own.1 && all_signed v all) c.loop-label-test.false
    c.loop-label.invariant.longest).1
