use Rattle.std.proofs.Common.{arith, true}
use Rattle.vlog_tree_runs.specs.Places.{Cycle}
use Rattle.vlog_tree_runs.specs.Blocks.{run}
use Rattle.vlog_tree_runs.specs.Cycles.{flat_place}
use Rattle.elab_step_nets.specs.Boards.{statements, statement_at}
use Rattle.elab_step_nets.proofs.Driving.{block_driven, block_unclocked, nets_moved}
use Rattle.elab_step_nets.proofs.nets.drive.Goals as goal

pub drive_block-requires-clause-block : goal.drive_block-requires-clause-block
drive_block-requires-clause-block c = block_unclocked c.args.text.now.flat.now c.len-assigns.result c.args.place c.len-assigns.ensures (omega arith) c.requires.process

pub returns-then-place-assigns-clause-driven : goal.returns-then-place-assigns-clause-driven
returns-then-place-assigns-clause-driven c =
    block_driven c.args.text.now c.drive_block.new.text c.len-assigns.result c.args.place c.args.nets.now c.args.state.now c.drive_block.new.state c.args.dag.now c.drive_block.new.dag c.len-assigns.ensures (omega arith) c.requires.process
    c.in_ok-drive_block.ensures.driven

pub returns-clause-driven : goal.returns-clause-driven
returns-clause-driven c =
    let p = c.args.text.now in
    let f = p.flat.now in
    let is = c.args.nets.now in
    let ls = c.args.state.now in
    let ms = c.drive_assign.new.state in
    let a = c.args.dag.now in
    let b = c.drive_assign.new.dag in
    let ready = c.requires.ready in
    let driven = c.in_ok-drive_assign.ensures in
    let step : Cycle → Cycle = λ d. run true (flat_place f) (statement_at (statements f) c.args.place) d d in
    let moved = nets_moved f.signals is step ls ms a b ready.board driven.board driven.keeps ready.within driven.shows in
    record { same = c.in_ok-renew.ensures.same; board = driven.board; processes = c.in_ok-renew.ensures.processes ls a b ready.processes moved; shows = driven.shows }
