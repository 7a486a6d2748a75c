use Rattle.std.proofs.Common.{map, refl, subst, ap, ◌∙◌}
use Rattle.std.proofs.lemmas.List.{take_all}
use Rattle.std.specs.Option.{option_map}
use Rattle.std.specs.Prelude.{option_to_list}
use Rattle.vlog_tree_runs.specs.Contents.{blocks_in}
use Rattle.elab_flat_scopes.specs.Borrowed.{block_meant}
use Rattle.elab_flat_drivers.proofs.Naming.{meant_at}
use Rattle.elab_flat_instances.specs.Unfolding.{scope_meant}
use Rattle.elab_flat_instances.proofs.Children.{refuses_map}
use Rattle.elab_flat_clocks.specs.Driving.{timed_meant, AreTimingsBy, BreaksTiming, BreaksTimings}
use Rattle.elab_flat_clocks.proofs.Driven.{more_timings}
use Rattle.elab_flat_clocks.proofs.timings.timings_among.Goals as goal

pub returns-in-Err-clause-err : goal.returns-in-Err-clause-err
returns-in-Err-clause-err c =
    let s = scope_meant c.args.scope.now in
    let k = block_meant c.block-item.result in
    let blocks = c.args.blocks.now in
    refuses_map (BreaksTiming s c.args.table.now k) (BreaksTimings s c.args.table.now)
    (λ f h. (k, meant_at block_meant blocks blocks (blocks_in s.module') c.loop-block.block-index c.block-item.result c.loop-block-test.true c.block-item.is refl c.requires, h)) c.in-Err.fault c.in-Err.ensures.err

pub loop-block-preserved : goal.loop-block-preserved
loop-block-preserved c =
    more_timings c.args.table.now c.args.blocks.now c.loop-block.block-index c.block-item.result c.loop-block-test.true c.block-item.is (map timed_meant c.loop-block.all.items) (option_to_list (option_map timed_meant c.in-Ok.timing))
    (map timed_meant c.add_timing.new.all.items) c.loop-block.invariant c.in-Ok.ensures.ok c.in_ok-add_timing-in-Ok.ensures

pub returns-clause-ok : goal.returns-clause-ok
returns-clause-ok c =
    subst (λ ks. AreTimingsBy c.args.table.now ks (map timed_meant c.loop-block.all.items)) (ap (map block_meant) (take_all c.loop-block.block-index c.args.blocks.now c.loop-block-test.false) ∙ c.requires) c.loop-block.invariant
