use Rattle.std.proofs.Common.{refl, map}
use Rattle.vlog_tree_runs.specs.Places.{Among}
use Rattle.vlog_tree_runs.specs.Contents.{Block}
use Rattle.vlog_tree_runs.specs.Scopes.{place_of}
use Rattle.elab_flat_scopes.specs.Borrowed.{block_meant}
use Rattle.elab_flat_instances.specs.Unfolding.{scope_meant}
use Rattle.elab_flat_drivers.proofs.Naming.{meant_at}
use Rattle.elab_flat_widths.specs.declared.violation.Violation.{Violation}
use Rattle.elab_flat_widths.specs.Usages.{BreaksBody}
use Rattle.elab_flat_widths.proofs.Takes.{fails_map}
use Rattle.elab_flat_widths.proofs.block.check_each.Goals as goal

pub check_body-requires-clause-signals : goal.check_body-requires-clause-signals
check_body-requires-clause-signals c =
    c.requires.signals (block_meant c.block-item.result) (meant_at block_meant c.args.blocks.now c.args.blocks.now _ c.loop-block.block-index c.block-item.result c.loop-block-test.true c.block-item.is refl refl)

pub returns-in-Err-clause-err : goal.returns-in-Err-clause-err
returns-in-Err-clause-err c =
    let p = place_of (scope_meant c.args.scope.now) in
    let k = block_meant c.block-item.result in
    fails_map (BreaksBody p k.body) (λ (w : Violation). (x : Block) × Among (map block_meant c.args.blocks.now) x × BreaksBody p x.body w)
    (λ w h. (k, meant_at block_meant c.args.blocks.now c.args.blocks.now _ c.loop-block.block-index c.block-item.result c.loop-block-test.true c.block-item.is refl refl, h)) c.in-Err.violation c.in-Err.ensures.err
