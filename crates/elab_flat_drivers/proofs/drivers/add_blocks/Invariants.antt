use Rattle.std.proofs.Common.{◌≡◌, ◌++◌, drop, map}
use Rattle.vlog_tree_runs.specs.declared.flat.Always.{Always}
use Rattle.vlog_tree_runs.specs.Blocks.{lefts}
use Rattle.elab_flat_faults.specs.Drivers.{Block}
use Rattle.elab_flat_drivers.specs.Driving.{driver_meant}
use Rattle.elab_flat_drivers.proofs.drivers.add_blocks.Given as goal

abbrev pub invariant-loop-block : goal.invariant-loop-block
invariant-loop-block l =
    map driver_meant l.all.items ++ map (λ (k : Always). Block (lefts k.body)) (drop l.block-index l.blocks)
    ≡ map driver_meant l.initial.all.items ++ map (λ (k : Always). Block (lefts k.body)) l.blocks
