use Rattle.std.proofs.Common.{◌≡◌, Bool, drop}
use Rattle.vlog_tree_runs.specs.Places.{Name, Cycle, Place}
use Rattle.elab_step_blocks.specs.Cases.{each_default}
use Rattle.elab_step_blocks.proofs.blocks.default_at.Given as goal

abbrev pub invariant-loop-item : goal.invariant-loop-item
invariant-loop-item l = record {
  at : l.at ≡ l.item-index;
  skipped : (o : Bool) (p : Place) (c d : Cycle) (x : Name) → each_default o p l.items c d x ≡ each_default o p (drop l.item-index l.items) c d x;
}
