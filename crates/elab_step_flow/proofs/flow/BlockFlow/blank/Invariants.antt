use Rattle.std.proofs.Common.{◌≡◌, length, take}
use Rattle.elab_step_flow.specs.Branches.{BlankTo}
use Rattle.elab_step_flow.specs.Sets.{tables, IsSized}
use Rattle.elab_step_flow.proofs.flow.BlockFlow.blank.Given as goal

abbrev pub invariant-loop-place : goal.invariant-loop-place
invariant-loop-place l = record {
  done : BlankTo (take l.place-index l.places) (tables l.initial.self) (tables l.self);
  outside : l.self.outside ≡ l.initial.self.outside;
  sized : IsSized (length l.initial.self.unset.items) l.self;
}
