use Rattle.std.proofs.Common.{◌≡◌, length, take}
use Rattle.elab_step_flow.specs.Branches.{PutTo}
use Rattle.elab_step_flow.specs.Sets.{tables, IsSized}
use Rattle.elab_step_flow.proofs.flow.BlockFlow.put_back.Given as goal

abbrev pub invariant-loop-spot : goal.invariant-loop-spot
invariant-loop-spot l = record {
  done : PutTo (take l.spot-index l.spots) (tables l.initial.self) (tables l.self);
  outside : l.self.outside ≡ l.initial.self.outside;
  sized : IsSized (length l.initial.self.unset.items) l.self;
}
