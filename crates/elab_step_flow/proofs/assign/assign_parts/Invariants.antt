use Rattle.std.proofs.Common.{length, map, take}
use Rattle.elab_flat_drivers.specs.Parts.{part_meant}
use Rattle.elab_step_flow.specs.Assigned.{PartsSet}
use Rattle.elab_step_flow.specs.Sets.{tables, IsSized}
use Rattle.elab_step_flow.proofs.assign.assign_parts.Given as goal

abbrev pub invariant-loop-part : goal.invariant-loop-part
invariant-loop-part l = record {
  put : PartsSet l.scope (map part_meant (take l.part-index l.parts)) l.sources (tables l.initial.flow) (tables l.flow);
  sized : IsSized (length l.scope) l.flow;
}
