use Rattle.elab_flat_drivers.specs.Parts.{part_meant}
use Rattle.elab_step_flow.specs.Sets.{tables}
use Rattle.elab_step_flow.proofs.Assigning.{none_set, parts_next, parts_end}
use Rattle.elab_step_flow.proofs.Setting.{among_map}
use Rattle.elab_step_flow.proofs.assign.assign_parts.Goals as goal

pub assign_part-requires-clause-ready : goal.assign_part-requires-clause-ready
assign_part-requires-clause-ready c = c.requires.ready (part_meant c.part-item.result) (among_map c.args.parts.now c.loop-part.part-index c.part-item.result c.loop-part-test.true c.part-item.is)

pub loop-part-init : goal.loop-part-init
loop-part-init c = record { put = none_set c.args.scope.now c.args.sources.now (tables c.args.flow.now); sized = c.requires.sized }

pub loop-part-preserved : goal.loop-part-preserved
loop-part-preserved c = record {
  put = parts_next c.args.scope.now c.args.sources.now c.args.parts.now c.loop-part.part-index c.part-item.result (tables c.args.flow.now) (tables c.loop-part.flow) (tables c.assign_part.new.flow) c.loop-part-test.true c.part-item.is c.loop-part.invariant.put
      c.in_ok-assign_part.ensures.set;
  sized = c.in_ok-assign_part.ensures.sized;
}

pub returns-clause-set : goal.returns-clause-set
returns-clause-set c = parts_end c.args.scope.now c.args.sources.now c.args.parts.now c.loop-part.part-index (tables c.args.flow.now) (tables c.loop-part.flow) c.loop-part-test.false c.loop-part.invariant.put
