use Rattle.std.proofs.Common.{ap, ◌∙◌, map, filter, length, arith}
use Rattle.elab_flat_drivers.specs.Parts.{part_meant}
use Rattle.mem_faults.specs.Used.{is_indexed}
use Rattle.mem_faults.proofs.Surveying.{one_passed, all_counted}
use Rattle.mem_faults.proofs.survey.Survey.indexed.Goals as goal

pub loop-part-preserved : goal.loop-part-preserved
loop-part-preserved c = (
  one_passed (is_indexed c.args.self.now.memories) c.deref-part-items.result.now c.loop-part.part-index c.part-item.result _ _ _ c.loop-part-test.true c.part-item.is c.uses_once-count.ensures.value c.loop-part.invariant.0,
  omega (arith, c.uses_once-count.ensures.most, c.loop-part.invariant.1),
)

pub returns : goal.returns
returns c =
    all_counted (is_indexed c.args.self.now.memories) c.deref-part-items.result.now c.loop-part.part-index _ _ c.loop-part-test.false c.loop-part.invariant.0
    ∙ ap (λ z. length (filter (is_indexed c.args.self.now.memories) (map part_meant z))) c.deref-part-items.ensures.value
