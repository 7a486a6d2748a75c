use Rattle.std.proofs.Common.{◌≡◌, true, false, map, refl, sym, ap, ◌∙◌, subst}
use Rattle.vlog_tree_runs.specs.Places.{Among}
use Rattle.elab_flat_drivers.specs.Parts.{part_meant}
use Rattle.elab_flat_drivers.proofs.Naming.{meant_at}
use Rattle.mem_faults.specs.Used.{is_nested}
use Rattle.mem_faults.proofs.Surveying.{part_later, part_nowhere}
use Rattle.mem_faults.proofs.survey.Survey.nested.Goals as goal

pub returns-then-branch-clause-some : goal.returns-then-branch-clause-some
returns-then-branch-clause-some c = (
  part_meant c.part-item.result,
  meant_at part_meant c.deref-part-items.result.now c.args.self.now.uses.items _ c.loop-part.part-index c.part-item.result c.loop-part-test.true c.part-item.is c.deref-part-items.ensures.value refl,
  sym c.in_ok-is_nested.ensures ∙ c.if-branch.true,
  sym c.name_of.ensures.name,
)

pub loop-part-preserved : goal.loop-part-preserved
loop-part-preserved c = λ q h k.
    part_later (is_nested c.args.self.now.memories) c.deref-part-items.result.now c.loop-part.part-index c.part-item.result q c.loop-part-test.true c.part-item.is (sym c.in_ok-is_nested.ensures ∙ c.if-branch.false) k (c.loop-part.invariant q h k)

pub returns-clause-none : goal.returns-clause-none
returns-clause-none c = λ q h k.
    part_nowhere (is_nested c.args.self.now.memories) c.deref-part-items.result.now c.loop-part.part-index q c.loop-part-test.false
    (c.loop-part.invariant q (subst (λ z. Among (map part_meant z) q) (sym c.deref-part-items.ensures.value) h) k)
