use Rattle.std.proofs.Common.{◌++◌, ap, ◌∙◌}
use Rattle.elab_step_flow.specs.Sets.{tables}
use Rattle.elab_step_flow.proofs.Edging.{Row}
use Rattle.elab_step_flow.proofs.Branching.{ends}
use Rattle.elab_step_flow.proofs.flow.BlockFlow.join.Goals as goal

pub returns-clause-joined : goal.returns-clause-joined
returns-clause-joined c =
    ends c.args.branches.now (tables c.args.self.now) (tables c.blank.new.self) (tables c.add_all.new.self) c.deref.result.now c.deref-2.result.now _ c.deref.ensures.value c.deref-2.ensures.value c.blank.ensures.blank c.in_ok-add_all.ensures.added
    (c.in_ok-extend_from_slice.ensures.items ∙ (λ r. ap (λ (z : Row). z.items) (c.in_ok-add_all.ensures.outside ∙ c.blank.ensures.outside) r ++ c.deref-3.ensures.value r))
