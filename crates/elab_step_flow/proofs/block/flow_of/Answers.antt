use Rattle.std.proofs.Common.{◌∙◌, subst}
use Rattle.elab_step_flow.specs.Passes.{IsStart}
use Rattle.elab_step_flow.specs.Sets.{tables}
use Rattle.elab_step_flow.proofs.Starting.{block_shows}
use Rattle.elab_step_flow.proofs.block.flow_of.Goals as goal

pub returns-clause-shows : goal.returns-clause-shows
returns-clause-shows c =
    block_shows c.args.scope.now c.args.body.now c.deref.result.now (tables c.in_ok-flow.flow) (tables c.pass.new.flow) c.requires.body.declared (c.deref.ensures.value ∙ c.new-around.ensures.items)
    (subst (λ gs. IsStart gs (tables c.in_ok-flow.flow)) c.list.ensures c.in_ok-flow.ensures.start) c.in_ok-pass.ensures.passes
