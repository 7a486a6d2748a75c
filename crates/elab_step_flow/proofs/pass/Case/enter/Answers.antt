use Rattle.std.proofs.Common.{◌∷◌, map}
use Rattle.elab_step_flow.specs.Cases.{expr_meant}
use Rattle.elab_step_flow.specs.Sets.{tables}
use Rattle.elab_step_flow.proofs.Assigning.{entered, enter_changes}
use Rattle.elab_step_flow.proofs.pass.Case.enter.Goals as goal

pub returns-clause-enters : goal.returns-clause-enters
returns-clause-enters c =
    entered c.args.scope.now c.args.around.now (c.args.self.now.subject.now ∷ map expr_meant c.args.self.now.labels.now) (tables c.args.flow.now) (tables c.enter.new.self) c.in_ok-read.read.items c.deref.result.now c.in_ok-inner.inner.items
    c.deref.ensures.value c.in_ok-read.ensures c.in_ok-inner.ensures.reads c.in_ok-inner.ensures.counts

pub returns-clause-changes : goal.returns-clause-changes
returns-clause-changes c = enter_changes c.deref.result.now (tables c.args.flow.now) (tables c.enter.new.self) c.in_ok-inner.ensures.reads c.in_ok-inner.ensures.grows
