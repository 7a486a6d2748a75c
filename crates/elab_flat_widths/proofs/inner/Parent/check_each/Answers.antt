use Rattle.std.proofs.Common.{refl}
use Rattle.vlog_tree_runs.specs.Contents.{instances_in}
use Rattle.elab_flat_scopes.specs.Borrowed.{inner_meant}
use Rattle.elab_flat_instances.specs.Unfolding.{scope_meant}
use Rattle.elab_flat_drivers.proofs.Naming.{meant_at}
use Rattle.elab_flat_widths.proofs.Connections.{among_fault}
use Rattle.elab_flat_widths.proofs.inner.Parent.check_each.Goals as goal

pub check_inner-requires-clause-sound : goal.check_inner-requires-clause-sound
check_inner-requires-clause-sound c =
    c.requires.sound (inner_meant c.inner-item.result)
    (meant_at inner_meant c.args.instances.now c.args.instances.now (instances_in c.args.self.now.scope.now.text.now) c.loop-inner.inner-index c.inner-item.result c.loop-inner-test.true c.inner-item.is refl c.requires.instances)

pub returns-in-Err-clause-err : goal.returns-in-Err-clause-err
returns-in-Err-clause-err c =
    among_fault c.args.self.now.modules.now c.args.self.now.path.now (scope_meant c.args.self.now.scope.now) (inner_meant c.inner-item.result)
    (meant_at inner_meant c.args.instances.now c.args.instances.now (instances_in c.args.self.now.scope.now.text.now) c.loop-inner.inner-index c.inner-item.result c.loop-inner-test.true c.inner-item.is refl c.requires.instances)
    c.in-Err.fault c.in-Err.ensures.err
