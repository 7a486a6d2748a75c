use Rattle.std.proofs.Common.{subst}
use Rattle.vlog_tree_runs.specs.Places.{Among}
use Rattle.elab_flat_scopes.specs.Borrowed.{inner_meant}
use Rattle.elab_flat_names.proofs.Searches.{among_here}
use Rattle.elab_flat_names.proofs.check.check_inners.Goals as goal

pub check_inner-requires-clause-inner : goal.check_inner-requires-clause-inner
check_inner-requires-clause-inner c =
    subst (λ is. Among is (inner_meant c.inner-item.result)) c.requires.instances
    (among_here inner_meant c.args.instances.now c.loop-inner.inner-index c.inner-item.result c.loop-inner-test.true c.inner-item.is)
