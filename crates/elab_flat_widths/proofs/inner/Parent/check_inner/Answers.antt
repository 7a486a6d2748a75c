use Rattle.std.proofs.Common.{subst}
use Rattle.vlog_tree_runs.specs.Scopes.{Scope, place_of, child}
use Rattle.elab_flat_scopes.specs.Borrowed.{inner_meant}
use Rattle.elab_flat_instances.specs.Unfolding.{scope_meant}
use Rattle.elab_flat_instances.proofs.Walks.{same_some}
use Rattle.elab_flat_widths.specs.Texts.{AreSoundConnections}
use Rattle.elab_flat_widths.proofs.Connections.{inner_fault}
use Rattle.elab_flat_widths.proofs.inner.Parent.check_inner.Goals as goal

pub returns-in-Ok-check_connections-clause-ok : goal.returns-in-Ok-check_connections-clause-ok
returns-in-Ok-check_connections-clause-ok c = λ u is.
    let ms = c.args.self.now.modules.now in
    let s = scope_meant c.args.self.now.scope.now in
    let i = inner_meant c.args.inner.now in
    subst (λ (t : Scope). AreSoundConnections (place_of s) t i) (same_some (child ms s i) (scope_meant c.in-Ok.child) u c.in-Ok.ensures.ok is) c.in-Ok-check_connections.ensures.ok

pub returns-clause-err : goal.returns-clause-err
returns-clause-err c =
    inner_fault c.args.self.now.modules.now c.args.self.now.path.now (scope_meant c.args.self.now.scope.now) (inner_meant c.args.inner.now) (scope_meant c.in-Ok.child) c.in-Ok.ensures.ok c.in-Err-check_connections.fault c.in-Err-check_connections.ensures.err
