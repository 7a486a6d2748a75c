use Rattle.std.proofs.Common.{◌≡◌, List, [], drop, map, sym, ap, subst, ◌∙◌, ⊎_elim}
use Rattle.std.proofs.lemmas.List.{drop_all}
use Rattle.vlog_tree_runs.specs.Places.{Among}
use Rattle.vlog_tree_runs.specs.Contents.{signals_in, port_names}
use Rattle.vlog_tree_runs.specs.Scopes.{Given, place_of, given_to, decl_at}
use Rattle.elab_flat_scopes.specs.declared.given.Given.{Given as View}
use Rattle.elab_flat_scopes.specs.Borrowed.{given_meant, inner_meant}
use Rattle.elab_flat_instances.specs.Unfolding.{scope_meant}
use Rattle.elab_flat_drivers.proofs.Naming.{meant_at}
use Rattle.elab_flat_widths.specs.Texts.{BreaksConnection, SomeConnectionBreaks}
use Rattle.elab_flat_widths.proofs.Connections.{wider}
use Rattle.elab_flat_widths.proofs.inner.Parent.check_connections.Goals as goal

pub returns-in-Err-clause-err : goal.returns-in-Err-clause-err
returns-in-Err-clause-err c =
    let p = place_of (scope_meant c.args.self.now.scope.now) in
    let t = scope_meant c.args.child.now in
    let i = inner_meant c.args.inner.now in
    let g = given_meant c.connection-item.result in
    wider c.args.self.now.path.now t (BreaksConnection p t g (decl_at (signals_in t.module') g.name)) (SomeConnectionBreaks p t i)
    (λ w h. (g, meant_at given_meant c.deref-connection-items.result.now c.in_ok-given.given.items (given_to (port_names t.module') i.args) c.loop-connection.connection-index c.connection-item.result c.loop-connection-test.true c.connection-item.is c.deref-connection-items.ensures.value c.in_ok-given.ensures, h))
    c.in-Err.fault c.in-Err.ensures.err

pub returns-clause-ok : goal.returns-clause-ok
returns-clause-ok c = λ g a.
    let t = scope_meant c.args.child.now in
    let i = inner_meant c.args.inner.now in
    let items = c.deref-connection-items.result.now in
    let same : map given_meant items ≡ given_to (port_names t.module') i.args = ap (map given_meant) c.deref-connection-items.ensures.value ∙ c.in_ok-given.ensures in
    let none : drop c.loop-connection.connection-index items ≡ [] = drop_all c.loop-connection.connection-index items c.loop-connection-test.false in
    ⊎_elim (λ sound. sound) (λ (left : Among (map given_meant (drop c.loop-connection.connection-index items)) g). absurd (subst (λ (xs : List View). Among (map given_meant xs) g) none left))
    (c.loop-connection.invariant g (subst (λ (gs : List Given). Among gs g) (sym same) a))
