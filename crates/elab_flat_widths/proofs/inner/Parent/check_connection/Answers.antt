use Rattle.std.proofs.Common.{◌≡◌, Option, ℕ, Some, None, List, refl, sym, subst}
use Rattle.vlog_tree_runs.specs.Places.{Among}
use Rattle.vlog_tree_runs.specs.Contents.{Decl, signals_in}
use Rattle.vlog_tree_runs.specs.Scopes.{place_of, decl_at}
use Rattle.elab_flat_faults.specs.FlatStands.{Refuses}
use Rattle.elab_flat_scopes.specs.Borrowed.{decl_meant, given_meant}
use Rattle.elab_flat_instances.specs.Unfolding.{scope_meant}
use Rattle.elab_flat_widths.specs.Texts.{IsSoundGiven, BreaksGiven, IsSoundConnection, BreaksConnection, IsConnectionFault}
use Rattle.elab_flat_widths.proofs.Inners.{first_at, nowhere_at, among_at}
use Rattle.elab_flat_widths.proofs.Connections.{own_fault, port_fault}
use Rattle.elab_flat_widths.proofs.inner.Parent.check_connection.Goals as goal

pub returns-in-None-clause-ok : goal.returns-in-None-clause-ok
returns-in-None-clause-ok c =
    let p = place_of (scope_meant c.args.self.now.scope.now) in
    let t = scope_meant c.args.child.now in
    let g = given_meant c.args.connection.now in
    let at = subst (λ (ds : List Decl). decl_at ds g.name ≡ None) c.requires.ports (nowhere_at c.args.ports.now c.at.result c.bytes.result.now g.name c.at.ensures c.in-None.is c.bytes.ensures) in
    subst (IsSoundConnection p t g) (sym at) tt

pub port_width-requires : goal.port_width-requires
port_width-requires c =
    let g = given_meant c.args.connection.now in
    let d = decl_meant c.in-Some.port.now in
    subst (λ (ds : List Decl). Among ds d) c.requires.ports
    (among_at c.args.ports.now g.name d (first_at c.args.ports.now c.at.result c.in-Some.port c.bytes.result.now g.name c.at.ensures c.in-Some.is c.bytes.ensures))

pub returns-in-Err-clause-err : goal.returns-in-Err-clause-err
returns-in-Err-clause-err c =
    let p = place_of (scope_meant c.args.self.now.scope.now) in
    let t = scope_meant c.args.child.now in
    let g = given_meant c.args.connection.now in
    port_fault c.args.self.now.path.now t (BreaksConnection p t g (decl_at (signals_in t.module') g.name)) c.in-Err.fault c.in-Err.ensures.err

pub returns-in-Ok-check_value-clause-ok : goal.returns-in-Ok-check_value-clause-ok
returns-in-Ok-check_value-clause-ok c =
    let p = place_of (scope_meant c.args.self.now.scope.now) in
    let t = scope_meant c.args.child.now in
    let g = given_meant c.args.connection.now in
    let d = decl_meant c.in-Some.port.now in
    let at = subst (λ (ds : List Decl). decl_at ds g.name ≡ Some d) c.requires.ports
    (first_at c.args.ports.now c.at.result c.in-Some.port c.bytes.result.now g.name c.at.ensures c.in-Some.is c.bytes.ensures) in
    subst (IsSoundConnection p t g) (sym at) (subst (λ (o : Option ℕ). IsSoundGiven p g.value o) c.in-Ok.ensures.ok c.in-Ok-check_value.ensures.ok)

pub returns-in_ok-named_fault-in-Err-check_value-clause-err : goal.returns-in_ok-named_fault-in-Err-check_value-clause-err
returns-in_ok-named_fault-in-Err-check_value-clause-err c =
    let p = place_of (scope_meant c.args.self.now.scope.now) in
    let t = scope_meant c.args.child.now in
    let g = given_meant c.args.connection.now in
    let d = decl_meant c.in-Some.port.now in
    let path = c.args.self.now.path.now in
    let at = subst (λ (ds : List Decl). decl_at ds g.name ≡ Some d) c.requires.ports
    (first_at c.args.ports.now c.at.result c.in-Some.port c.bytes.result.now g.name c.at.ensures c.in-Some.is c.bytes.ensures) in
    subst (Refuses (IsConnectionFault path t (BreaksConnection p t g (decl_at (signals_in t.module') g.name)))) (sym c.in_ok-named_fault-in-Err-check_value.ensures)
    (own_fault path t (BreaksGiven p g.value c.in-Ok.width) (BreaksConnection p t g (decl_at (signals_in t.module') g.name))
    (λ w h. subst (λ (o : Option Decl). BreaksConnection p t g o w) (sym at) (subst (λ (o : Option ℕ). BreaksGiven p g.value o w) c.in-Ok.ensures.ok h)) path refl c.in-Err-check_value.violation
    c.in-Err-check_value.ensures.err)
