use Rattle.std.proofs.Common.{◌≡◌, map, Some, refl, sym, ap, subst, ◌∙◌}
use Rattle.vlog_tree_runs.specs.Contents.{Decl}
use Rattle.vlog_tree_runs.specs.Scopes.{decl_at}
use Rattle.elab_flat_scopes.specs.Borrowed.{decl_meant}
use Rattle.elab_flat_names.specs.Rows.{IsStray}
use Rattle.elab_flat_names.proofs.Searches.{among_here, among_past}
use Rattle.elab_flat_names.proofs.Seconds.{first_at, among_at, none_at, is_stray, not_stray}
use Rattle.elab_flat_names.proofs.again.misfit.Goals.{in-Some+in-Ok-true, in_default}
use Rattle.elab_flat_names.proofs.again.misfit.Goals as goal

pub goes_with-requires-clause-first : goal.goes_with-requires-clause-first
goes_with-requires-clause-first c =
    let ds = map decl_meant c.args.decls.now in
    c.requires.decls (decl_meant c.in-Some.first.now) (among_at ds c.bytes.result.now (decl_meant c.in-Some.first.now) (first_at ds c.first_of.result c.in-Some.first c.bytes.result.now c.bytes.result.now c.first_of.ensures c.in-Some.is refl))

pub goes_with-requires-clause-second : goal.goes_with-requires-clause-second
goes_with-requires-clause-second c =
    c.requires.seconds (decl_meant c.second-item.result) (among_here decl_meant c.args.seconds.now c.loop-second.second-index c.second-item.result c.loop-second-test.true c.second-item.is)

pub returns-in-Ok-false-clause-ok : goal.returns-in-Ok-false-clause-ok
returns-in-Ok-false-clause-ok c =
    let ds = map decl_meant c.args.decls.now in
    let e = decl_meant c.second-item.result in
    let at : decl_at ds e.name ≡ Some (decl_meant c.in-Some.first.now) = first_at ds c.first_of.result c.in-Some.first c.bytes.result.now e.name c.first_of.ensures c.in-Some.is c.bytes.ensures in (
      e,
      among_here decl_meant c.args.seconds.now c.loop-second.second-index c.second-item.result c.loop-second-test.true c.second-item.is,
      refl,
      is_stray c.args.scope.now.text.now c.args.scope.now.params ds e (decl_meant c.in-Some.first.now) at c.in-Ok-false.field-0 c.in-Ok-false.ensures.ok c.in-Ok-false.field-0-test,
    )

pub loop-second-preserved : goal.loop-second-preserved
loop-second-preserved c = λ e among stray.
    let ds = map decl_meant c.args.decls.now in
    let m = c.args.scope.now.text.now in
    let v = c.args.scope.now.params in
    let mine = decl_meant c.second-item.result in
    among_past decl_meant c.args.seconds.now c.loop-second.second-index c.second-item.result c.loop-second-test.true c.second-item.is e (c.loop-second.invariant e among stray)
    (λ same.
    elim c.match-first_of.branch [
      | in-Some+in-Ok-true w ↦ not_stray m v ds mine (decl_meant w.in-Some.first.now) (first_at ds c.first_of.result w.in-Some.first c.bytes.result.now mine.name c.first_of.ensures w.in-Some.is c.bytes.ensures)
          w.in-Ok-true.field-0 w.in-Ok-true.ensures.ok w.in-Ok-true.field-0-test (subst (IsStray m v ds) (sym same) stray)
      | in_default w ↦ none_at ds c.first_of.result c.bytes.result.now stray.0 c.first_of.ensures w.in_default.not-Some (ap (decl_at ds) (c.bytes.ensures ∙ ap (λ (z : Decl). z.name) same) ∙ stray.1)
    ])
