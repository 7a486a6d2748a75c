use Rattle.std.proofs.Common.{◌≡◌, [], map, sym, ap, subst, ◌∙◌}
use Rattle.std.specs.Option.{option_copied}
use Rattle.vlog_tree_runs.specs.Places.{Name}
use Rattle.vlog_tree_runs.specs.Contents.{decls_in}
use Rattle.elab_flat_faults.specs.Declaring.{Repeats}
use Rattle.elab_flat_scopes.specs.Borrowed.{name_meant, decl_meant}
use Rattle.elab_flat_scopes.specs.Finding.{decl_name}
use Rattle.elab_flat_names.specs.Rows.{again, IsMisfit, IsWronglyAgain}
use Rattle.elab_flat_names.specs.Searching.{Finds}
use Rattle.elab_flat_names.proofs.Searches.{if_ok, none_found}
use Rattle.elab_flat_names.proofs.Seconds.{third, misfits, seconds_as}
use Rattle.elab_flat_names.proofs.again.declared_again.Goals as goal

pub returns-in-Some-clause-ok : goal.returns-in-Some-clause-ok
returns-in-Some-clause-ok c =
    let m = c.args.scope.now.text.now in
    let seconds : map decl_meant c.in_ok-seconds.seconds.items ≡ again [] (decls_in m) =
    c.in_ok-seconds.ensures ∙ (ap (λ z. again [] (map decl_meant z)) c.deref.ensures.value ∙ ap (again []) c.in_ok-decls.ensures) in
    let names : map name_meant c.deref-3.result.now ≡ map decl_name (again [] (decls_in m)) =
    ap (map name_meant) c.deref-3.ensures.value ∙ (c.in_ok-names.ensures ∙ (ap (λ z. map decl_name (map decl_meant z)) c.deref-2.ensures.value ∙ ap (map decl_name) seconds)) in
    third m c.args.scope.now.params c.in-Some.name.now
    (subst (λ ns. Repeats ns c.in-Some.name.now) names (subst (λ o. Finds (Repeats (map name_meant c.deref-3.result.now)) (option_copied o)) c.in-Some.is c.in_ok-name.ensures))

pub misfit-requires-clause-seconds : goal.misfit-requires-clause-seconds
misfit-requires-clause-seconds c =
    let m = c.args.scope.now.text.now in
    let seconds : map decl_meant c.in_ok-seconds.seconds.items ≡ again [] (decls_in m) =
    c.in_ok-seconds.ensures ∙ (ap (λ z. again [] (map decl_meant z)) c.deref.ensures.value ∙ ap (again []) c.in_ok-decls.ensures) in
    seconds_as m c.args.scope.now.params (map decl_meant c.deref-5.result.now) (ap (map decl_meant) c.deref-5.ensures.value ∙ seconds)

pub returns-clause-ok : goal.returns-clause-ok
returns-clause-ok c =
    let m = c.args.scope.now.text.now in
    let v = c.args.scope.now.params in
    let seconds : map decl_meant c.in_ok-seconds.seconds.items ≡ again [] (decls_in m) =
    c.in_ok-seconds.ensures ∙ (ap (λ z. again [] (map decl_meant z)) c.deref.ensures.value ∙ ap (again []) c.in_ok-decls.ensures) in
    let names : map name_meant c.deref-3.result.now ≡ map decl_name (again [] (decls_in m)) =
    ap (map name_meant) c.deref-3.ensures.value ∙ (c.in_ok-names.ensures ∙ (ap (λ z. map decl_name (map decl_meant z)) c.deref-2.ensures.value ∙ ap (map decl_name) seconds)) in
    let none = none_found (Repeats (map name_meant c.deref-3.result.now)) c.in_ok-name.field-0 c.in_ok-name.ensures c.in_default.not-Some in
    let once : (x : Name) → Repeats (map decl_name (again [] (decls_in m))) x → ⊥ = λ x r. none x (subst (λ ns. Repeats ns x) (sym names) r) in
    if_ok c.misfit.result (λ r. Finds (IsMisfit m v (map decl_meant c.deref-4.result.now) (map decl_meant c.deref-5.result.now)) (option_copied r)) (λ r. Finds (IsWronglyAgain m v) (option_copied r))
    (λ r h. misfits m v once (map decl_meant c.deref-5.result.now) (ap (map decl_meant) c.deref-5.ensures.value ∙ seconds) (map decl_meant c.deref-4.result.now)
    (ap (map decl_meant) c.deref-4.ensures.value ∙ c.in_ok-decls.ensures) (option_copied r) h) c.misfit.ensures.ok
