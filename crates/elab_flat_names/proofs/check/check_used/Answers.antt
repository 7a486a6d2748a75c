use Rattle.std.proofs.Common.{◌≡◌, ◌++◌, map, inl, inr, ⊎_elim, sym, ap, subst, ◌∙◌}
use Rattle.vlog_tree_runs.specs.Places.{Name, Among}
use Rattle.vlog_tree_runs.specs.Contents.{signals_in}
use Rattle.elab_flat_faults.specs.Texts.{assigned_in, waited_in}
use Rattle.elab_flat_scopes.specs.Finding.{decl_name}
use Rattle.elab_flat_instances.specs.Unfolding.{scope_meant}
use Rattle.elab_flat_names.specs.Rows.{IsRead}
use Rattle.elab_flat_names.specs.Searching.{IsAbsent}
use Rattle.elab_flat_names.proofs.Searches.{one_found, none_found}
use Rattle.elab_flat_names.proofs.Using.{unknown_of, of_unknown, no_signal, of_no_signal, used_stands}
use Rattle.elab_flat_names.proofs.check.check_used.Goals as goal

pub returns-in-Some-clause-err : goal.returns-in-Some-clause-err
returns-in-Some-clause-err c =
    let s = scope_meant c.args.scope.now in
    let x = c.in-Some.name.now in
    let h = one_found (λ x. IsRead s.module' x × (Among c.in_ok-declared.declared x → ⊥)) c.in_ok-name.field-0 c.in-Some.name c.in_ok-name.ensures c.in-Some.is in
    used_stands s x c.in_ok-name-2.name (inl (h.0, unknown_of s x (λ a. h.1 (subst (λ ns. Among ns x) (sym c.in_ok-declared.ensures) a))))
    (c.in_ok-name-2.ensures ∙ ap (λ (y : Name). s.prefix ++ y) c.bytes.ensures)

pub returns-in-Some-2-clause-err : goal.returns-in-Some-2-clause-err
returns-in-Some-2-clause-err c =
    let s = scope_meant c.args.scope.now in
    let x = c.in-Some-2.name.now in
    let names : c.in_ok-signals.signals ≡ map decl_name (signals_in s.module') = c.in_ok-signals.ensures ∙ c.in_ok-signal_names.ensures in
    let h = one_found (IsAbsent (assigned_in s.module' ++ waited_in s.module') c.in_ok-signals.signals) c.in_ok-name-3.field-0 c.in-Some-2.name c.in_ok-name-3.ensures c.in-Some-2.is in
    used_stands s x c.in_ok-name-4.name (inr (h.0, no_signal s x (λ a. h.1 (subst (λ ns. Among ns x) (sym names) a))))
    (c.in_ok-name-4.ensures ∙ ap (λ (y : Name). s.prefix ++ y) c.bytes-in-Some-2.ensures)

pub returns-clause-ok : goal.returns-clause-ok
returns-clause-ok c = λ x h.
    let s = scope_meant c.args.scope.now in
    let names : c.in_ok-signals.signals ≡ map decl_name (signals_in s.module') = c.in_ok-signals.ensures ∙ c.in_ok-signal_names.ensures in
    ⊎_elim
    (λ a. none_found (λ x. IsRead s.module' x × (Among c.in_ok-declared.declared x → ⊥)) c.in_ok-name.field-0 c.in_ok-name.ensures c.in_default.not-Some x
    (a.0, λ b. of_unknown s x a.1 (subst (λ ns. Among ns x) c.in_ok-declared.ensures b)))
    (λ a. none_found (IsAbsent (assigned_in s.module' ++ waited_in s.module') c.in_ok-signals.signals) c.in_ok-name-3.field-0 c.in_ok-name-3.ensures c.in_default-2.not-Some x
    (a.0, λ b. of_no_signal s x a.1 (subst (λ ns. Among ns x) names b))) h
