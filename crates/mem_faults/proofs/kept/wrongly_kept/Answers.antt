use Rattle.std.proofs.Common.{sym, ◌∙◌, subst}
use Rattle.std.proofs.lemmas.Result.{IfOk-weaker}
use Rattle.vlog_tree_runs.specs.Places.{Among}
use Rattle.elab_flat_drivers.proofs.Kinding.{some_at, none_is, some_then, none_then}
use Rattle.mem_faults.proofs.Telling.{signed_kept, unassigned_kept, otherwise_kept, rightly_kept}
use Rattle.mem_faults.proofs.kept.wrongly_kept.Goals as goal

pub returns-in-Some-clause-some : goal.returns-in-Some-clause-some
returns-in-Some-clause-some c =
    let h = some_at c.in_ok-name.field-0 _ c.in-Some.name c.in_ok-name.ensures.some c.in-Some.is in
    (h.0, signed_kept c.args.flat.now c.in-Some.name.now h.1)

pub returns-in-Some-2-clause-some : goal.returns-in-Some-2-clause-some
returns-in-Some-2-clause-some c =
    let h = some_at c.in_ok-name-2.field-0 _ c.in-Some-2.name c.in_ok-name-2.ensures.some c.in-Some-2.is in
    (subst (λ z. Among z c.in-Some-2.name.now) (sym c.requires) h.0, unassigned_kept c.args.flat.now c.in-Some-2.name.now h.1)

pub returns-clause-some : goal.returns-clause-some
returns-clause-some c =
    IfOk-weaker c.otherwise.result _ _ (λ o h. some_then o _ _ h (λ x d. (d.0, otherwise_kept c.args.flat.now x.now d.1))) c.otherwise.ensures.some

pub returns-clause-none : goal.returns-clause-none
returns-clause-none c =
    IfOk-weaker c.otherwise.result _ _
    (λ o h. none_then o _ _ h
    (λ k x m. rightly_kept c.args.flat.now x (none_is c.in_ok-name.field-0 _ c.in_default.not-Some c.in_ok-name.ensures.none x m)
    (none_is c.in_ok-name-2.field-0 _ c.in_default-2.not-Some c.in_ok-name-2.ensures.none x (subst (λ z. Among z x) c.requires m)) (k x m))) c.otherwise.ensures.none
