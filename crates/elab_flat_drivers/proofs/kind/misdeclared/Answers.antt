use Rattle.std.proofs.Common.{inl, true, false}
use Rattle.std.proofs.lemmas.Result.{IfOk-weaker}
use Rattle.elab_flat_drivers.proofs.Kinding.{misplaced, declared_by, some_at, some_then, none_then, none_is}
use Rattle.elab_flat_drivers.proofs.kind.misdeclared.Goals as goal

pub returns-in-Some-clause-some : goal.returns-in-Some-clause-some
returns-in-Some-clause-some c = inl (some_at c.in_ok-name.field-0 _ c.in-Some.name c.in_ok-name.ensures.some c.in-Some.is)

pub returns-in-Some-2-clause-some : goal.returns-in-Some-2-clause-some
returns-in-Some-2-clause-some c = misplaced c.args.flat.now true c.in-Some-2.name.now (some_at c.in_ok-name-2.field-0 _ c.in-Some-2.name c.in_ok-name-2.ensures.some c.in-Some-2.is)

pub returns-clause-some : goal.returns-clause-some
returns-clause-some c =
    IfOk-weaker c.assigned_wire-2.result _ _ (λ o h. some_then o _ _ h (λ x d. misplaced c.args.flat.now false x.now d)) c.assigned_wire-2.ensures.some

pub returns-clause-none : goal.returns-clause-none
returns-clause-none c =
    IfOk-weaker c.assigned_wire-2.result _ _
    (λ o h. none_then o _ _ h
    (λ k. declared_by c.args.flat.now (none_is c.in_ok-name.field-0 _ c.in_default.not-Some c.in_ok-name.ensures.none) (none_is c.in_ok-name-2.field-0 _ c.in_default-2.not-Some c.in_ok-name-2.ensures.none) k)) c.assigned_wire-2.ensures.none
