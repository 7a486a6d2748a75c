use Rattle.std.proofs.Common.{◌++◌, inl, inr, ap, ◌∙◌}
use Rattle.vlog_tree_runs.specs.Places.{Name}
use Rattle.elab_flat_instances.specs.Unfolding.{scope_meant}
use Rattle.elab_flat_names.specs.Rows.{IsWronglyAgain}
use Rattle.elab_flat_names.proofs.Searches.{one_found}
use Rattle.elab_flat_names.proofs.Using.{twice_stands}
use Rattle.elab_flat_names.proofs.check.check_declared.Goals as goal

pub returns-in-Ok-Some-clause-err : goal.returns-in-Ok-Some-clause-err
returns-in-Ok-Some-clause-err c =
    let s = scope_meant c.args.scope.now in
    twice_stands s c.in-Ok-Some.name.now c.in_ok-scoped-in-Ok-Some.field-0 (inr (inr (inl (one_found (IsWronglyAgain s.module' s.params) c.in-Ok-Some.field-0 c.in-Ok-Some.name c.in-Ok-Some.ensures.ok c.in-Ok-Some.field-0-is))))
    (c.in_ok-scoped-in-Ok-Some.ensures ∙ ap (λ (x : Name). s.prefix ++ x) c.bytes-in-Ok-Some.ensures)
