use Rattle.std.proofs.Common.{◌≡◌, ◌∷◌, map, refl, sym, ap, subst, ◌∙◌}
use Rattle.std.specs.List.{flat_map}
use Rattle.vlog_tree.specs.declared.expr.Expr.{Expr}
use Rattle.vlog_tree_runs.specs.Places.{Among}
use Rattle.vlog_tree_runs.specs.Blocks.{widest, all_signed}
use Rattle.elab_flat_params.specs.Constants.{is_known}
use Rattle.elab_flat_faults.specs.Constants.{compared}
use Rattle.elab_flat_faults.specs.Texts.{Compared}
use Rattle.elab_flat_drivers.proofs.Growing.{ok_then}
use Rattle.elab_flat_widths.specs.Usages.{item_labels}
use Rattle.elab_flat_widths.specs.Cases.{HasCommonShape, expr_meant}
use Rattle.elab_flat_widths.specs.declared.violation.Violation.{Violation}
use Rattle.elab_flat_widths.specs.Taken.{IsSound, AllSound, Breaks, SomeBreaks, Fails, taken_at}
use Rattle.elab_flat_widths.proofs.Takes.{if_err, fails_map}
use Rattle.elab_flat_widths.proofs.Widest.{all_sound, some_breaks}
use Rattle.elab_flat_widths.proofs.cases.check_cases.Goals as goal

pub returns-in-Ok-clause-ok : goal.returns-in-Ok-clause-ok
returns-in-Ok-clause-ok c =
    let test = is_known c.args.params.now in
    let v = c.args.rest.now in
    let k : Compared = record { value = c.args.subject.now; labels = flat_map item_labels c.args.items.now } in
    let as' = map expr_meant c.deref-in-Ok.result.now in
    let is : as' ≡ k.value ∷ k.labels = ap (map expr_meant) c.deref-in-Ok.ensures.value ∙ c.in_ok-exprs.ensures in
    let shape = subst (λ xs. HasCommonShape test v (map expr_meant xs) c.in-Ok.shape.0 c.in-Ok.shape.1) (c.deref.ensures.value ∙ sym c.deref-in-Ok.ensures.value) c.in-Ok.ensures.ok in
    ok_then c.check_all_at.result ((a : Expr) → Among as' a → IsSound test v (taken_at a c.in-Ok.shape.0 c.in-Ok.shape.1)) (AllSound test v (compared v k)) c.check_all_at.ensures.ok
    (all_sound test v k as' is c.in-Ok.shape.0 c.in-Ok.shape.1 shape.width shape.sign)

pub returns-in-Ok-clause-err : goal.returns-in-Ok-clause-err
returns-in-Ok-clause-err c =
    let test = is_known c.args.params.now in
    let v = c.args.rest.now in
    let k : Compared = record { value = c.args.subject.now; labels = flat_map item_labels c.args.items.now } in
    let as' = map expr_meant c.deref-in-Ok.result.now in
    let is : as' ≡ k.value ∷ k.labels = ap (map expr_meant) c.deref-in-Ok.ensures.value ∙ c.in_ok-exprs.ensures in
    let shape = subst (λ xs. HasCommonShape test v (map expr_meant xs) c.in-Ok.shape.0 c.in-Ok.shape.1) (c.deref.ensures.value ∙ sym c.deref-in-Ok.ensures.value) c.in-Ok.ensures.ok in
    let each : Violation → Type 0 = λ w. (a : Expr) × Among as' a × Breaks test v (taken_at a c.in-Ok.shape.0 c.in-Ok.shape.1) w in
    let some = SomeBreaks test v (compared v k) in
    if_err c.check_all_at.result (Fails each) (Fails some) (fails_map each some (some_breaks test v k as' is c.in-Ok.shape.0 c.in-Ok.shape.1 shape.width shape.sign)) c.check_all_at.ensures.err

pub returns-clause-err : goal.returns-clause-err
returns-clause-err c =
    let test = is_known c.args.params.now in
    let v = c.args.rest.now in
    let k : Compared = record { value = c.args.subject.now; labels = flat_map item_labels c.args.items.now } in
    let as' = map expr_meant c.deref.result.now in
    let is : as' ≡ k.value ∷ k.labels = ap (map expr_meant) c.deref.ensures.value ∙ c.in_ok-exprs.ensures in
    let each : Violation → Type 0 = λ w. (a : Expr) × Among as' a × Breaks test v (taken_at a (widest v as') (all_signed v as')) w in
    fails_map each (SomeBreaks test v (compared v k)) (some_breaks test v k as' is (widest v as') (all_signed v as') refl refl) c.in-Err.violation (c.in-Err.ensures.err (widest v as') (all_signed v as'))
