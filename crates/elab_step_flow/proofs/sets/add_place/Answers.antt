use Rattle.std.proofs.Common.{◌≡◌, ℕ, List, ◌↔◌, ◌⊎◌, sym, subst}
use Rattle.vlog_tree_runs.specs.Places.{Among}
use Rattle.elab_step_flow.proofs.Adding.{found_among, inserted_among}
use Rattle.elab_step_flow.proofs.sets.add_place.Goals as goal

pub returns-in-Ok : goal.returns-in-Ok
returns-in-Ok c = λ i.
    subst (λ (xs : List ℕ). Among xs i ↔ (Among xs i ⊎ (c.args.place ≡ i))) c.deref.ensures.value
    (found_among c.deref.result.now c.args.place c.in-Ok.field-0 c.in-Ok.ensures.bound c.in-Ok.ensures.position i)

pub returns-in_ok-insert-in-Err : goal.returns-in_ok-insert-in-Err
returns-in_ok-insert-in-Err c = λ i.
    let old = c.args.all.now.items in
    subst (λ (xs : List ℕ). Among xs i ↔ (Among old i ⊎ (c.args.place ≡ i))) (sym c.in_ok-insert-in-Err.ensures.items) (inserted_among old c.args.place c.in-Err.at i)
