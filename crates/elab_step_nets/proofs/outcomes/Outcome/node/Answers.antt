use Rattle.std.proofs.Common.{List, ℕ, sym, subst}
use Rattle.std.specs.List.Sorted.{IsStrictlyIncreasing}
use Rattle.vlog_tree_runs.specs.Places.{Among}
use Rattle.elab_step_nets.proofs.Leaving.{not_placed}
use Rattle.elab_step_nets.proofs.outcomes.Outcome.node.Goals as goal

pub returns-in-Err : goal.returns-in-Err
returns-in-Err c =
    let is = c.deref.ensures.value in
    subst (λ (xs : List ℕ). Among xs c.args.place → ⊥) is (not_placed c.deref.result.now c.args.place c.in-Err.field-0 (subst IsStrictlyIncreasing (sym is) c.requires.rises) c.in-Err.ensures.position)
