use Rattle.std.proofs.Common.{sym, subst}
use Rattle.std.specs.Prelude.{IfOk, IfSome, IfNone}
use Rattle.vlog_tree_runs.specs.Places.{Name}
use Rattle.elab_step_laws.specs.Laws.{place_over}
use Rattle.elab_step_flow.specs.Asked.{AreVectors, IsPassable, OfSignal, Misses}
use Rattle.elab_step_flow.proofs.latch.missed_of_list.Goals as goal

pub missed_inside-requires-clause-vectors : goal.missed_inside-requires-clause-vectors
missed_inside-requires-clause-vectors c = subst AreVectors (sym c.in_ok-scope.ensures) c.requires.vectors

pub missed_inside-requires-clause-body : goal.missed_inside-requires-clause-body
missed_inside-requires-clause-body c = subst (λ gs. IsPassable gs c.args.body.now) (sym c.in_ok-scope.ensures) c.requires.body

pub returns-clause-some : goal.returns-clause-some
returns-clause-some c =
    subst (λ gs. IfOk c.missed_inside.result (λ o. IfSome o (λ i. OfSignal gs i (Misses (place_over gs) c.args.body.now)))) c.in_ok-scope.ensures c.missed_inside.ensures.some

pub returns-clause-none : goal.returns-clause-none
returns-clause-none c =
    subst (λ gs. IfOk c.missed_inside.result (λ o. IfNone o ((x : Name) → Misses (place_over gs) c.args.body.now x → ⊥))) c.in_ok-scope.ensures c.missed_inside.ensures.none
