use Rattle.std.proofs.Common.{sym, subst}
use Rattle.std.specs.Prelude.{IfOk, IfSome, IfNone}
use Rattle.vlog_tree_runs.specs.Places.{Name}
use Rattle.elab_step_laws.specs.Laws.{place_over}
use Rattle.elab_step_flow.specs.Asked.{AreVectors, IsPassable, OfSignal, ReadsBesides}
use Rattle.elab_step_flow.proofs.listed.unlisted_of_list.Goals as goal

pub unlisted_by-requires-clause-signals : goal.unlisted_by-requires-clause-signals
unlisted_by-requires-clause-signals c = subst AreVectors (sym c.in_ok-scope.ensures) c.requires.vectors

pub unlisted_by-requires-clause-body : goal.unlisted_by-requires-clause-body
unlisted_by-requires-clause-body c = subst (λ gs. IsPassable gs c.args.body.now) (sym c.in_ok-scope.ensures) c.requires.body

pub returns-clause-some : goal.returns-clause-some
returns-clause-some c =
    subst (λ gs. IfOk c.unlisted_by.result (λ o. IfSome o (λ i. OfSignal gs i (ReadsBesides (place_over gs) c.args.body.now c.args.listed.now)))) c.in_ok-scope.ensures c.unlisted_by.ensures.some

pub returns-clause-none : goal.returns-clause-none
returns-clause-none c =
    subst (λ gs. IfOk c.unlisted_by.result (λ o. IfNone o ((x : Name) → ReadsBesides (place_over gs) c.args.body.now c.args.listed.now x → ⊥))) c.in_ok-scope.ensures c.unlisted_by.ensures.none
