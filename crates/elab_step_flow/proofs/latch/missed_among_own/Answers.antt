use Rattle.std.proofs.Common.{refl, sym, subst}
use Rattle.elab_step_flow.specs.Asked.{AreVectors, IsPassable, Misses}
use Rattle.elab_step_flow.proofs.Keeping.{misses_whole, misses_own, found_within, found_kept, none_kept}
use Rattle.elab_step_flow.proofs.latch.missed_among_own.Goals as goal

pub missed_of_list-requires-clause-vectors : goal.missed_of_list-requires-clause-vectors
missed_of_list-requires-clause-vectors c = subst AreVectors (sym c.deref.ensures.value) c.in_ok-own.ensures.signals

pub missed_of_list-requires-clause-body : goal.missed_of_list-requires-clause-body
missed_of_list-requires-clause-body c = subst (λ gs. IsPassable gs c.args.body.now) (sym c.deref.ensures.value) c.in_ok-own.ensures.passable

pub whole_place-requires : goal.whole_place-requires
whole_place-requires c =
    found_within c.args.scope.now c.requires.vectors c.args.body.now c.in_ok-own.own.places.items c.in_ok-own.own.signals.items c.in_ok-own.ensures c.deref.result.now c.deref-in-Some.result.now c.deref.ensures.value c.deref-in-Some.ensures.value (λ p. Misses p c.args.body.now) c.in_ok-place.field-0 c.in-Some.place c.in-Some.is
    c.in_ok-place.ensures.some

pub returns-in-Some-clause-some : goal.returns-in-Some-clause-some
returns-in-Some-clause-some c =
    found_kept c.args.scope.now c.requires.vectors c.args.body.now c.in_ok-own.own.places.items c.in_ok-own.own.signals.items c.in_ok-own.ensures c.deref.result.now c.deref-in-Some.result.now c.deref.ensures.value c.deref-in-Some.ensures.value (λ p. Misses p c.args.body.now) c.in_ok-place.field-0 c.in-Some.place c.in-Some.is
    c.in_ok-place.ensures.some (misses_whole c.args.scope.now c.requires.vectors c.args.body.now c.in_ok-own.own.places.items c.in_ok-own.own.signals.items c.in_ok-own.ensures) c.whole_place.result c.whole_place.ensures

pub returns-clause-none : goal.returns-clause-none
returns-clause-none c =
    none_kept c.args.scope.now c.requires.vectors c.args.body.now c.in_ok-own.own.places.items c.in_ok-own.own.signals.items c.in_ok-own.ensures c.deref.result.now c.in_ok-own.own.places.items c.deref.ensures.value refl (λ p. Misses p c.args.body.now) c.in_ok-place.field-0 c.in-None.is
    c.in_ok-place.ensures.none (misses_own c.args.scope.now c.requires.vectors c.args.body.now c.in_ok-own.own.places.items c.in_ok-own.own.signals.items c.in_ok-own.ensures)
