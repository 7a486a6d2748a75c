use Rattle.std.proofs.Common.{refl, sym, subst}
use Rattle.elab_step_flow.specs.Asked.{AreVectors, IsPassable, ReadsBesides}
use Rattle.elab_step_flow.proofs.Keeping.{besides_whole, besides_own, found_within, found_kept, none_kept}
use Rattle.elab_step_flow.proofs.listed.unlisted_among_own.Goals as goal

pub unlisted_of_list-requires-clause-vectors : goal.unlisted_of_list-requires-clause-vectors
unlisted_of_list-requires-clause-vectors c = subst AreVectors (sym c.deref.ensures.value) c.in_ok-own.ensures.signals

pub unlisted_of_list-requires-clause-body : goal.unlisted_of_list-requires-clause-body
unlisted_of_list-requires-clause-body c = subst (λ gs. IsPassable gs c.args.body.now) (sym c.deref.ensures.value) c.in_ok-own.ensures.passable

pub whole_place-requires : goal.whole_place-requires
whole_place-requires c =
    found_within c.args.scope.now c.requires.signals c.args.body.now c.in_ok-own.own.places.items c.in_ok-own.own.signals.items c.in_ok-own.ensures c.deref.result.now c.deref-in-Some.result.now c.deref.ensures.value c.deref-in-Some.ensures.value (λ p. ReadsBesides p c.args.body.now c.args.listed.now) c.in_ok-place.field-0 c.in-Some.place c.in-Some.is
    c.in_ok-place.ensures.some

pub returns-in-Some-clause-some : goal.returns-in-Some-clause-some
returns-in-Some-clause-some c =
    found_kept c.args.scope.now c.requires.signals c.args.body.now c.in_ok-own.own.places.items c.in_ok-own.own.signals.items c.in_ok-own.ensures c.deref.result.now c.deref-in-Some.result.now c.deref.ensures.value c.deref-in-Some.ensures.value (λ p. ReadsBesides p c.args.body.now c.args.listed.now) c.in_ok-place.field-0 c.in-Some.place c.in-Some.is
    c.in_ok-place.ensures.some (besides_whole c.args.scope.now c.requires.signals c.args.body.now c.in_ok-own.own.places.items c.in_ok-own.own.signals.items c.in_ok-own.ensures c.args.listed.now) c.whole_place.result c.whole_place.ensures

pub returns-clause-none : goal.returns-clause-none
returns-clause-none c =
    none_kept c.args.scope.now c.requires.signals c.args.body.now c.in_ok-own.own.places.items c.in_ok-own.own.signals.items c.in_ok-own.ensures c.deref.result.now c.in_ok-own.own.places.items c.deref.ensures.value refl (λ p. ReadsBesides p c.args.body.now c.args.listed.now) c.in_ok-place.field-0 c.in-None.is
    c.in_ok-place.ensures.none (besides_own c.args.scope.now c.requires.signals c.args.body.now c.in_ok-own.own.places.items c.in_ok-own.own.signals.items c.in_ok-own.ensures c.args.listed.now)
