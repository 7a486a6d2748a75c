use Rattle.std.proofs.Common.{ℕ, List, get_or, sym, ap, ◌∙◌, subst}
use Rattle.vlog_tree_runs.specs.Blocks.{lefts}
use Rattle.elab_flat_faults.specs.Drivers.{Block}
use Rattle.elab_flat_drivers.specs.Claims.{IsClaimed}
use Rattle.elab_flat_drivers.specs.Driving.{driver_claims}
use Rattle.elab_flat_drivers.proofs.Twice.{claims_within}
use Rattle.elab_step_flow.specs.Sets.{tables, HasBit}
use Rattle.elab_step_flow.proofs.Finding.{lefts_ready, missed, none_missed}
use Rattle.elab_step_flow.proofs.latch.missed_in.Goals as goal

pub driver_claims-requires-clause-ready : goal.driver_claims-requires-clause-ready
driver_claims-requires-clause-ready c = lefts_ready c.args.scope.now c.args.body.now c.requires.body.ready

pub clash-requires : goal.clash-requires
clash-requires c =
    claims_within c.args.scope.now c.deref.result.now c.in_ok-flow.flow.unset.items c.deref-2.result.now c.in_ok-claims.claims.items (Block (lefts c.args.body.now)) c.deref.ensures.value c.in_ok-flow.ensures.sized.unset c.deref-2.ensures.value
    (c.in_ok-claims.ensures ∙ ap (λ gs. driver_claims gs (Block (lefts c.args.body.now))) c.requires.same)

pub returns-in-Some-clause-some : goal.returns-in-Some-clause-some
returns-in-Some-clause-some c =
    missed c.args.scope.now c.args.body.now (tables c.in_ok-flow.flow) c.in_ok-flow.ensures.shows c.in_ok-claims.claims.items (c.in_ok-claims.ensures ∙ ap (λ gs. driver_claims gs (Block (lefts c.args.body.now))) c.requires.same)
    c.in-Some.bit.place c.in-Some.bit.number (subst (λ z. IsClaimed z c.in-Some.bit.place c.in-Some.bit.number) c.deref-2.ensures.value c.in-Some.ensures.some) (subst (λ (z : List ℕ). HasBit (λ i. get_or z i 0) c.in-Some.bit.place c.in-Some.bit.number) c.deref.ensures.value c.in-Some.ensures.set)

pub returns-clause-none : goal.returns-clause-none
returns-clause-none c =
    none_missed c.args.scope.now c.args.body.now (tables c.in_ok-flow.flow) c.in_ok-flow.ensures.shows c.in_ok-claims.claims.items (c.in_ok-claims.ensures ∙ ap (λ gs. driver_claims gs (Block (lefts c.args.body.now))) c.requires.same)
    (λ i b h g. c.in-None.ensures.none i b (subst (λ z. IsClaimed z i b) (sym c.deref-2.ensures.value) h) (subst (λ (z : List ℕ). HasBit (λ i. get_or z i 0) i b) (sym c.deref.ensures.value) g))
