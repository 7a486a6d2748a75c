use Rattle.std.proofs.Common.{◌≡◌, get_or, subst, sym, ◌∙◌, ap, arith}
use Rattle.std.proofs.lemmas.List.{get_or_read}
use Rattle.cdcl.specs.Trails.{Assigned, IsPlaceOf}
use Rattle.cdcl.proofs.TrailLemmas.{value_from_place, var_within, one_place}
use Rattle.cdcl.proofs.trail.Trail.place.Goals as goal

pub index-requires : goal.index-requires
index-requires c =
    let t = c.self.inside in
    let at = subst (λ es. IsPlaceOf es c.args.var c.requires.0) (sym (ap (λ (a : Assigned). a.entries) c.self.view_is)) c.requires.1 in
    let lt = var_within t.values.items t.places.items t.entries.items c.self.invariant c.args.var c.requires.0 at in
    omega (arith, c.self.invariant.same_len, t.places.ok.0)

place_read : (c : goal.After-row_known-1) → c.requires.0 ≡ c.index.result.now
place_read c =
    let t = c.self.inside in
    let at = subst (λ es. IsPlaceOf es c.args.var c.requires.0) (sym (ap (λ (a : Assigned). a.entries) c.self.view_is)) c.requires.1 in
    let lt = var_within t.values.items t.places.items t.entries.items c.self.invariant c.args.var c.requires.0 at in
    let found : c.index.result.now ≡ get_or t.places.items c.args.var 0 = get_or_read t.places.items c.args.var c.index.result.now (omega (arith, c.self.invariant.same_len)) c.index.ensures 0 in
    sym (found ∙ value_from_place t.values.items t.places.items t.entries.items c.self.invariant c.args.var c.requires.0 at)

pub returns-clause-is : goal.returns-clause-is
returns-clause-is c = subst (λ p. IsPlaceOf c.args.self.now.entries c.args.var p) (place_read c) c.requires.1

pub returns-clause-only : goal.returns-clause-only
returns-clause-only c p h =
    let t = c.self.inside in
    let entries = sym (ap (λ (a : Assigned). a.entries) c.self.view_is) in
    one_place t.values.items t.places.items t.entries.items c.self.invariant c.args.var p c.requires.0 (subst (λ es. IsPlaceOf es c.args.var p) entries h) (subst (λ es. IsPlaceOf es c.args.var c.requires.0) entries c.requires.1) ∙ place_read c
