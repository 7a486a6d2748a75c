use Rattle.std.proofs.Common.{◌≡◌, ◌<◌, List, Some, not, set, subst, sym, ap, length, arith}
use Rattle.cdcl.specs.declared.trail.Entry.{Entry}
use Rattle.cdcl.specs.Closed.{Avoids}
use Rattle.cdcl.specs.Trails.{Assigned, Agrees, lits_of}
use Rattle.cdcl.proofs.TrailLemmas.{agrees_pushed, trail_from_agrees}
use Rattle.cdcl.proofs.trail.Trail.assign.Goals as goal

pub invariant_of-self-2 : goal.invariant_of-self-2
invariant_of-self-2 c =
    let t = c.self.inside in
    let entries = ap (λ (a : Assigned). a.entries) c.self.view_is in
    let vars = ap (λ (a : Assigned). a.vars) c.self.view_is in
    let lt : c.args.lit.var < length t.values.items = omega arith in
    let done = agrees_pushed t.values.items t.places.items t.entries.items c.self.invariant c.args.lit c.args.reason lt (subst (λ (es : List Entry). Avoids (lits_of es) c.args.lit) (sym entries) c.requires.free) in
    let len : length t.entries.items ≡ c.in_ok-place.place = omega (arith, c.in_ok-place.ensures.ok, t.entries.ok.0) in
    let values = set t.values.items c.args.lit.var (Some (not c.args.lit.negative)) in
    subst (λ n. Agrees values (set t.places.items c.args.lit.var n) c.push.new.self.items) len
    (subst (λ es. Agrees values (set t.places.items c.args.lit.var (length t.entries.items)) es) (sym c.in_ok-push.ensures.items) done)

pub returns-clause-trail : goal.returns-clause-trail
returns-clause-trail c =
    let t = c.self.inside in
    let entries = ap (λ (a : Assigned). a.entries) c.self.view_is in
    let vars = ap (λ (a : Assigned). a.vars) c.self.view_is in
    let lt : c.args.lit.var < length t.values.items = omega arith in
    let done = agrees_pushed t.values.items t.places.items t.entries.items c.self.invariant c.args.lit c.args.reason lt (subst (λ (es : List Entry). Avoids (lits_of es) c.args.lit) (sym entries) c.requires.free) in
    let len : length t.entries.items ≡ c.in_ok-place.place = omega (arith, c.in_ok-place.ensures.ok, t.entries.ok.0) in
    let values = set t.values.items c.args.lit.var (Some (not c.args.lit.negative)) in
    trail_from_agrees values (set t.places.items c.args.lit.var c.in_ok-place.place) c.push.new.self.items
    (subst (λ n. Agrees values (set t.places.items c.args.lit.var n) c.push.new.self.items) len
    (subst (λ es. Agrees values (set t.places.items c.args.lit.var (length t.entries.items)) es) (sym c.in_ok-push.ensures.items) done))
