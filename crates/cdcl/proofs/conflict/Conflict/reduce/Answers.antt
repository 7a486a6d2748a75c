use Rattle.std.proofs.Common.{◌≡◌, ◌+◌, ◌-◌, subst, arith}
use Rattle.cdcl.specs.Reasons.{clauses_in}
use Rattle.cdcl.specs.Conflicts.{IsReduced}
use Rattle.cdcl.proofs.ReduceLemmas.{reduced_start, reduced_past}
use Rattle.cdcl.proofs.conflict.Conflict.reduce.Goals as goal

pub loop-place-init : goal.loop-place-init
loop-place-init c = reduced_start (clauses_in c.args.reasons.now) c.args.reasons.now.trail.now.entries c.args.start c.args.cut c.args.self.now c.requires.cut

pub loop-place-preserved : goal.loop-place-preserved
loop-place-preserved c =
    let p = c.loop-place.place - 1 in
    let s = c.loop-place.self in
    let clauses = clauses_in c.args.reasons.now in
    let next : c.loop-place.place ≡ p + 1 = omega arith in
    reduced_past clauses c.args.reasons.now.trail.now.entries c.args.start c.args.cut p s (subst (λ n. IsReduced clauses c.args.reasons.now.trail.now.entries c.args.start c.args.cut n s) next c.loop-place.invariant)

pub returns : goal.returns
returns c =
    let at : c.loop-place.place ≡ 0 = omega arith in
    subst (λ n. IsReduced (clauses_in c.args.reasons.now) c.args.reasons.now.trail.now.entries c.args.start c.args.cut n c.loop-place.self) at c.loop-place.invariant
