use Rattle.std.proofs.Common.{◌≡◌, ◌+◌, ◌-◌, true, false, subst, sym, ◌∙◌, arith}
use Rattle.std.proofs.lemmas.List.{get_or_read}
use Rattle.cdcl.specs.Reasons.{clauses_in}
use Rattle.cdcl.specs.Marking.{IsSeen}
use Rattle.cdcl.specs.Conflicts.{IsFollowed}
use Rattle.cdcl.proofs.ConflictLemmas.{followed_past}
use Rattle.cdcl.proofs.conflict.Conflict.follow_to_start.Goals as goal

pub loop-place-preserved : goal.loop-place-preserved
loop-place-preserved c =
    let p = c.loop-place.place - 1 in
    let s = c.loop-place.self in
    let f = c.loop-place.invariant in
    let next : c.loop-place.place ≡ p + 1 = omega arith in
    let unseen : IsSeen s.seen.items p → ⊥ = λ h.
    let was : c.index.result.now ≡ true = get_or_read s.seen.items p c.index.result.now (omega (arith, f.len)) c.index.ensures false ∙ h in
    let bad : false ≡ true = sym c.if-index.false ∙ was in cc in
    followed_past (clauses_in c.args.reasons.now) c.args.reasons.now.trail.now.entries 0 p s
    (subst (λ n. IsFollowed (clauses_in c.args.reasons.now) c.args.reasons.now.trail.now.entries 0 n s) next f) (omega arith) unseen
