use Rattle.std.proofs.Common.{◌≡◌, ◌<◌, false, [], ◌∷◌, ◌++◌, reverse, replicate, length, Contains, subst, sym, ap, ◌∙◌, arith, rules}
use Rattle.std.proofs.VecSteps.Gaps.{with_items_is}
use Rattle.std.proofs.lemmas.List.{length-replicate}
use Rattle.clause_check.specs.Derivations.{clause_at}
use Rattle.cdcl.specs.Reasons.{clauses_in}
use Rattle.cdcl.specs.Marking.{Marks, IsSeen, open_count}
use Rattle.cdcl.proofs.FollowLemmas.{explains_start, assigned_from_false}
use Rattle.cdcl.proofs.ConflictLemmas.{followed_from, seen_within, count_none_seen}
use Rattle.cdcl.proofs.conflict.Conflict.new.Goals as goal

pub mark_clause-pending-requires-clause-assigned : goal.mark_clause-pending-requires-clause-assigned
mark_clause-pending-requires-clause-assigned c l h =
    assigned_from_false c.args.reasons.now.trail.now.entries l (c.requires.conflict l (subst (λ k. Contains k l) c.clause_at-clause.ensures.is h))

pub returns-clause-followed : goal.returns-clause-followed
returns-clause-followed c =
    let clauses = clauses_in c.args.reasons.now in
    let entries = c.args.reasons.now.trail.now.entries in
    let start_seen : c.in_ok-seen.seen.items ≡ replicate (length entries) false = search rules in
    let before : c.as_mut_slice.result.now ≡ replicate (length entries) false = c.as_mut_slice.ensures.value ∙ start_seen in
    let at = c.clause_at-clause.ensures in
    let marked = c.mark_clause-pending.new.seen in
    let marks : Marks entries (clause_at clauses c.args.number) c.as_mut_slice.result.now marked = subst (λ k. Marks entries k c.as_mut_slice.result.now marked) at.is c.mark_clause-pending.ensures.marks in
    let len : length marked ≡ length entries = c.mark_clause-pending.auto.seen ∙ (ap length before ∙ length-replicate (length entries) false) in
    let same_len : length marked ≡ c.in_ok-seen.seen.len = len ∙ (sym (length-replicate (length entries) false) ∙ (sym (ap length start_seen) ∙ sym c.in_ok-seen.seen.ok.0)) in
    let none : open_count c.args.start c.as_mut_slice.result.now ≡ 0 = ap (open_count c.args.start) before ∙ count_none_seen c.args.start (length entries) in
    followed_from clauses entries c.args.start (length entries) _ marked (c.args.number ∷ []) (with_items_is c.in_ok-seen.seen marked same_len)
    (ap reverse (c.in_ok-push.ensures.items ∙ ap (λ xs. xs ++ c.args.number ∷ []) c.new-hints.ensures.items))
    len (λ q s. subst (λ n. q < n) len (seen_within marked q s))
    (explains_start clauses entries c.args.number c.requires.known c.requires.conflict c.as_mut_slice.result.now marked marks)
    (omega (arith, c.mark_clause-pending.ensures.count, none))

pub returns-clause-marked : goal.returns-clause-marked
returns-clause-marked c l q h at =
    let marked = c.mark_clause-pending.new.seen in
    let before : length c.as_mut_slice.result.now ≡ c.in_ok-seen.seen.len = ap length c.as_mut_slice.ensures.value ∙ sym c.in_ok-seen.seen.ok.0 in
    let same_len : length marked ≡ c.in_ok-seen.seen.len = c.mark_clause-pending.auto.seen ∙ before in
    let seen : IsSeen marked q = c.mark_clause-pending.ensures.marks.marked l q (subst (λ k. Contains k l) (sym c.clause_at-clause.ensures.is) h) at in
    subst (λ s. IsSeen s q) (sym (with_items_is c.in_ok-seen.seen marked same_len)) seen
