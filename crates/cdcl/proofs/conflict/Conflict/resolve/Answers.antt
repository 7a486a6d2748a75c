use Rattle.std.proofs.Common.{◌≡◌, false, ◌∷◌, reverse, length, Contains, subst, sym, ap, ◌∙◌, arith, set, get_or, None, length-set}
use Rattle.std.proofs.VecSteps.Gaps.{with_items_is}
use Rattle.clause_check.specs.Derivations.{clause_at}
use Rattle.cdcl.specs.declared.trail.Entry.{Entry}
use Rattle.cdcl.specs.Reasons.{clauses_in}
use Rattle.cdcl.specs.Marking.{Marks, IsSeen, open_count}
use Rattle.cdcl.proofs.FollowLemmas.{explains_after, below_after, assigned_from_forced}
use Rattle.cdcl.proofs.MarkLemmas.{bit, count_set}
use Rattle.cdcl.proofs.ConflictLemmas.{followed_from, reverse_push}
use Rattle.cdcl.proofs.conflict.Conflict.resolve.Goals as goal

abbrev z : Entry
z = record { lit = record { var = 0; negative = false }; reason = None }

pub clause_at-clause-requires-clause-number : goal.clause_at-clause-requires-clause-number
clause_at-clause-requires-clause-number c = (c.requires.forced z).known

pub mark_clause-opened-requires-clause-assigned : goal.mark_clause-opened-requires-clause-assigned
mark_clause-opened-requires-clause-assigned c l h =
    assigned_from_forced (clauses_in c.args.reasons.now) c.args.reasons.now.trail.now.entries c.args.place c.requires.within z c.args.reason (c.requires.forced z) l (subst (λ k. Contains k l) c.clause_at-clause.ensures.is h)

pub overflow_sub-self : goal.overflow_sub-self
overflow_sub-self c =
    let seen = c.mark_clause-opened.new.seen in
    let at : IsSeen seen c.args.place = c.mark_clause-opened.ensures.marks.kept c.args.place (subst (λ s. IsSeen s c.args.place) (sym c.as_mut_slice.ensures.value) c.requires.seen) in
    let one : bit (get_or seen c.args.place false) ≡ 1 = ap bit at in
    let len : length seen ≡ length c.args.reasons.now.trail.now.entries = c.mark_clause-opened.auto.seen ∙ (ap length c.as_mut_slice.ensures.value ∙ c.requires.followed.len) in
    let was : open_count c.args.start c.as_mut_slice.result.now ≡ c.args.self.now.pending = ap (open_count c.args.start) c.as_mut_slice.ensures.value ∙ sym c.requires.followed.counted in
    omega (arith, count_set seen c.args.start c.args.place false c.requires.level (omega (arith, c.requires.within)), one, was, c.mark_clause-opened.ensures.count)

pub returns-clause-followed : goal.returns-clause-followed
returns-clause-followed c =
    let clauses = clauses_in c.args.reasons.now in
    let entries = c.args.reasons.now.trail.now.entries in
    let seen = c.mark_clause-opened.new.seen in
    let old = c.args.self.now.seen.items in
    let marks : Marks entries (clause_at clauses c.args.reason) old seen =
    subst (λ s. Marks entries (clause_at clauses c.args.reason) s seen) c.as_mut_slice.ensures.value (subst (λ k. Marks entries k c.as_mut_slice.result.now seen) c.clause_at-clause.ensures.is c.mark_clause-opened.ensures.marks) in
    let at : IsSeen seen c.args.place = marks.kept c.args.place c.requires.seen in
    let one : bit (get_or seen c.args.place false) ≡ 1 = ap bit at in
    let len : length seen ≡ length entries = c.mark_clause-opened.auto.seen ∙ (ap length c.as_mut_slice.ensures.value ∙ c.requires.followed.len) in
    let was : open_count c.args.start c.as_mut_slice.result.now ≡ c.args.self.now.pending = ap (open_count c.args.start) c.as_mut_slice.ensures.value ∙ sym c.requires.followed.counted in
    let same_len : length seen ≡ c.args.self.now.seen.len = c.mark_clause-opened.auto.seen ∙ (ap length c.as_mut_slice.ensures.value ∙ sym c.args.self.now.seen.ok.0) in
    let forced = c.requires.forced z in
    let after = set seen c.args.place false in
    followed_from clauses entries c.args.start c.args.place _ after (c.args.reason ∷ reverse c.args.self.now.hints.items) (ap (λ s. set s c.args.place false) (with_items_is c.args.self.now.seen seen same_len))
    (ap reverse c.in_ok-push.ensures.items ∙ reverse_push c.args.self.now.hints.items c.args.reason)
    (length-set seen c.args.place false ∙ len)
    (below_after clauses entries c.args.reasons.now.trail.now.vars c.requires.trail c.args.place c.requires.within z old seen len c.args.reason forced marks c.requires.followed.below)
    (explains_after clauses entries c.args.reasons.now.trail.now.vars c.requires.trail c.args.place c.requires.within z old seen len c.args.reason forced marks (reverse c.args.self.now.hints.items) c.requires.followed.explains)
    (omega (arith, count_set seen c.args.start c.args.place false c.requires.level (omega (arith, c.requires.within)), one, was, c.mark_clause-opened.ensures.count))
