use Rattle.std.proofs.Common.{◌≡◌, ◌∷◌, false, reverse, length, Contains, subst, sym, ap, ◌∙◌, set, None, length-set}
use Rattle.std.proofs.VecSteps.Gaps.{with_items_is}
use Rattle.clause_check.specs.Derivations.{clause_at}
use Rattle.cdcl.specs.declared.trail.Entry.{Entry}
use Rattle.cdcl.specs.Reasons.{clauses_in}
use Rattle.cdcl.specs.Marking.{Marks}
use Rattle.cdcl.proofs.FollowLemmas.{alone_below, assigned_from_forced, cut_below, explains_below}
use Rattle.cdcl.proofs.ConflictLemmas.{reverse_push}
use Rattle.cdcl.proofs.ReduceLemmas.{reduced_from}
use Rattle.cdcl.proofs.conflict.Conflict.resolve_below.Goals as goal

abbrev z : Entry
z = record { lit = record { var = 0; negative = false }; reason = None }

pub clause_at-clause-requires-clause-number : goal.clause_at-clause-requires-clause-number
clause_at-clause-requires-clause-number c = (c.requires.forced z).known

pub mark_clause-opened-requires-clause-assigned : goal.mark_clause-opened-requires-clause-assigned
mark_clause-opened-requires-clause-assigned c l h =
    assigned_from_forced (clauses_in c.args.reasons.now) c.args.reasons.now.trail.now.entries c.args.place c.requires.within z c.args.reason (c.requires.forced z) l (subst (λ k. Contains k l) c.clause_at-clause.ensures.is h)

pub returns : goal.returns
returns c cut was =
    let clauses = clauses_in c.args.reasons.now in
    let entries = c.args.reasons.now.trail.now.entries in
    let vars = c.args.reasons.now.trail.now.vars in
    let p = c.args.place in
    let seen = c.mark_clause-opened.new.seen in
    let old = c.args.self.now.seen.items in
    let marks : Marks entries (clause_at clauses c.args.reason) old seen =
    subst (λ s. Marks entries (clause_at clauses c.args.reason) s seen) c.as_mut_slice.ensures.value (subst (λ k. Marks entries k c.as_mut_slice.result.now seen) c.clause_at-clause.ensures.is c.mark_clause-opened.ensures.marks) in
    let len : length seen ≡ length entries = c.mark_clause-opened.auto.seen ∙ (ap length c.as_mut_slice.ensures.value ∙ c.requires.len) in
    let same_len : length seen ≡ c.args.self.now.seen.len = c.mark_clause-opened.auto.seen ∙ (ap length c.as_mut_slice.ensures.value ∙ sym c.args.self.now.seen.ok.0) in
    let forced = c.requires.forced z in
    let hints = reverse c.args.self.now.hints.items in
    reduced_from clauses entries c.args.start cut p _ (set seen p false) (c.args.reason ∷ hints) (ap (λ s. set s p false) (with_items_is c.args.self.now.seen seen same_len))
    (ap reverse c.in_ok-push.ensures.items ∙ reverse_push c.args.self.now.hints.items c.args.reason)
    (length-set seen p false ∙ len) was.level was.within
    (cut_below clauses entries vars c.requires.trail p c.requires.within z old seen len c.args.reason forced marks c.args.start cut c.requires.below was.level was.seen)
    (alone_below clauses entries vars c.requires.trail p c.requires.within z old seen len c.args.reason forced marks c.args.start cut c.requires.below was.alone)
    (explains_below clauses entries vars c.requires.trail p c.requires.within z old seen len c.args.reason forced marks hints was.explains)
