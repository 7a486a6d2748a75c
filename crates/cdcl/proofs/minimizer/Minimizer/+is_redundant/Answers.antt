use Rattle.std.proofs.Common.{◌≡◌, List, Some, None, Contains, get_or, take, subst, sym, ap, ◌∙◌, false}
use Rattle.std.specs.Option.{IfSome}
use Rattle.std.proofs.lemmas.List.Elements.{Contains-get_or}
use Rattle.clause_check.specs.declared.literal.Lit.{Lit}
use Rattle.cdcl.specs.declared.trail.Entry.{Entry}
use Rattle.cdcl.specs.Reasons.{clauses_in}
use Rattle.cdcl.specs.Marking.{IsForcedBy}
use Rattle.cdcl.proofs.FollowLemmas.{assigned_from_forced}
use Rattle.cdcl.proofs.minimizer.Minimizer.+is_redundant.Goals as goal

abbrev y : Lit
y = record { var = 0; negative = false }

abbrev z : Entry
z = record { lit = y; reason = None }

pub place-other-requires : goal.place-other-requires
place-other-requires t c =
    let entries = c.args.reasons.now.trail.now.entries in
    let clauses = clauses_in c.args.reasons.now in
    let p = c.args.place in
    let items = c.clause_at-lit-items.result.now in
    let lit = get_or items c.loop-lit.lit-index y in
    let is : (get_or entries p z).reason ≡ Some c.in-Some-reason.reason = ap (λ (es : List Entry). (get_or es p z).reason) (sym c.entries.ensures.entries) ∙ c.in-Some-reason.is in
    let forced : IsForcedBy clauses (take p entries) (get_or entries p z).lit c.in-Some-reason.reason =
    subst (λ o. IfSome o (λ r. IsForcedBy clauses (take p entries) (get_or entries p z).lit r)) is (c.requires.reasons p z c.requires.within) in
    let among : Contains items lit = Contains-get_or items c.loop-lit.lit-index y c.loop-lit-test.true in
    assigned_from_forced clauses entries p c.requires.within z c.in-Some-reason.reason forced lit (subst (λ k. Contains k lit) c.clause_at-lit-items.ensures.is among)
