use Rattle.std.proofs.Common.{◌≡◌, ℕ, false, None, subst, sym, ap, ◌∙◌, arith, get_or, reverse, Vec, Global}
use Rattle.clause_check.specs.declared.literal.Lit.{Lit}
use Rattle.clause_check.specs.declared.formula.Step.{Step}
use Rattle.clause_check.specs.Clauses.{negated}
use Rattle.cdcl.specs.declared.trail.Entry.{Entry}
use Rattle.cdcl.specs.Reasons.{clauses_in}
use Rattle.cdcl.specs.Search.{IsLesson}
use Rattle.cdcl.specs.Marking.{IsLearnt}
use Rattle.cdcl.proofs.LearnLemmas.{pending_from_closed, lesson}
use Rattle.cdcl.proofs.learn.analyze.Goals as goal

abbrev z : Entry
z = record { lit = record { var = 0; negative = false }; reason = None }

pub follow_to_cut-requires-clause-pending : goal.follow_to_cut-requires-clause-pending
follow_to_cut-requires-clause-pending c =
    let clauses = clauses_in c.args.reasons.now in
    let f = (c.in_ok-conflict.ensures).followed in
    let one = pending_from_closed clauses c.args.reasons.now.trail.now.vars c.args.reasons.now.trail.now.entries c.requires.trail c.args.start c.args.number c.requires.closed c.requires.conflict c.in_ok-conflict.conflict.seen.items (c.in_ok-conflict.ensures).marked in
    omega (arith, one, f.counted)

pub returns : goal.returns
returns c =
    let entries = c.args.reasons.now.trail.now.entries in
    let conflict = c.reduce.new.self in
    let cut = c.in_ok-cut.cut in
    let hints : c.shrink_to_fit.new.self.items ≡ reverse conflict.hints.items = c.shrink_to_fit.ensures.items ∙ (c.reverse.ensures.items ∙ ap (λ (v : Vec ℕ Global). reverse v.items) c.into_hints-hints.ensures) in
    let lit : c.negated-lit.result ≡ negated (get_or entries cut z).lit = c.negated-lit.ensures ∙ ap (λ es. negated (get_or es cut z).lit) c.entries.ensures.entries in
    let step : Step = record { clause = c.in_ok-clause.clause; hints = c.shrink_to_fit.new.self } in
    let learnt : IsLearnt entries c.args.start cut conflict.seen.items step.clause c.in_ok-clause.bound =
    subst (λ s. IsLearnt entries c.args.start cut s step.clause c.in_ok-clause.bound) c.as_slice.ensures.value c.in_ok-clause.ensures in
    subst (λ (l : Lit). IsLesson c.args.reasons.now.cnf.now c.args.reasons.now.steps.now entries c.args.start (record { step = step; lit = l; bound = c.in_ok-clause.bound })) (sym lit)
    (lesson c.args.reasons.now.cnf.now c.args.reasons.now.steps.now c.args.reasons.now.trail.now.vars entries c.requires.trail c.requires.vars c.args.start c.requires.closed conflict cut c.in_ok-reduce.ensures z step c.in_ok-clause.bound learnt hints)
