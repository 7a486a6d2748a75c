use Rattle.std.proofs.Common.{◌≡◌, ◌<◌, ◌+◌, [], ◌∷◌, ◌++◌, true, false, None, length, subst, sym, ap, ◌∙◌, arith, get_or, Vec, Global}
use Rattle.clause_check.specs.declared.literal.Lit.{Lit}
use Rattle.clause_check.specs.Clauses.{IsClause, negated}
use Rattle.cdcl.specs.declared.trail.Entry.{Entry}
use Rattle.cdcl.specs.Marking.{IsLearnt}
use Rattle.cdcl.proofs.LearnLemmas.{learnt_start, learnt_more, learnt_past, distinct_more}
use Rattle.cdcl.proofs.learn.learnt_clause.Goals as goal
use Rattle.cdcl.proofs.learn.learnt_clause.Goals.{then-seen-place+in_ok-push-2, else-seen-place}

abbrev z : Entry
z = record { lit = record { var = 0; negative = false }; reason = None }

pub loop-place-init : goal.loop-place-init
loop-place-init c =
    let entries = c.args.trail.now.entries in
    let first = negated (get_or entries c.args.cut z).lit in
    let is : c.negated.result ≡ first = c.negated.ensures ∙ ap (λ es. negated (get_or es c.args.cut z).lit) c.entries-entries.ensures.entries in
    let items : c.push.new.self.items ≡ first ∷ [] = c.in_ok-push.ensures.items ∙ (ap (λ xs. xs ++ c.negated.result ∷ []) c.new-lits.ensures.items ∙ ap (λ l. l ∷ []) is) in
    record {
      learnt = subst (λ ls. IsLearnt entries 0 c.args.cut c.args.seen.now ls 0) (sym items) (learnt_start entries c.args.cut c.requires.within c.args.seen.now z);
      distinct = subst IsClause (sym items) (λ i j d lt inside. absurd (omega (arith, inside)));
    }

pub loop-place-preserved : goal.loop-place-preserved
loop-place-preserved c =
    let entries = c.args.trail.now.entries in
    let i = c.loop-place.place in
    let lits = c.loop-place.lits.items in
    let was = c.loop-place.invariant in
    let inside : i < length entries = omega (arith, c.requires.within, c.requires.level) in
    elim c.if-seen-place.branch [
      | then-seen-place+in_ok-push-2 w ↦
          let next = negated (get_or entries i z).lit in
          let is : w.negated-then-seen-place.result ≡ next = w.negated-then-seen-place.ensures ∙ ap (λ es. negated (get_or es i z).lit) c.entries-entries.ensures.entries in
          let items : c.if-seen-place.lits.items ≡ lits ++ next ∷ [] = ap (λ (v : Vec Lit Global). v.items) w.lits-is ∙ (w.in_ok-push-2.ensures.items ∙ ap (λ l. lits ++ l ∷ []) is) in
          let more = learnt_more entries c.args.cut c.requires.within c.args.seen.now z i inside lits c.loop-place.bound was.learnt w.if-seen-place.true in
          record {
            learnt =
                subst (λ ls. IsLearnt entries (i + 1) c.args.cut c.args.seen.now ls c.if-seen-place.bound) (sym items)
                (subst (λ b. IsLearnt entries (i + 1) c.args.cut c.args.seen.now (lits ++ next ∷ []) b) (sym w.bound-is) more);
            distinct =
                subst IsClause (sym items)
                (distinct_more entries c.args.cut c.requires.within c.args.seen.now z i inside lits c.loop-place.bound was.learnt c.args.trail.now.vars c.entries-entries.ensures.trail (omega (arith, c.requires.level)) was.distinct);
          }
      | else-seen-place w ↦
          let past = learnt_past entries c.args.cut c.requires.within c.args.seen.now z i inside lits c.loop-place.bound was.learnt (λ h. let bad : true ≡ false = sym h ∙ w.if-seen-place.false in cc) in
          let items = ap (λ (v : Vec Lit Global). v.items) w.lits-is in
          record {
            learnt =
                subst (λ ls. IsLearnt entries (i + 1) c.args.cut c.args.seen.now ls c.if-seen-place.bound) (sym items)
                (subst (λ b. IsLearnt entries (i + 1) c.args.cut c.args.seen.now lits b) (sym w.bound-is) past);
            distinct = subst IsClause (sym items) was.distinct;
          }
    ]

pub returns : goal.returns
returns c =
    let at : c.loop-place.place ≡ c.args.start = omega arith in
    subst (λ ls. IsLearnt c.args.trail.now.entries c.args.start c.args.cut c.args.seen.now ls c.loop-place.bound) (sym (c.new.ensures ∙ c.shrink_to_fit.ensures.items))
    (subst (λ n. IsLearnt c.args.trail.now.entries n c.args.cut c.args.seen.now c.loop-place.lits.items c.loop-place.bound) at c.loop-place.invariant.learnt)
