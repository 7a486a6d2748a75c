use Rattle.std.proofs.Common.{◌≡◌, ℕ, List, length, map, take, sym, ap, ◌∙◌, subst, arith}
use Rattle.std.specs.Prelude.{Option, MatchBool, MatchOption}
use Rattle.clause_check.specs.declared.literal.Lit.{Lit}
use Rattle.clause_check.specs.declared.formula.Step.{Step}
use Rattle.clause_check.specs.Clauses.{IsInRange, negated}
use Rattle.clause_check.specs.Looks.{Shows}
use Rattle.clause_check.specs.Derivations.{Refutes, clauses_of}
use Rattle.clause_check_texts.specs.declared.words.Number.{Number}
use Rattle.clause_check_texts.specs.Steps.{IsClauseOf, clause_number}
use Rattle.clause_check_texts.proofs.FollowLemmas.{none_follows, step_follows}
use Rattle.clause_check_texts.proofs.read.step_of.Goals as goal

pub forget-requires-clause-shows : goal.forget-requires-clause-shows
forget-requires-clause-shows c = subst (λ k. Shows c.assume.new.values k) (sym c.as_slice-then-not-possible.ensures.value) c.in_ok-possible.ensures.shows

pub forget-requires-2-clause-shows : goal.forget-requires-2-clause-shows
forget-requires-2-clause-shows c = subst (λ k. Shows c.follow.new.values k) (sym c.as_slice-7.ensures.value) c.in_ok-count.ensures.shows

pub returns-in-Some-clause-step : goal.returns-in-Some-clause-step
returns-in-Some-clause-step c =
    let cnf = c.args.cnf.now in
    let ids = c.args.past.now.ids.items in
    let before = c.args.past.now.steps.items in
    let lits = c.args.addition.now.lits.items in
    let hints = c.args.addition.now.hints.items in
    let known = c.assume.new.known.items in
    let numbers = c.in_ok-hints.hints.items in
    let inputs = length cnf.clauses in
    let answer = subst (λ b. MatchBool b (IsClauseOf c.as_slice.result.now (map negated known)) ((x : List Lit) → IsClauseOf c.as_slice.result.now x → IsInRange cnf.vars x → ⊥)) c.if-not-possible.false c.in_ok-possible.ensures.answer in
    let clause = subst (λ ns. IsClauseOf ns (map negated known)) c.as_slice.ensures.value answer in
    let n : c.len-inputs.result ≡ inputs = c.len-inputs.ensures.len in
    let are : numbers ≡ map (clause_number inputs ids) hints =
    c.in_ok-hints.ensures ∙ (ap (λ k. map (clause_number k c.as_slice-3.result.now) c.as_slice-4.result.now) n
    ∙ (ap (λ (xs : List ℕ). map (clause_number inputs xs) c.as_slice-4.result.now) c.as_slice-3.ensures.value ∙ ap (λ (xs : List Number). map (clause_number inputs ids) xs) c.as_slice-4.ensures.value)) in
    let found = subst (λ (o : Option ℕ). MatchOption o ((k : ℕ) → Refutes (clauses_of cnf.clauses c.as_slice-5.result.now) known (take k c.as_slice-6.result.now) → ⊥) (λ k. Refutes (clauses_of cnf.clauses c.as_slice-5.result.now) known (take k c.as_slice-6.result.now))) c.in-Some.is c.in_ok-count.ensures.answer in
    let refutes = subst (λ (xs : List ℕ). Refutes (clauses_of cnf.clauses before) known (take c.in-Some.count xs)) c.as_slice-6.ensures.value
    (subst (λ (ss : List Step). Refutes (clauses_of cnf.clauses ss) known (take c.in-Some.count c.as_slice-6.result.now)) c.as_slice-5.ensures.value found) in
    step_follows cnf ids before lits hints known clause numbers are c.in-Some.count _ c.in_ok-possible.ensures.in_range refutes (c.in_ok-clause.ensures ∙ ap (map negated) c.as_slice-2.ensures.value) c.truncate.ensures.items

pub returns-clause-step : goal.returns-clause-step
returns-clause-step c =
    let cnf = c.args.cnf.now in
    let ids = c.args.past.now.ids.items in
    let before = c.args.past.now.steps.items in
    let lits = c.args.addition.now.lits.items in
    let hints = c.args.addition.now.hints.items in
    let known = c.assume.new.known.items in
    let numbers = c.in_ok-hints.hints.items in
    let inputs = length cnf.clauses in
    let answer = subst (λ b. MatchBool b (IsClauseOf c.as_slice.result.now (map negated known)) ((x : List Lit) → IsClauseOf c.as_slice.result.now x → IsInRange cnf.vars x → ⊥)) c.if-not-possible.false c.in_ok-possible.ensures.answer in
    let clause = subst (λ ns. IsClauseOf ns (map negated known)) c.as_slice.ensures.value answer in
    let n : c.len-inputs.result ≡ inputs = c.len-inputs.ensures.len in
    let are : numbers ≡ map (clause_number inputs ids) hints =
    c.in_ok-hints.ensures ∙ (ap (λ k. map (clause_number k c.as_slice-3.result.now) c.as_slice-4.result.now) n
    ∙ (ap (λ (xs : List ℕ). map (clause_number inputs xs) c.as_slice-4.result.now) c.as_slice-3.ensures.value ∙ ap (λ (xs : List Number). map (clause_number inputs ids) xs) c.as_slice-4.ensures.value)) in
    let found = subst (λ (o : Option ℕ). MatchOption o ((k : ℕ) → Refutes (clauses_of cnf.clauses c.as_slice-5.result.now) known (take k c.as_slice-6.result.now) → ⊥) (λ k. Refutes (clauses_of cnf.clauses c.as_slice-5.result.now) known (take k c.as_slice-6.result.now))) c.in-None.is c.in_ok-count.ensures.answer in
    let none = subst (λ (xs : List ℕ). (k : ℕ) → Refutes (clauses_of cnf.clauses before) known (take k xs) → ⊥) c.as_slice-6.ensures.value
    (subst (λ (ss : List Step). (k : ℕ) → Refutes (clauses_of cnf.clauses ss) known (take k c.as_slice-6.result.now) → ⊥) c.as_slice-5.ensures.value found) in
    none_follows cnf ids before lits hints known clause numbers are none
