use Rattle.std.proofs.Common.{◌≡◌, ◌<◌, ◌++◌, ◌∷◌, [], false, not, take, get_or, set, refl, sym, ap, ◌∙◌, subst, arith, None, Some}
use Rattle.std.proofs.lemmas.List.{take_more, take_all}
use Rattle.std.proofs.lemmas.Slice.{pushed}
use Rattle.clause_check.specs.declared.literal.Lit.{Lit}
use Rattle.clause_check.specs.Clauses.{negated}
use Rattle.clause_check.specs.Looks.{value_of}
use Rattle.clause_check.proofs.LookLemmas.{same_bool}
use Rattle.clause_check_texts.specs.declared.words.Number.{Number}
use Rattle.clause_check_texts.specs.Steps.{lit_of}
use Rattle.clause_check_texts.proofs.FollowLemmas.{Assumed, assumed_again, assumed_all, assumed_more, at_number, both_signs, other_bool, other_seen, out_of_range, within}
use Rattle.clause_check_texts.proofs.follow.assume.Goals as goal
use Rattle.clause_check_texts.proofs.follow.assume.Goals.{in-None+in_ok-push-in-None, in-Some-values+else-value-lit}

abbrev nought : Number
nought = record { negative = false; size = 0 }

pub returns-in_default-clause-answer : goal.returns-in_default-clause-answer
returns-in_default-clause-answer c =
    let numbers = c.args.numbers.now in
    let i = c.loop-number.number-index in
    out_of_range c.args.vars numbers (lit_of (get_or numbers i nought)) (at_number numbers i nought c.loop-number-test.true) c.in_default.ensures

pub returns-then-value-lit-clause-answer : goal.returns-then-value-lit-clause-answer
returns-then-value-lit-clause-answer c =
    let numbers = c.args.numbers.now in
    let i = c.loop-number.number-index in
    let n = get_or numbers i nought in
    let value = subst (λ (z : Lit). value_of c.loop-number.values z.var ≡ Some (not z.negative)) c.in-Some.ensures.0 (c.in-Some-values.is ∙ ap Some (other_bool _ _ c.if-value-lit.true)) in
    let other = other_seen c.args.vars (take i numbers) c.loop-number.values c.loop-number.known.items c.loop-number.invariant n value in
    λ clause is below. both_signs numbers (lit_of n) (at_number numbers i nought c.loop-number-test.true) (within numbers i nought (negated (lit_of n)) other) clause is

pub loop-number-preserved : goal.loop-number-preserved
loop-number-preserved c =
    let numbers = c.args.numbers.now in
    let i = c.loop-number.number-index in
    let n = get_or numbers i nought in
    let values = c.loop-number.values in
    let known = c.loop-number.known.items in
    let e = c.in-Some.ensures.0 in
    rw (take_more numbers i nought c.loop-number-test.true)
    (elim c.match-values-lit.branch [
      | in-None+in_ok-push-in-None w ↦
          let items : w.push.new.self.items ≡ known ++ w.negated.result ∷ [] = pushed (w.negated.result ∷ []) refl w.in_ok-push-in-None.was w.push.ensures.items in
          let free = subst (λ (z : Lit). value_of values z.var ≡ None) e w.in-None.is in
          let below = subst (λ (z : Lit). z.var < c.args.vars) e c.in-Some.ensures.1 in
          let next = assumed_more c.args.vars (take i numbers) values known c.loop-number.invariant n (omega arith) below free in
          let same = subst (λ (z : Lit). Assumed c.args.vars (take i numbers ++ n ∷ []) (set values z.var (Some z.negative)) (known ++ negated z ∷ [])) (sym e) next in
          rw (w.values-is, w.known-is, items, w.negated.ensures) same
      | in-Some-values+else-value-lit w ↦
          let value = subst (λ (z : Lit). value_of values z.var ≡ Some z.negative) e (w.in-Some-values.is ∙ ap Some (same_bool _ _ w.if-value-lit.false)) in
          rw (w.values-is, w.known-is) (assumed_again c.args.vars (take i numbers) values known c.loop-number.invariant n value)
    ])

pub returns-clause-answer : goal.returns-clause-answer
returns-clause-answer c =
    let numbers = c.args.numbers.now in
    assumed_all c.args.vars numbers c.loop-number.values c.loop-number.known.items
    (subst (λ s. Assumed c.args.vars s c.loop-number.values c.loop-number.known.items) (take_all c.loop-number.number-index numbers (omega arith)) c.loop-number.invariant)
