use Rattle.std.proofs.Common.{◌≡◌, ◌<◌, ◌++◌, ◌∷◌, [], get_or, refl, subst, arith}
use Rattle.std.proofs.lemmas.List.Elements.{All-contains, All-push}
use Rattle.std.proofs.lemmas.Slice.{pushed}
use Rattle.clause_check.specs.declared.literal.Lit.{Lit}
use Rattle.clause_check.specs.declared.looks.Look.TheVariants.{False}
use Rattle.clause_check.specs.Looks.{IsOpen, IsUnit, Sees}
use Rattle.clause_check.specs.Derivations.{clause_at, clauses_of}
use Rattle.clause_check_texts.proofs.FollowLemmas.{follow_missing, follow_false, follow_open, follow_unit}
use Rattle.clause_check_texts.proofs.follow.follow.Goals as goal

pub returns-in_default-clause-answer : goal.returns-in_default-clause-answer
returns-in_default-clause-answer c =
    follow_missing (clauses_of c.args.cnf.now.clauses c.args.steps.now) c.args.known.now.items c.args.hints.now c.loop-i.i c.loop-i.values c.loop-i.known.items c.loop-i.invariant.following c.loop-i-test.true
    c.in_default.ensures

pub returns-in-False-clause-answer : goal.returns-in-False-clause-answer
returns-in-False-clause-answer c =
    let at = c.in-Some.ensures in
    follow_false (clauses_of c.args.cnf.now.clauses c.args.steps.now) c.args.known.now.items c.args.hints.now c.loop-i.i c.loop-i.values c.loop-i.known.items c.loop-i.invariant.following c.loop-i-test.true at.known
    (subst (λ k. Sees c.loop-i.values k False) at.is c.in-False.ensures)

pub returns-in-Open-clause-answer : goal.returns-in-Open-clause-answer
returns-in-Open-clause-answer c =
    let at = c.in-Some.ensures in
    follow_open (clauses_of c.args.cnf.now.clauses c.args.steps.now) c.args.known.now.items c.args.hints.now c.loop-i.i c.loop-i.values c.loop-i.known.items c.loop-i.invariant.following c.loop-i-test.true
    (subst (λ k. IsOpen c.loop-i.values k) at.is c.in-Open.ensures)

pub loop-i-preserved : goal.loop-i-preserved
loop-i-preserved c =
    let clauses = clauses_of c.args.cnf.now.clauses c.args.steps.now in
    let at = c.in-Some.ensures in
    let lit = c.in-Unit.lit in
    let unit : IsUnit c.loop-i.values (clause_at clauses (get_or c.args.hints.now c.loop-i.i 0)) lit = subst (λ k. IsUnit c.loop-i.values k lit) at.is c.in-Unit.ensures in
    let below : lit.var < c.args.cnf.now.vars = All-contains (λ (l : Lit). l.var < c.args.cnf.now.vars) c.in-Some.clause.now lit at.in_range (c.in-Unit.ensures).among in
    let items : c.push.new.self.items ≡ c.loop-i.known.items ++ lit ∷ [] = pushed (lit ∷ []) refl c.in_ok-push-in-Unit.was c.push.ensures.items in
    rw items (record {
      following = follow_unit clauses c.args.known.now.items c.args.hints.now c.loop-i.i c.loop-i.values c.loop-i.known.items c.loop-i.invariant.following c.loop-i-test.true lit at.known unit (omega arith);
      in_range = All-push (λ (l : Lit). l.var < c.args.cnf.now.vars) c.loop-i.known.items lit c.loop-i.invariant.in_range below;
    })
