use Rattle.std.proofs.Common.{false, ◌≡◌, ◌≢◌, ◌∙◌, ◌<◌, Contains, get_or, subst, sym, inl, inr}
use Rattle.std.proofs.lemmas.List.{get_or_default}
use Rattle.std.proofs.lemmas.List.Elements.{All-contains}
use Rattle.clause_check.specs.declared.literal.Lit.{Lit}
use Rattle.clause_check.specs.Clauses.{negated}
use Rattle.clause_check.specs.Derivations.{clauses_of, clause_at, IsClauseAt}
use Rattle.clause_check.proofs.RefuteLemmas.{false_known, true_known, known_false, cases_lit}
use Rattle.cdcl.specs.Trails.{lits_of}
use Rattle.cdcl.proofs.TrailLemmas.{avoids_from_free}
use Rattle.cdcl.proofs.VisitLemmas.{rests_from, apart_in, contains_place, none_other, false_otherwise, among_leaves}
use Rattle.cdcl.proofs.solver.look_for.Goals as goal

abbrev z : Lit
z = record { var = 0; negative = false }

pub returns-then-is_true : goal.returns-then-is_true
returns-then-is_true c =
    let s = c.args.search.now in
    rests_from s.trail.entries c.args.denied c.args.clause.watch c.in-Some.other c.in-Some.ensures
    (true_known c.values-values.result.now (lits_of s.trail.entries) c.values-values.ensures.shows c.in-Some.other (c.is_true.ensures.0 c.if-is_true.true))

pub returns-in-Some-find_other : goal.returns-in-Some-find_other
returns-in-Some-find_other c =
    let s = c.args.search.now in
    let at = subst (IsClauseAt c.args.cnf.now.vars (clauses_of c.args.cnf.now.clauses s.steps.items) c.args.clause.number) (sym c.clause-lits.ensures) c.requires.copied.clause in
    let found = c.in-Some-find_other.ensures in
    let clause = c.clause-lits.result.now in
    let first = get_or clause c.in-Some-find_other.place z in
    let among = contains_place clause c.in-Some-find_other.place z found.within in
    let is : c.lit-first.result ≡ first = c.lit-first.ensures ∙ (c.index-lits-place.is ∙ get_or_default clause c.in-Some-find_other.place c.index-lits-place.result z found.within) in
    record {
      leaves = c.in-Some.ensures;
      in_range = subst (λ (l : Lit). l.var < c.args.cnf.now.vars) (sym is) (All-contains (λ (l : Lit). l.var < c.args.cnf.now.vars) clause first at.in_range among);
      among = subst (Contains (clause_at (clauses_of c.args.cnf.now.clauses s.steps.items) c.args.clause.number)) (sym is) (subst (λ k. Contains k first) at.is among);
      apart = subst (λ (l : Lit). l.var ≢ c.in-Some.other.var) (sym is) (found.apart z);
      not_false = λ h. found.not_false z (known_false c.values-values.result.now (lits_of s.trail.entries) c.values-values.ensures.shows first (subst (λ l. Contains (lits_of s.trail.entries) (negated l)) is h));
    }

pub returns-then-is_free : goal.returns-then-is_free
returns-then-is_free c =
    let s = c.args.search.now in let other = c.in-Some.other in
    let values = c.values-values.result.now in let shows = c.values-values.ensures.shows in
    let at = subst (IsClauseAt c.args.cnf.now.vars (clauses_of c.args.cnf.now.clauses s.steps.items) c.args.clause.number) (sym c.clause-lits.ensures) c.requires.copied.clause in
    let clause = c.clause-lits.result.now in
    let among = among_leaves (clause_at (clauses_of c.args.cnf.now.clauses s.steps.items) c.args.clause.number) c.args.denied c.args.clause.watch other c.requires.watch c.in-Some.ensures in
    record {
      leaves = c.in-Some.ensures;
      avoided = avoids_from_free values (lits_of s.trail.entries) other shows (c.is_free.ensures.0 c.if-is_free.true);
      forced = record {
        known = at.known;
        among = among;
        others = λ m h ne.
            let here = subst (λ k. Contains k m) (sym at.is) h in
            false_known values (lits_of s.trail.entries) shows m (none_other clause other.var values c.in-None.ensures m here (apart_in clause other m at.distinct (subst (λ k. Contains k other) (sym at.is) among) here ne));
      };
    }

pub returns-else-is_free : goal.returns-else-is_free
returns-else-is_free c =
    let s = c.args.search.now in let other = c.in-Some.other in
    let values = c.values-values.result.now in let shows = c.values-values.ensures.shows in
    let at = subst (IsClauseAt c.args.cnf.now.vars (clauses_of c.args.cnf.now.clauses s.steps.items) c.args.clause.number) (sym c.clause-lits.ensures) c.requires.copied.clause in
    let clause = c.clause-lits.result.now in
    let among = among_leaves (clause_at (clauses_of c.args.cnf.now.clauses s.steps.items) c.args.clause.number) c.args.denied c.args.clause.watch other c.requires.watch c.in-Some.ensures in
    record {
      known = at.known;
      all_false = λ m h. elim (cases_lit m other) [
        | inl e ↦
            subst (λ l. Contains (lits_of s.trail.entries) (negated l)) (sym e)
            (false_known values (lits_of s.trail.entries) shows other (false_otherwise values other (λ t. let f : c.is_true.result ≡ _ = c.is_true.ensures.1 t in let g = c.if-is_true.false in cc) (λ t. let f : c.is_free.result ≡ _ = c.is_free.ensures.1 t in let g = c.if-is_free.false in cc)))
        | inr ne ↦
            let here = subst (λ k. Contains k m) (sym at.is) h in
            false_known values (lits_of s.trail.entries) shows m (none_other clause other.var values c.in-None.ensures m here (apart_in clause other m at.distinct (subst (λ k. Contains k other) (sym at.is) among) here ne))
      ];
    }
