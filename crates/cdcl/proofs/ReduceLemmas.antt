use Rattle.std.proofs.Common.{◌≡◌, ◌<◌, ◌≤◌, ◌+◌, ℕ, Bool, false, List, take, reverse, arith, sym, ◌∙◌, ap, subst, length, Contains, inl, inr, None}
use Rattle.clause_check.specs.declared.literal.Lit.{Lit}
use Rattle.cdcl.specs.declared.trail.Entry.{Entry}
use Rattle.cdcl.specs.declared.conflict.Conflict.{Conflict}
use Rattle.cdcl.specs.Trails.{lits_of}
use Rattle.cdcl.specs.Marking.{ExplainsFrom, IsSeen}
use Rattle.cdcl.specs.Conflicts.{IsCut, IsReduced}
use Rattle.cdcl.proofs.FollowLemmas.{take_contains}

-- fewer literals are before a lower place
explains_lower : (clauses : List (List Lit)) (entries : List Entry) (p q : ℕ) (seen : List Bool) (hints : List ℕ) → p ≤ q → ExplainsFrom clauses entries q seen hints → ExplainsFrom clauses entries p seen hints
explains_lower clauses entries p q seen hints le e k sub sup =
    e k (λ m h. let o = sub m h in (o.0, o.1, elim o.2 [ inl lt ↦ inl (omega arith) | inr s ↦ inr s ], o.3)) sup

-- what the walk to the cut leaves
pub reduced_start : (clauses : List (List Lit)) (entries : List Entry) (start cut : ℕ) (c : Conflict) → IsCut clauses entries start c cut → IsReduced clauses entries start cut start c
reduced_start clauses entries start cut c is =
    let z : Entry = record { lit = record { var = 0; negative = false }; reason = None } in
    record {
      len = is.followed.len;
      level = is.level;
      within = is.within;
      seen = is.seen;
      alone = is.alone;
      explains = explains_lower clauses entries start (cut + 1) c.seen.items (reverse c.hints.items) (let l = is.level in omega arith) (λ k sub sup.
          is.followed.explains k (λ m h.
          let o = sub m h in
          let lt : o.0 < cut + 1 = elim o.2 [ inl l ↦ l | inr s ↦ is.followed.below o.0 s ] in
          subst (Contains (lits_of (take (cut + 1) entries))) (o.3 z) (take_contains entries (cut + 1) o.0 z lt o.1)) (λ q d lt s. sup q d s));
    }

-- a place that stays
pub reduced_past : (clauses : List (List Lit)) (entries : List Entry) (start cut p : ℕ) (c : Conflict) → IsReduced clauses entries start cut (p + 1) c → IsReduced clauses entries start cut p c
reduced_past clauses entries start cut p c is =
    record {
      len = is.len;
      level = is.level;
      within = is.within;
      seen = is.seen;
      alone = is.alone;
      explains = explains_lower clauses entries p (p + 1) c.seen.items (reverse c.hints.items) (omega arith) is.explains;
    }

pub reduced_from : (clauses : List (List Lit)) (entries : List Entry) (start cut p : ℕ) (c : Conflict) (seen : List Bool) (hints : List ℕ) → c.seen.items ≡ seen → reverse c.hints.items ≡ hints → length seen ≡ length entries → start ≤ cut → cut < length entries → IsSeen seen cut → ((q : ℕ) → IsSeen seen q → start ≤ q → q ≡ cut) → ExplainsFrom clauses entries p seen hints → IsReduced clauses entries start cut p c
reduced_from clauses entries start cut p c seen hints e h len level within at alone explains =
    record {
      len = ap length e ∙ len;
      level = level;
      within = within;
      seen = subst (λ s. IsSeen s cut) (sym e) at;
      alone = λ q s. alone q (subst (λ s. IsSeen s q) e s);
      explains = subst (λ s. ExplainsFrom clauses entries p s (reverse c.hints.items)) (sym e) (subst (ExplainsFrom clauses entries p seen) (sym h) explains);
    }
