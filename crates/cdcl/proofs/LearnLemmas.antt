use Rattle.std.proofs.Common.{◌≡◌, ◌≢◌, ◌<◌, ◌+◌, ◌-◌, ◌≤◌, ℕ, Bool, List, [], ◌∷◌, ◌++◌, reverse, map, take, drop, None, get_or, arith, sym, ◌∙◌, ap, subst, refl, length, Contains, inl, inr, All}
use Rattle.std.proofs.lemmas.Bool.{cases_lt, cases_eq}
use Rattle.std.proofs.lemmas.List.{get_or_default}
use Rattle.std.proofs.lemmas.List.Elements.{Contains-push, Contains-push_cases, Contains-append_left, Contains-get_or, All-get_or}
use Rattle.std.proofs.lemmas.List.Quantifiers.{all_pairs_push}
use Rattle.clause_check.specs.declared.literal.Lit.{Lit}
use Rattle.clause_check.specs.declared.formula.Step.{Step}
use Rattle.clause_check.specs.declared.formula.Cnf.{Cnf}
use Rattle.clause_check.specs.Clauses.{negated, IsClause}
use Rattle.clause_check.specs.Derivations.{clause_at, clauses_of, Refutes, IsStep}
use Rattle.clause_check.proofs.Members.{contains_cons_cases, contains_here, contains_map, map_from, negated-negated}
use Rattle.clause_check.proofs.RefuteLemmas.{not_itself}
use Rattle.cdcl.specs.declared.trail.Entry.{Entry}
use Rattle.cdcl.specs.declared.conflict.Conflict.{Conflict}
use Rattle.cdcl.specs.Closed.{Avoids, IsMet, IsNewAt}
use Rattle.cdcl.specs.Trails.{lits_of, IsTrail, IsPlaceOf}
use Rattle.cdcl.specs.Marking.{IsSeen, IsLearnt, open_count}
use Rattle.cdcl.specs.Conflicts.{IsReduced}
use Rattle.cdcl.specs.Search.{IsConflict, IsLesson}
use Rattle.cdcl.proofs.TrailLemmas.{avoids_from_vars, place_of_lit, contains_at}
use Rattle.cdcl.proofs.FollowLemmas.{place_in_take, take_contains, same_place}
use Rattle.cdcl.proofs.ConflictLemmas.{some_count, in_level}

-- a trail never has a literal and its negation
pub trail_consistent : (vars : ℕ) (entries : List Entry) → IsTrail vars entries → (l : Lit) → Contains (lits_of entries) l → Contains (lits_of entries) (negated l) → ⊥
trail_consistent vars entries t l h n =
    let p = place_of_lit entries l h in
    let q = place_of_lit entries (negated l) n in
    let z : Entry = record { lit = l; reason = None } in
    let same : p.0 ≡ q.0 = same_place vars entries t p.0 q.0 z p.1 q.1 (ap (λ (x : Lit). x.var) (p.2 z) ∙ sym (ap (λ (x : Lit). x.var) (q.2 z))) in
    let eq : l ≡ negated l = sym (p.2 z) ∙ (ap (λ r. (get_or entries r z).lit) same ∙ q.2 z) in
    not_itself l.negative (ap (λ (x : Lit). x.negative) eq)

pub in_whole : (entries : List Entry) (n : ℕ) (l : Lit) → Contains (lits_of (take n entries)) l → Contains (lits_of entries) l
in_whole entries n l h =
    let z : Entry = record { lit = l; reason = None } in
    let p = place_in_take entries n l h in
    subst (Contains (lits_of entries)) (p.3 z) (contains_at entries p.0 z p.2)

pub in_longer : (entries : List Entry) (m n : ℕ) (l : Lit) → m ≤ n → Contains (lits_of (take m entries)) l → Contains (lits_of (take n entries)) l
in_longer entries m n l le h =
    let z : Entry = record { lit = l; reason = None } in
    let p = place_in_take entries m l h in
    subst (Contains (lits_of (take n entries))) (p.3 z) (take_contains entries n p.0 z (omega (arith, p.1)) p.2)

-- no literal of the front is of the variable at a later place
pub front_avoids : (vars : ℕ) (entries : List Entry) → IsTrail vars entries → (n p : ℕ) (z : Entry) → n ≤ p → p < length entries → (l : Lit) → l.var ≡ (get_or entries p z).lit.var → Avoids (lits_of (take n entries)) l
front_avoids vars entries t n p z le within l e =
    avoids_from_vars (lits_of (take n entries)) l (λ m h same.
    let q = place_in_take entries n m h in
    let eq : q.0 ≡ p = same_place vars entries t q.0 p z q.2 within (ap (λ (x : Lit). x.var) (q.3 z) ∙ (same ∙ e)) in
    omega (arith, q.1))

module _ (entries : List Entry) (cut : ℕ) (within : cut < length entries) (seen : List Bool) (z : Entry) where
  pub learnt_start : IsLearnt entries 0 cut seen (negated (get_or entries cut z).lit ∷ []) 0
  learnt_start =
      record {
        head = λ d. subst (λ (x : Entry). Contains (negated (get_or entries cut z).lit ∷ []) (negated x.lit)) (get_or_default entries cut z d within) (contains_here _ []);
        rest = λ q d lt s. absurd (omega arith);
        only = λ m h. elim (contains_cons_cases (negated (get_or entries cut z).lit) [] m h) [
          | inl n ↦ absurd (omega (arith, n.1))
          | inr e ↦ (cut, inl refl, λ d. sym e ∙ ap (λ (x : Entry). negated x.lit) (get_or_default entries cut z d within))
        ];
        below = λ q lt s. absurd (omega arith);
        last = inl refl;
      }

  module _ (i : ℕ) (inside : i < length entries) (lits : List Lit) (bound : ℕ) (was : IsLearnt entries i cut seen lits bound) where
    abbrev new : Lit
    new = negated (get_or entries i z).lit

    new_at : (d : Entry) → new ≡ negated (get_or entries i d).lit
    new_at d = ap (λ (x : Entry). negated x.lit) (get_or_default entries i z d inside)

    pub learnt_more : IsSeen seen i → IsLearnt entries (i + 1) cut seen (lits ++ new ∷ []) (i + 1)
    learnt_more s =
        record {
          head = λ d. Contains-append_left lits (new ∷ []) _ (was.head d);
          rest = λ q d lt h. elim (cases_eq q i) [
            | inl e ↦ subst (λ r. Contains (lits ++ new ∷ []) (negated (get_or entries r d).lit)) (sym e) (subst (Contains (lits ++ new ∷ [])) (new_at d) (Contains-push lits new))
            | inr ne ↦ Contains-append_left lits (new ∷ []) _ (was.rest q d (omega arith) h)
          ];
          only = λ m h. elim (Contains-push_cases lits new m h) [
            | inl c ↦
                let o = was.only m c in
                (o.0, elim o.1 [ inl e ↦ inl e | inr f ↦ let lt : o.0 < i = f.0 in inr (omega arith, f.1) ], o.2)
            | inr e ↦ (i, inr (omega arith, s), λ d. sym e ∙ new_at d)
          ];
          below = λ q lt h. lt;
          last = inr (i, refl, omega arith, s);
        }

    pub learnt_past : (IsSeen seen i → ⊥) → IsLearnt entries (i + 1) cut seen lits bound
    learnt_past un =
        let earlier : (q : ℕ) → q < i + 1 → IsSeen seen q → q < i = λ q lt h. elim (cases_eq q i) [ inl e ↦ absurd (un (subst (IsSeen seen) e h)) | inr ne ↦ omega arith ] in
        record {
          head = was.head;
          rest = λ q d lt h. was.rest q d (earlier q lt h) h;
          only = λ m h. let o = was.only m h in (o.0, elim o.1 [ inl e ↦ inl e | inr f ↦ let lt : o.0 < i = f.0 in inr (omega arith, f.1) ], o.2);
          below = λ q lt h. was.below q (earlier q lt h) h;
          last = elim was.last [ inl e ↦ inl e | inr b ↦ let lt : b.0 < i = b.2 in inr (b.0, b.1, omega arith, b.3) ];
        }

    pub distinct_more : (vars : ℕ) → IsTrail vars entries → i < cut → IsClause lits → IsClause (lits ++ new ∷ [])
    distinct_more vars t lt distinct =
        all_pairs_push (λ (l m : Lit). l.var ≢ m.var) lits new distinct (λ k d inner e.
        let o = was.only (get_or lits k d) (Contains-get_or lits k d inner) in
        let other : o.0 ≢ i = elim o.1 [ inl f ↦ omega (arith, f) | inr f ↦ omega (arith, f.0) ] in
        let in_trail : o.0 < length entries = elim o.1 [ inl f ↦ omega (arith, f) | inr f ↦ omega (arith, f.0) ] in
        other (same_place vars entries t o.0 i z in_trail inside (sym (ap (λ (l : Lit). l.var) (o.2 z)) ∙ e)))

-- a conflict stands on a literal of the level, since propagation was complete before it
pub pending_from_closed : (clauses : List (List Lit)) (vars : ℕ) (entries : List Entry) → IsTrail vars entries → (start number : ℕ) → All (IsMet (lits_of (take start entries))) clauses → IsConflict clauses entries number → (seen : List Bool) → ((l : Lit) (q : ℕ) → Contains (clause_at clauses number) l → IsPlaceOf entries l.var q → IsSeen seen q) → 1 ≤ open_count start seen
pending_from_closed clauses vars entries t start number closed c seen marked =
    elim (All-get_or (IsMet (lits_of (take start entries))) clauses number [] c.known closed) [
      | inl m ↦ absurd (trail_consistent vars entries t m.0 (in_whole entries start m.0 m.2) (c.all_false m.0 m.1))
      | inr two ↦
          let l = two.0 in let h = two.2 in
          let z : Entry = record { lit = l; reason = None } in
          let p = place_of_lit entries (negated l) (c.all_false l h.first) in
          let late : start ≤ p.0 = elim (cases_lt p.0 start) [
            | inl lt ↦ absurd (h.first_avoided.negation (subst (Contains (lits_of (take start entries))) (p.2 z) (take_contains entries start p.0 z lt p.1)))
            | inr le ↦ le
          ] in
          let at : IsPlaceOf entries l.var p.0 = record { within = p.1; is = λ d. ap (λ (x : Lit). x.var) (p.2 d) } in
          some_count (drop start seen) (p.0 - start) (in_level start seen p.0 late (marked l p.0 h.first at))
    ]

module _ (cnf : Cnf) (steps : List Step) (vars : ℕ) (entries : List Entry) (t : IsTrail vars entries) (same_vars : vars ≡ cnf.vars) (start : ℕ) (closed : All (IsMet (lits_of (take start entries))) (clauses_of cnf.clauses steps)) (c : Conflict) (cut : ℕ) (is : IsReduced (clauses_of cnf.clauses steps) entries start cut 0 c) (z : Entry) (step : Step) (bound : ℕ) (learnt : IsLearnt entries start cut c.seen.items step.clause bound) (hints : step.hints.items ≡ reverse c.hints.items) where
  abbrev lit : Lit
  lit = negated (get_or entries cut z).lit

  abbrev clauses : List (List Lit)
  clauses = clauses_of cnf.clauses steps

  only_within : (m : Lit) (h : Contains step.clause m) → (learnt.only m h).0 < cut + 1
  only_within m h = elim (learnt.only m h).1 [ inl e ↦ omega (arith, e) | inr f ↦ omega (arith, f.0, is.level) ]

  var_in_range : (m : Lit) → Contains step.clause m → m.var < cnf.vars
  var_in_range m h =
      let o = learnt.only m h in
      let w = only_within m h in
      let r : (get_or entries o.0 z).lit.var < vars = t.in_range o.0 z (omega (arith, is.within)) in
      subst (λ v. v < cnf.vars) (sym (ap (λ (l : Lit). l.var) (o.2 z))) (subst (λ n. (get_or entries o.0 z).lit.var < n) same_vars r)

  implied : IsStep cnf steps step
  implied =
      record {
        in_range = λ k d lt. var_in_range (get_or step.clause k d) (Contains-get_or step.clause k d lt);
        implied =
            subst (λ hs. Refutes clauses (map negated step.clause) hs) (sym hints)
            (is.explains (map negated step.clause)
            (λ m h.
            let x = map_from negated step.clause lit m h in
            let o = learnt.only x.0 x.1 in
            let w = only_within x.0 x.1 in
            let there : IsSeen c.seen.items o.0 = elim o.1 [ inl e ↦ subst (IsSeen c.seen.items) (sym e) is.seen | inr f ↦ f.1 ] in
            (o.0, omega (arith, w, is.within), inr there, λ d. sym (negated-negated (get_or entries o.0 d).lit) ∙ (ap negated (sym (o.2 d)) ∙ x.2)))
            (λ q d s.
            let among : Contains step.clause (negated (get_or entries q d).lit) = elim (cases_lt q start) [
              | inl early ↦ learnt.rest q d early s
              | inr late ↦ subst (λ r. Contains step.clause (negated (get_or entries r d).lit)) (sym (is.alone q s late)) (learnt.head d)
            ] in
            subst (Contains (map negated step.clause)) (negated-negated (get_or entries q d).lit) (contains_map negated step.clause (negated (get_or entries q d).lit) among)));
      }

  early_other : (m : Lit) → Contains step.clause m → m ≢ lit → (q : ℕ) × (q < start) × IsSeen c.seen.items q × ((get_or entries q z).lit ≡ negated m)
  early_other m h ne =
      let o = learnt.only m h in
      let back : (get_or entries o.0 z).lit ≡ negated m = sym (negated-negated (get_or entries o.0 z).lit) ∙ ap negated (sym (o.2 z)) in
      elim o.1 [
        | inl e ↦ absurd (ne (o.2 z ∙ ap (λ r. negated (get_or entries r z).lit) e))
        | inr f ↦ (o.0, f.0, f.1, back)
      ]

  fresh : IsNewAt clauses step.clause lit (lits_of (take start entries))
  fresh =
      record {
        among = learnt.head z;
        closed = record { consistent = λ l h n. trail_consistent vars entries t l (in_whole entries start l h) (in_whole entries start (negated l) n); each = closed };
        others = λ m h ne.
            let o = early_other m h ne in
            subst (Contains (lits_of (take start entries))) o.3 (take_contains entries start o.0 z o.1 (omega (arith, o.1, is.level, is.within)));
        avoided = front_avoids vars entries t start cut z is.level is.within lit refl;
      }

  bounded : bound ≤ start
  bounded = elim learnt.last [ inl e ↦ omega (arith, e) | inr b ↦ omega (arith, b.1, b.2) ]

  pub lesson : IsLesson cnf steps entries start (record { step = step; lit = lit; bound = bound })
  lesson =
      record {
        honest = record { implied = implied; not_empty = λ e. let n = subst (λ k. Contains k lit) e (learnt.head z) in absurd (omega (arith, n.1)); new = (lit, lits_of (take start entries), fresh) };
        in_range = var_in_range lit (learnt.head z);
        among = learnt.head z;
        avoided = front_avoids vars entries t start cut z is.level is.within lit refl;
        early = bounded;
        others = λ m h ne.
            let o = early_other m h ne in
            subst (Contains (lits_of (take bound entries))) o.3 (take_contains entries bound o.0 z (learnt.below o.0 o.1 o.2) (omega (arith, o.1, is.level, is.within)));
        last = elim learnt.last [
          | inl e ↦ inl e
          | inr b ↦
              let inside : b.0 < length entries = omega (arith, b.2, is.level, is.within) in
              let m = negated (get_or entries b.0 z).lit in
              inr (m, learnt.rest b.0 z b.2 b.3, (λ e. let same : b.0 ≡ cut = same_place vars entries t b.0 cut z inside is.within e in omega (arith, b.2, is.level)), front_avoids vars entries t (bound - 1) b.0 z (omega (arith, b.1)) inside m refl)
        ];
      }
