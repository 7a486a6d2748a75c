use Rattle.std.proofs.Common.{◌⊎◌, ◌≤◌, ◌≡◌, ◌≢◌, ◌<◌, ◌+◌, ℕ, Bool, true, false, List, [], ◌∷◌, take, set, None, get_or, arith, sym, ◌∙◌, ap, subst, refl, length, inl, inr, Contains, length-take}
use Rattle.std.proofs.lemmas.Bool.{cases_eq, cases_order}
use Rattle.std.proofs.lemmas.List.{get_or-set_same, get_or-set_other, get_or_default, get_or-take}
use Rattle.clause_check.specs.declared.literal.Lit.{Lit}
use Rattle.clause_check.specs.Clauses.{negated}
use Rattle.clause_check.specs.Derivations.{AllFalse, Forces, clause_at}
use Rattle.clause_check.proofs.Members.{contains_cons_cases, contains_here, contains_there}
use Rattle.clause_check.proofs.RefuteLemmas.{cases_lit, refutes_unit}
use Rattle.cdcl.specs.declared.trail.Entry.{Entry}
use Rattle.cdcl.specs.Trails.{lits_of, IsTrail, IsPlaceOf, IsAssigned}
use Rattle.cdcl.specs.Marking.{IsForcedBy, IsSeen, Marks, Explains, ExplainsFrom, IsAllowed}
use Rattle.cdcl.proofs.TrailLemmas.{contains_at, place_of_lit}

-- the place of a literal of a trail's front
pub place_in_take : (entries : List Entry) (n : ℕ) (m : Lit) → Contains (lits_of (take n entries)) m → (q : ℕ) × (q < n) × (q < length entries) × ((d : Entry) → (get_or entries q d).lit ≡ m)
place_in_take entries n m h =
    let p = place_of_lit (take n entries) m h in
    let lt : p.0 < n = omega (arith, p.1, length-take n entries) in
    (p.0, lt, omega (arith, p.1, length-take n entries), λ d. ap (λ (x : Entry). x.lit) (sym (get_or-take n entries p.0 d lt)) ∙ p.2 d)

pub take_contains : (entries : List Entry) (n q : ℕ) (d : Entry) → q < n → q < length entries → Contains (lits_of (take n entries)) (get_or entries q d).lit
take_contains entries n q d lt within =
    subst (λ (x : Entry). Contains (lits_of (take n entries)) x.lit) (get_or-take n entries q d lt) (contains_at (take n entries) q d (omega (arith, length-take n entries)))

-- places of one variable are one
pub same_place : (vars : ℕ) (entries : List Entry) → IsTrail vars entries → (p q : ℕ) (d : Entry) → p < length entries → q < length entries → (get_or entries p d).lit.var ≡ (get_or entries q d).lit.var → p ≡ q
same_place vars entries t p q d lp lq e = elim (cases_order p q) [
  | inl i ↦ i
  | inr o ↦ elim o [ inl lt ↦ absurd (t.distinct p q d lt lq e) | inr gt ↦ absurd (t.distinct q p d gt lp (sym e)) ]
]

pub assigned_from_false : (entries : List Entry) (m : Lit) → Contains (lits_of entries) (negated m) → IsAssigned entries m.var
assigned_from_false entries m h =
    let p = place_of_lit entries (negated m) h in
    (p.0, record { within = p.1; is = λ d. ap (λ (l : Lit). l.var) (p.2 d) })

pub assigned_from_forced : (clauses : List (List Lit)) (entries : List Entry) (p : ℕ) → p < length entries → (z : Entry) (reason : ℕ) → IsForcedBy clauses (take p entries) (get_or entries p z).lit reason → (m : Lit) → Contains (clause_at clauses reason) m → IsAssigned entries m.var
assigned_from_forced clauses entries p within z reason forced m h = elim (cases_lit m (get_or entries p z).lit) [
  | inl e ↦ (p, record { within = within; is = λ d. ap (λ (x : Entry). x.lit.var) (get_or_default entries p d z within) ∙ sym (ap (λ (l : Lit). l.var) e) })
  | inr ne ↦
      let o = place_in_take entries p (negated m) (forced.others m h ne) in
      (o.0, record { within = o.2; is = λ d. ap (λ (l : Lit). l.var) (o.3 d) })
]

-- each literal of the conflict's clause is false
module _ (clauses : List (List Lit)) (entries : List Entry) (number : ℕ) (known : number < length clauses) (conflict : AllFalse (lits_of entries) (clause_at clauses number)) (old seen : List Bool) (marks : Marks entries (clause_at clauses number) old seen) where
  pub explains_start : Explains clauses entries (length entries) seen (number ∷ [])
  explains_start k sub sup = (
    known,
    λ m h.
        let p = place_of_lit entries (negated m) (conflict m h) in
        let z : Entry = record { lit = m; reason = None } in
        let at : IsPlaceOf entries m.var p.0 = record { within = p.1; is = λ d. ap (λ (l : Lit). l.var) (p.2 d) } in
        subst (Contains k) (p.2 z) (sup p.0 z p.1 (marks.marked m p.0 h at)),
  )

module _ (clauses : List (List Lit)) (entries : List Entry) (vars : ℕ) (t : IsTrail vars entries) (p : ℕ) (within : p < length entries) (z : Entry) (seen marked : List Bool) (len : length marked ≡ length entries) (reason : ℕ) (forced : IsForcedBy clauses (take p entries) (get_or entries p z).lit reason) (marks : Marks entries (clause_at clauses reason) seen marked) where
  abbrev lit : Lit
  lit = (get_or entries p z).lit

  abbrev after : List Bool
  after = set marked p false

  other_of : (m : Lit) → Contains (clause_at clauses reason) m → m ≢ lit → (q : ℕ) × (q < p) × (q < length entries) × ((d : Entry) → (get_or entries q d).lit ≡ negated m)
  other_of m h ne = place_in_take entries p (negated m) (forced.others m h ne)

  not_at : (q : ℕ) → q ≢ p → IsSeen after q → IsSeen marked q
  not_at q ne s = sym (get_or-set_other marked p q false false ne) ∙ s

  seen_still : (q : ℕ) → q ≢ p → IsSeen marked q → IsSeen after q
  seen_still q ne s = get_or-set_other marked p q false false ne ∙ s

  pub below_after : ((q : ℕ) → IsSeen seen q → q < p + 1) → (q : ℕ) → IsSeen after q → q < p
  below_after below q s = elim (cases_eq q p) [
    | inl e ↦
        let gone : false ≡ true = sym (get_or-set_same marked p false false (omega arith)) ∙ (ap (λ r. get_or after r false) (sym e) ∙ s) in
        cc
    | inr ne ↦ elim (marks.only q (not_at q ne s)) [
      | inl old ↦ let b = below q old in omega arith
      | inr m ↦
          let at = m.2 in
          elim (cases_lit m.0 lit) [
            | inl e ↦ absurd (ne (same_place vars entries t q p z at.within within (at.is z ∙ ap (λ (l : Lit). l.var) e)))
            | inr other ↦
                let o = other_of m.0 m.1 other in
                let same : q ≡ o.0 = same_place vars entries t q o.0 z at.within o.2 (at.is z ∙ sym (ap (λ (l : Lit). l.var) (o.3 z))) in
                omega (arith, o.1)
          ]
    ]
  ]

  no_place : (m : Lit) → m.var ≡ lit.var → Contains (lits_of (take p entries)) m → ⊥
  no_place m e h =
      let o = place_in_take entries p m h in
      let same : o.0 ≡ p = same_place vars entries t o.0 p z o.2 within (ap (λ (l : Lit). l.var) (o.3 z) ∙ e) in
      omega (arith, o.1)

  module _ (hints : List ℕ) (k : List Lit) (sub : (m : Lit) → Contains k m → Contains (lits_of (take p entries)) m) (sup : (q : ℕ) (d : Entry) → q < p → IsSeen after q → Contains k (get_or entries q d).lit) where
    forces : Forces k (clause_at clauses reason) lit
    forces =
        record {
          among = forced.among;
          not_true = λ h. no_place lit refl (sub lit h);
          not_false = λ h. no_place (negated lit) refl (sub (negated lit) h);
          others = λ m h ne.
              let o = other_of m h ne in
              let apart : o.0 ≢ p = omega (arith, o.1) in
              let at : IsPlaceOf entries m.var o.0 = record { within = o.2; is = λ d. ap (λ (l : Lit). l.var) (o.3 d) } in
              subst (Contains k) (o.3 z) (sup o.0 z o.1 (seen_still o.0 apart (marks.marked m o.0 h at)));
        }

    sub_more : (m : Lit) → Contains (lit ∷ k) m → Contains (lits_of (take (p + 1) entries)) m
    sub_more m h = elim (contains_cons_cases lit k m h) [
      | inl c ↦
          let o = place_in_take entries p m (sub m c) in
          subst (Contains (lits_of (take (p + 1) entries))) (o.3 z) (take_contains entries (p + 1) o.0 z (omega (arith, o.1)) o.2)
      | inr e ↦ subst (Contains (lits_of (take (p + 1) entries))) e (take_contains entries (p + 1) p z (omega arith) within)
    ]

    sup_more : (q : ℕ) (d : Entry) → q < p + 1 → IsSeen seen q → Contains (lit ∷ k) (get_or entries q d).lit
    sup_more q d lt s = elim (cases_eq q p) [
      | inl e ↦ subst (λ (x : Entry). Contains (lit ∷ k) x.lit) (get_or_default entries p z d within ∙ ap (λ r. get_or entries r d) (sym e)) (contains_here lit k)
      | inr ne ↦ contains_there lit k (get_or entries q d).lit (sup q d (omega arith) (seen_still q ne (marks.kept q s)))
    ]

  pub explains_after : (hints : List ℕ) → Explains clauses entries (p + 1) seen hints → Explains clauses entries p after (reason ∷ hints)
  explains_after hints e k sub sup =
      (refutes_unit clauses k reason hints lit forced.known (forces hints k sub sup)).1 (e (lit ∷ k) (sub_more hints k sub sup) (sup_more hints k sub sup))

  -- a marked place is one that was seen, or is not past p
  marked_cases : (q : ℕ) → IsSeen marked q → IsSeen seen q ⊎ (q ≤ p)
  marked_cases q s = elim (marks.only q s) [
    | inl old ↦ inl old
    | inr m ↦
        let at = m.2 in
        elim (cases_lit m.0 lit) [
          | inl e ↦ let same : q ≡ p = same_place vars entries t q p z at.within within (at.is z ∙ ap (λ (l : Lit). l.var) e) in inr (omega arith)
          | inr other ↦
              let o = other_of m.0 m.1 other in
              let same : q ≡ o.0 = same_place vars entries t q o.0 z at.within o.2 (at.is z ∙ sym (ap (λ (l : Lit). l.var) (o.3 z))) in
              inr (omega (arith, o.1))
        ]
  ]

  gone : IsSeen after p → ⊥
  gone s = let bad : false ≡ true = sym (get_or-set_same marked p false false (omega arith)) ∙ s in cc

  module _ (k : List Lit) (sub : (m : Lit) → Contains k m → IsAllowed entries p after m) (sup : (q : ℕ) (d : Entry) → IsSeen after q → Contains k (get_or entries q d).lit) where
    no_literal : (m : Lit) → m.var ≡ lit.var → Contains k m → ⊥
    no_literal m e h =
        let o = sub m h in
        let same : o.0 ≡ p = same_place vars entries t o.0 p z o.1 within (ap (λ (l : Lit). l.var) (o.3 z) ∙ e) in
        elim o.2 [ inl lt ↦ omega arith | inr s ↦ gone (subst (IsSeen after) same s) ]

    forces_below : Forces k (clause_at clauses reason) lit
    forces_below =
        record {
          among = forced.among;
          not_true = λ h. no_literal lit refl h;
          not_false = λ h. no_literal (negated lit) refl h;
          others = λ m h ne.
              let o = other_of m h ne in
              let apart : o.0 ≢ p = omega (arith, o.1) in
              let at : IsPlaceOf entries m.var o.0 = record { within = o.2; is = λ d. ap (λ (l : Lit). l.var) (o.3 d) } in
              subst (Contains k) (o.3 z) (sup o.0 z (seen_still o.0 apart (marks.marked m o.0 h at)));
        }

    allowed_more : (m : Lit) → Contains (lit ∷ k) m → IsAllowed entries (p + 1) seen m
    allowed_more m h = elim (contains_cons_cases lit k m h) [
      | inl c ↦
          let o = sub m c in
          let found : (o.0 < p + 1) ⊎ IsSeen seen o.0 = elim o.2 [
            | inl lt ↦ inl (omega arith)
            | inr s ↦ elim (marked_cases o.0 (not_at o.0 (λ e. gone (subst (IsSeen after) e s)) s)) [ inl old ↦ inr old | inr le ↦ inl (omega arith) ]
          ] in
          (o.0, o.1, found, o.3)
      | inr e ↦ (p, within, inl (omega arith), λ d. ap (λ (x : Entry). x.lit) (get_or_default entries p d z within) ∙ e)
    ]

    sup_below : (q : ℕ) (d : Entry) → IsSeen seen q → Contains (lit ∷ k) (get_or entries q d).lit
    sup_below q d s = elim (cases_eq q p) [
      | inl e ↦ subst (λ (x : Entry). Contains (lit ∷ k) x.lit) (get_or_default entries p z d within ∙ ap (λ r. get_or entries r d) (sym e)) (contains_here lit k)
      | inr ne ↦ contains_there lit k (get_or entries q d).lit (sup q d (seen_still q ne (marks.kept q s)))
    ]

  pub explains_below : (hints : List ℕ) → ExplainsFrom clauses entries (p + 1) seen hints → ExplainsFrom clauses entries p after (reason ∷ hints)
  explains_below hints e k sub sup =
      (refutes_unit clauses k reason hints lit forced.known (forces_below k sub sup)).1 (e (lit ∷ k) (allowed_more k sub sup) (sup_below k sub sup))

  pub cut_below : (start cut : ℕ) → p < start → start ≤ cut → IsSeen seen cut → IsSeen after cut
  cut_below start cut lt le s = seen_still cut (omega arith) (marks.kept cut s)

  pub alone_below : (start cut : ℕ) → p < start → ((q : ℕ) → IsSeen seen q → start ≤ q → q ≡ cut) → (q : ℕ) → IsSeen after q → start ≤ q → q ≡ cut
  alone_below start cut lt alone q s le = elim (marked_cases q (not_at q (omega arith) s)) [ inl old ↦ alone q old le | inr late ↦ absurd (omega arith) ]
