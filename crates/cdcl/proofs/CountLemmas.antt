use Rattle.std.proofs.Common.{◌≡◌, ◌≢◌, ◌<◌, ◌≤◌, ◌+◌, ◌*◌, ◌^◌, ℕ, zero, suc, Bool, true, false, List, [], ◌∷◌, map, take, length, get_or, arith, sym, ◌∙◌, ap, subst, refl, eqb, inl, inr, ◌⊎◌, Contains, length-take}
use Rattle.std.specs.List.{list_any}
use Rattle.std.proofs.Math.Nat.{pow-succ'}
use Rattle.std.proofs.lemmas.Bool.{cases_eq, ne_eqb}
use Rattle.std.proofs.lemmas.List.{get_or-map, get_or-take, length-map}
use Rattle.std.proofs.lemmas.List.Elements.{All-contains, Contains-append_right, Contains-get_or}
use Rattle.std.proofs.lemmas.Map.Keys.{IsDistinct-from_apart}
use Rattle.std.proofs.lemmas.Map.Steps.{length-le_from_distinct_below}
use Rattle.std.proofs.lemmas.Map.Views.{Contains-from_any}
use Rattle.clause_check.specs.declared.literal.Lit.{Lit}
use Rattle.clause_check.specs.declared.formula.Step.{Step}
use Rattle.clause_check.specs.declared.formula.Cnf.{Cnf}
use Rattle.clause_check.specs.Clauses.{negated}
use Rattle.clause_check.specs.Derivations.{clauses_of}
use Rattle.clause_check.proofs.Members.{contains_cons_cases, contains_here, contains_map, contains_there, negated-negated, map_from}
use Rattle.clause_check.proofs.RefuteLemmas.{cases_lit, not_itself}
use Rattle.cdcl.specs.Closed.{IsHonest, IsMet, IsNew}

-- whether a clause has a literal
member : (c : List Lit) (l : Lit) → Contains c l ⊎ (Contains c l → ⊥)
member [] l = inr (λ h. omega (arith, h.1))
member (m ∷ c) l = elim (cases_lit m l) [
  | inl e ↦ inl (subst (Contains (m ∷ c)) e (contains_here m c))
  | inr ne ↦ elim (member c l) [
    | inl h ↦ inl (contains_there m c l h)
    | inr none ↦ inr (λ h. elim (contains_cons_cases m c l h) [ inl t ↦ none t | inr e ↦ ne e ])
  ]
]

weigh : {A B : Type 0} → A ⊎ B → ℕ → ℕ → ℕ
weigh (inl a) x y = x
weigh (inr b) x y = y

weigh_in : {A : Type 0} (s : A ⊎ (A → ⊥)) (x y : ℕ) → A → weigh s x y ≡ x
unfolding weigh
weigh_in (inl a) x y h = refl
weigh_in (inr n) x y h = absurd (n h)

weigh_out : {A : Type 0} (s : A ⊎ (A → ⊥)) (x y : ℕ) → (A → ⊥) → weigh s x y ≡ y
unfolding weigh
weigh_out (inl a) x y n = absurd (n a)
weigh_out (inr n') x y n = refl

abbrev plain : ℕ → Lit
plain v = record { var = v; negative = false }

abbrev denied : ℕ → Lit
denied v = record { var = v; negative = true }

-- which sign a variable has in a clause: none, plain or negated
abbrev digit : List Lit → ℕ → ℕ
digit c v = weigh (member c (plain v)) 1 (weigh (member c (denied v)) 2 0)

digit_plain : (c : List Lit) (v : ℕ) → Contains c (plain v) → digit c v ≡ 1
digit_plain c v h = weigh_in (member c (plain v)) 1 _ h

digit_denied : (c : List Lit) (v : ℕ) → (Contains c (plain v) → ⊥) → Contains c (denied v) → digit c v ≡ 2
digit_denied c v n h = weigh_out (member c (plain v)) 1 _ n ∙ weigh_in (member c (denied v)) 2 0 h

digit_none : (c : List Lit) (v : ℕ) → (Contains c (plain v) → ⊥) → (Contains c (denied v) → ⊥) → digit c v ≡ 0
digit_none c v n m = weigh_out (member c (plain v)) 1 _ n ∙ weigh_out (member c (denied v)) 2 0 m

digit_small : (c : List Lit) (v : ℕ) → digit c v < 3
digit_small c v = elim (member c (plain v)) [
  | inl h ↦ omega (arith, digit_plain c v h)
  | inr n ↦ elim (member c (denied v)) [ inl h ↦ omega (arith, digit_denied c v n h) | inr m ↦ omega (arith, digit_none c v n m) ]
]

plain_back : (c : List Lit) (v : ℕ) → digit c v ≡ 1 → Contains c (plain v)
plain_back c v e = elim (member c (plain v)) [
  | inl h ↦ h
  | inr n ↦ elim (member c (denied v)) [ inl h ↦ absurd (omega (arith, e, digit_denied c v n h)) | inr m ↦ absurd (omega (arith, e, digit_none c v n m)) ]
]

denied_back : (c : List Lit) (v : ℕ) → digit c v ≡ 2 → Contains c (denied v)
denied_back c v e = elim (member c (plain v)) [
  | inl h ↦ absurd (omega (arith, e, digit_plain c v h))
  | inr n ↦ elim (member c (denied v)) [ inl h ↦ h | inr m ↦ absurd (omega (arith, e, digit_none c v n m)) ]
]

-- a number of its own for each set of signs
code : ℕ → List Lit → ℕ
code zero c = 0
code (suc n) c = 3 * code n c + digit c n

code_small : (n : ℕ) (c : List Lit) → code n c < 3 ^ n
unfolding code
code_small zero c = omega arith
code_small (suc n) c = omega (arith, code_small n c, digit_small c n, pow-succ' 3 n)

code_same : (n : ℕ) (c d : List Lit) → code n c ≡ code n d → (v : ℕ) → v < n → digit c v ≡ digit d v
unfolding code
code_same zero c d e v lt = absurd (omega arith)
code_same (suc n) c d e v lt =
    let x = digit_small c n in
    let y = digit_small d n in
    elim (cases_eq v n) [
      | inl i ↦ subst (λ k. digit c k ≡ digit d k) (sym i) (omega (arith, e, x, y))
      | inr ne ↦ code_same n c d (omega (arith, e, x, y)) v (omega arith)
    ]

literal_back : (c d : List Lit) (v : ℕ) (b : Bool) → digit c v ≡ digit d v → (Contains c (plain v) → Contains c (denied v) → ⊥) → Contains c (record { var = v; negative = b }) → Contains d (record { var = v; negative = b })
literal_back c d v false e n h = plain_back d v (sym e ∙ digit_plain c v h)
literal_back c d v true e n h = denied_back d v (sym e ∙ digit_denied c v (λ p. n p h) h)

-- a new clause has no literal and its negation
not_both : (clauses : List (List Lit)) (d : List Lit) → IsNew clauses d → (m : Lit) → Contains d m → Contains d (negated m) → ⊥
not_both clauses d new m h n =
    let l = new.0 in let set = new.1 in let at = new.2 in
    elim (cases_lit m l) [
      | inl e ↦
          let other : negated m ≢ l = λ same. not_itself m.negative (ap (λ (x : Lit). x.negative) (e ∙ sym same)) in
          at.avoided.itself (subst (Contains set) (negated-negated m ∙ e) (at.others (negated m) n other))
      | inr ne ↦ elim (cases_lit (negated m) l) [
        | inl e ↦ at.avoided.itself (subst (Contains set) e (at.others m h ne))
        | inr other ↦ at.closed.consistent (negated m) (at.others m h ne) (at.others (negated m) n other)
      ]
    ]

-- a clause that has each literal of one of the clauses isn't new
pub no_superset : (clauses : List (List Lit)) (c d : List Lit) → Contains clauses c → ((m : Lit) → Contains c m → Contains d m) → IsNew clauses d → ⊥
no_superset clauses c d among part new =
    let l = new.0 in let set = new.1 in let at = new.2 in
    elim (All-contains (IsMet set) clauses c at.closed.each among) [
      | inl m ↦ elim (cases_lit m.0 l) [
        | inl e ↦ at.avoided.itself (subst (Contains set) e m.2)
        | inr ne ↦ at.closed.consistent m.0 m.2 (at.others m.0 (part m.0 m.1) ne)
      ]
      | inr two ↦
          let h = two.2 in
          elim (cases_lit two.0 l) [
            | inl e ↦
                let ne : two.1 ≢ l = λ same. h.apart (ap (λ (x : Lit). x.var) (e ∙ sym same)) in
                h.second_avoided.negation (at.others two.1 (part two.1 h.second) ne)
            | inr ne ↦ h.first_avoided.negation (at.others two.0 (part two.0 h.first) ne)
          ]
    ]

module _ (cnf : Cnf) (steps : List Step) (honest : IsHonest cnf steps) where
  abbrev n : ℕ
  n = cnf.vars

  abbrev clause : ℕ → Step → List Lit
  clause k z = (get_or steps k z).clause

  abbrev before : ℕ → List (List Lit)
  before k = clauses_of cnf.clauses (take k steps)

  in_range : (k : ℕ) (z : Step) → k < length steps → (m : Lit) → Contains (clause k z) m → m.var < n
  in_range k z lt m h = All-contains (λ (l : Lit). l.var < n) (clause k z) m (honest k z lt).implied.in_range h

  part : (c : List Lit) (k : ℕ) (z : Step) → code n c ≡ code n (clause k z) → ((m : Lit) → Contains c m → m.var < n) → ((m : Lit) → Contains c m → Contains c (negated m) → ⊥) → (m : Lit) → Contains c m → Contains (clause k z) m
  part c k z e range apart m h =
      literal_back c (clause k z) m.var m.negative (code_same n c (clause k z) e m.var (range m h)) (λ p q. apart (plain m.var) p q) h

  -- two steps have different codes
  steps_apart : (i j : ℕ) (z : Step) → i < j → j < length steps → code n (clause i z) ≢ code n (clause j z)
  steps_apart i j z lt inside e =
      let early : i < length steps = omega arith in
      let there : Contains (take j steps) (get_or steps i z) = subst (Contains (take j steps)) (get_or-take j steps i z lt) (Contains-get_or (take j steps) i z (omega (arith, length-take j steps))) in
      let among : Contains (before j) (clause i z) = Contains-append_right cnf.clauses (map (λ (s : Step). s.clause) (take j steps)) (clause i z) (contains_map (λ (s : Step). s.clause) (take j steps) (get_or steps i z) there) in
      no_superset (before j) (clause i z) (clause j z) among
      (part (clause i z) j z e (in_range i z early) (not_both (before i) (clause i z) (honest i z early).new))
      (honest j z inside).new

  -- none has that of the empty clause
  not_none : (k : ℕ) (z : Step) → k < length steps → code n [] ≢ code n (clause k z)
  not_none k z lt e =
      let new = (honest k z lt).new in
      let h = (new.2).among in
      let back = literal_back (clause k z) [] (new.0).var (new.0).negative (code_same n (clause k z) [] (sym e) (new.0).var (in_range k z lt new.0 h)) (λ p q. not_both (before k) (clause k z) new (plain (new.0).var) p q) h in
      omega (arith, back.1)

  abbrev codes : List ℕ
  codes = map (λ (s : Step). code n s.clause) steps

  code_at : (i : ℕ) (d : ℕ) (z : Step) → i < length steps → get_or codes i d ≡ code n (clause i z)
  code_at i d z lt = get_or-map (λ (s : Step). code n s.clause) steps i z d lt

  codes_apart : (z : Step) (i j : ℕ) (d : ℕ) → i < j → j < length (code n [] ∷ codes) → eqb (get_or (code n [] ∷ codes) i d) (get_or (code n [] ∷ codes) j d) ≡ false
  codes_apart z i zero d lt inside = absurd (omega arith)
  codes_apart z zero (suc j) d lt inside =
      let within : j < length steps = omega (arith, length-map steps (λ (s : Step). code n s.clause)) in
      ne_eqb (code n []) (get_or codes j d) (λ e. not_none j z within (e ∙ code_at j d z within))
  codes_apart z (suc i) (suc j) d lt inside =
      let within : j < length steps = omega (arith, length-map steps (λ (s : Step). code n s.clause)) in
      ne_eqb (get_or codes i d) (get_or codes j d) (λ e. steps_apart i j z (omega arith) within (sym (code_at i d z (omega arith)) ∙ (e ∙ code_at j d z within)))

  codes_small : (z : Step) (q : ℕ) → list_any (eqb q) (code n [] ∷ codes) ≡ true → q < 3 ^ n
  codes_small z q h =
      let same : (x y : ℕ) → eqb x y ≡ true → x ≡ y = λ x y t. elim (cases_eq x y) [ inl e ↦ e | inr ne ↦ let bad : false ≡ true = sym (ne_eqb x y ne) ∙ t in cc ] in
      elim (contains_cons_cases (code n []) codes q (Contains-from_any same q (code n [] ∷ codes) h)) [
        | inl c ↦ let s = map_from (λ (s : Step). code n s.clause) steps z q c in subst (λ k. k < 3 ^ n) s.2 (code_small n (s.0).clause)
        | inr e ↦ subst (λ k. k < 3 ^ n) e (code_small n [])
      ]

-- an honest chain has fewer steps than there are sets of signs
pub few_steps : (cnf : Cnf) (steps : List Step) → IsHonest cnf steps → length steps < 3 ^ cnf.vars
few_steps cnf [] honest = omega (arith, code_small cnf.vars [])
few_steps cnf (s ∷ ss) honest =
    let xs = code cnf.vars [] ∷ codes cnf (s ∷ ss) honest in
    let le : length xs ≤ 3 ^ cnf.vars = length-le_from_distinct_below xs (3 ^ cnf.vars) (IsDistinct-from_apart eqb xs (codes_apart cnf (s ∷ ss) honest s)) (codes_small cnf (s ∷ ss) honest s) in
    omega (arith, le, length-map (s ∷ ss) (λ (x : Step). code cnf.vars x.clause))
