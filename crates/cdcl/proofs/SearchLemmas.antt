use Rattle.std.specs.Prelude.{OnOk}
use Rattle.std.proofs.Common.{Result, Ok, Err, ◌≡◌, ◌<◌, ◌-◌, ◌≤◌, ℕ, zero, suc, List, [], ◌∷◌, ◌++◌, map, take, Some, None, get_or, arith, sym, ◌∙◌, ap, subst, refl, length, Contains, inl, inr, All, append_assoc, length-take}
use Rattle.std.specs.Option.{IfSome}
use Rattle.std.proofs.lemmas.Bool.{cases_lt, cases_eq}
use Rattle.std.proofs.lemmas.Option.{IfSome_then}
use Rattle.std.proofs.lemmas.List.{get_or_default, get_or_push, get_or_append_left, get_or-take, take_at, take-append-le, take-take, take_all, length_push, map_push}
use Rattle.std.proofs.lemmas.List.Elements.{Contains-push, Contains-append_left, All-push}
use Rattle.clause_check.specs.declared.literal.Lit.{Lit}
use Rattle.clause_check.specs.declared.formula.Step.{Step}
use Rattle.clause_check.specs.declared.formula.Cnf.{Cnf}
use Rattle.clause_check.specs.Clauses.{negated}
use Rattle.clause_check.specs.Derivations.{Refutes, clause_at, clauses_of}
use Rattle.cdcl.specs.declared.trail.Entry.{Entry}
use Rattle.cdcl.specs.declared.learn.Learnt.{Learnt}
use Rattle.cdcl.specs.Closed.{Avoids, IsMet, IsHonest, IsHonestStep}
use Rattle.cdcl.specs.Trails.{lits_of, IsTrail}
use Rattle.cdcl.specs.Marking.{IsForcedBy, HasReasons, IsRising, Splits}
use Rattle.cdcl.specs.Search.{IsSearch, IsLesson, LastLevel}
use Rattle.cdcl.proofs.LearnLemmas.{in_longer}

-- why an entry's literal is true
abbrev pub Forced : List (List Lit) → List Entry → Entry → Type 0
Forced clauses before e = IfSome e.reason (λ r. IsForcedBy clauses before e.lit r)

pub reasons_push : (clauses : List (List Lit)) (entries : List Entry) (e : Entry) → HasReasons clauses entries → Forced clauses entries e → HasReasons clauses (entries ++ e ∷ [])
reasons_push clauses entries e h f p d lt = elim (cases_eq p (length entries)) [
  | inl i ↦
      subst (λ b. Forced clauses b (get_or (entries ++ e ∷ []) p d)) (sym (take_at entries (e ∷ []) p (sym i)))
      (subst (Forced clauses entries) (sym (get_or_push entries e d p (sym i))) f)
  | inr ne ↦
      let below : p < length entries = omega (arith, length_push entries e) in
      subst (λ b. Forced clauses b (get_or (entries ++ e ∷ []) p d)) (sym (take-append-le p entries (e ∷ []) (omega arith)))
      (subst (Forced clauses (take p entries)) (sym (get_or_append_left entries (e ∷ []) d p below)) (h p d below))
]

reasons_take : (clauses : List (List Lit)) (entries : List Entry) (t : ℕ) → HasReasons clauses entries → HasReasons clauses (take t entries)
reasons_take clauses entries t h p d lt =
    let below : p < t = omega (arith, length-take t entries) in
    subst (λ b. Forced clauses b (get_or (take t entries) p d)) (sym (take-take p t entries (omega arith)))
    (subst (Forced clauses (take p entries)) (sym (get_or-take t entries p d below)) (h p d (omega (arith, length-take t entries))))

forced_still : (clauses : List (List Lit)) (c : List Lit) (before : List Entry) (l : Lit) (r : ℕ) → IsForcedBy clauses before l r → IsForcedBy (clauses ++ c ∷ []) before l r
forced_still clauses c before l r f =
    let at : clause_at (clauses ++ c ∷ []) r ≡ clause_at clauses r = get_or_append_left clauses (c ∷ []) [] r f.known in
    record {
      known = let k = f.known in omega (arith, length_push clauses c);
      among = subst (λ k. Contains k l) (sym at) f.among;
      others = λ m h ne. f.others m (subst (λ k. Contains k m) at h) ne;
    }

reasons_still : (clauses : List (List Lit)) (c : List Lit) (entries : List Entry) → HasReasons clauses entries → HasReasons (clauses ++ c ∷ []) entries
reasons_still clauses c entries h p d lt = IfSome_then (get_or entries p d).reason (h p d lt) (λ r f. forced_still clauses c (take p entries) (get_or entries p d).lit r f)

pub clauses_push : (inputs : List (List Lit)) (steps : List Step) (s : Step) → clauses_of inputs (steps ++ s ∷ []) ≡ clauses_of inputs steps ++ s.clause ∷ []
clauses_push inputs steps s = ap (λ cs. inputs ++ cs) (map_push (λ (x : Step). x.clause) steps s) ∙ sym (append_assoc inputs (map (λ (x : Step). x.clause) steps) (s.clause ∷ []))

pub honest_push : (cnf : Cnf) (steps : List Step) (s : Step) → IsHonest cnf steps → IsHonestStep cnf steps s → IsHonest cnf (steps ++ s ∷ [])
honest_push cnf steps s h one i d lt = elim (cases_eq i (length steps)) [
  | inl e ↦
      subst (λ b. IsHonestStep cnf b (get_or (steps ++ s ∷ []) i d)) (sym (take_at steps (s ∷ []) i (sym e)))
      (subst (IsHonestStep cnf steps) (sym (get_or_push steps s d i (sym e))) one)
  | inr ne ↦
      let below : i < length steps = omega (arith, length_push steps s) in
      subst (λ b. IsHonestStep cnf b (get_or (steps ++ s ∷ []) i d)) (sym (take-append-le i steps (s ∷ []) (omega arith)))
      (subst (IsHonestStep cnf (take i steps)) (sym (get_or_append_left steps (s ∷ []) d i below)) (h i d below))
]

-- one more literal is true
pub search_push : (cnf : Cnf) (vars : ℕ) (entries : List Entry) (starts starts' : List ℕ) (steps : List Step) (e : Entry) → IsSearch cnf vars entries starts steps → Forced (clauses_of cnf.clauses steps) entries e → (e.reason ≡ None → Contains starts' (length entries)) → ((x : ℕ) → Contains starts x → Contains starts' x) → IsRising starts' → ((i : ℕ) → i < length starts' → (get_or starts' i 0 ≤ length entries) × All (IsMet (lits_of (take (get_or starts' i 0) entries))) (clauses_of cnf.clauses steps)) → IsTrail vars (entries ++ e ∷ []) → IsSearch cnf vars (entries ++ e ∷ []) starts' steps
search_push cnf vars entries starts starts' steps e s forced chosen more rising levels trail =
    record {
      vars_are = s.vars_are;
      trail = trail;
      honest = s.honest;
      reasons = reasons_push (clauses_of cnf.clauses steps) entries e s.reasons forced;
      chosen = λ p d lt none. elim (cases_eq p (length entries)) [
        | inl i ↦ subst (Contains starts') (sym i) (chosen (ap (λ (x : Entry). x.reason) (sym (get_or_push entries e d p (sym i))) ∙ none))
        | inr ne ↦
            let below : p < length entries = omega (arith, length_push entries e) in
            more p (s.chosen p d below (ap (λ (x : Entry). x.reason) (sym (get_or_append_left entries (e ∷ []) d p below)) ∙ none))
      ];
      rising = rising;
      within = λ i lt. let le = (levels i lt).0 in omega (arith, length_push entries e);
      closed = λ i lt.
          subst (λ (b : List Entry). All (IsMet (lits_of b)) (clauses_of cnf.clauses steps)) (sym (take-append-le (get_or starts' i 0) entries (e ∷ []) (levels i lt).0)) (levels i lt).1;
    }

-- a clause forced it
pub search_assigned : (cnf : Cnf) (vars : ℕ) (entries : List Entry) (starts : List ℕ) (steps : List Step) (l : Lit) (r : ℕ) → IsSearch cnf vars entries starts steps → IsForcedBy (clauses_of cnf.clauses steps) entries l r → IsTrail vars (entries ++ record { lit = l; reason = Some r } ∷ []) → IsSearch cnf vars (entries ++ record { lit = l; reason = Some r } ∷ []) starts steps
search_assigned cnf vars entries starts steps l r s forced trail =
    search_push cnf vars entries starts starts steps (record { lit = l; reason = Some r }) s forced (λ h. cc) (λ x h. h) s.rising (λ i lt. let w = s.within i lt in (omega arith, s.closed i lt)) trail

-- it was chosen, where propagation was complete
pub search_decided : (cnf : Cnf) (vars : ℕ) (entries : List Entry) (starts : List ℕ) (steps : List Step) (l : Lit) → IsSearch cnf vars entries starts steps → All (IsMet (lits_of entries)) (clauses_of cnf.clauses steps) → IsTrail vars (entries ++ record { lit = l; reason = None } ∷ []) → IsSearch cnf vars (entries ++ record { lit = l; reason = None } ∷ []) (starts ++ length entries ∷ []) steps
search_decided cnf vars entries starts steps l s complete trail =
    let n = length entries in
    search_push cnf vars entries starts (starts ++ n ∷ []) steps (record { lit = l; reason = None }) s tt (λ h. Contains-push starts n) (λ x h. Contains-append_left starts (n ∷ []) x h)
    (λ i j lt inside.
    let first : get_or (starts ++ n ∷ []) i 0 ≡ get_or starts i 0 = get_or_append_left starts (n ∷ []) 0 i (omega (arith, length_push starts n)) in
    elim (cases_eq j (length starts)) [
      | inl e ↦ let w = s.within i (omega arith) in omega (arith, first, get_or_push starts n 0 j (sym e))
      | inr ne ↦
          let jn : j < length starts = omega (arith, length_push starts n) in
          let r = s.rising i j lt jn in
          omega (arith, first, get_or_append_left starts (n ∷ []) 0 j jn)
    ])
    (λ i lt. elim (cases_eq i (length starts)) [
      | inl e ↦
          let at : get_or (starts ++ n ∷ []) i 0 ≡ n = get_or_push starts n 0 i (sym e) in
          (omega (arith, at), subst (λ (b : List Entry). All (IsMet (lits_of b)) (clauses_of cnf.clauses steps)) (sym (ap (λ k. take k entries) at ∙ take_all n entries (omega arith))) complete)
      | inr ne ↦
          let below : i < length starts = omega (arith, length_push starts n) in
          let at : get_or (starts ++ n ∷ []) i 0 ≡ get_or starts i 0 = get_or_append_left starts (n ∷ []) 0 i below in
          let w = s.within i below in
          (omega (arith, at), subst (λ k. All (IsMet (lits_of (take k entries))) (clauses_of cnf.clauses steps)) (sym at) (s.closed i below))
    ])
    trail

avoids_shorter : (entries : List Entry) (m n : ℕ) (l : Lit) → m ≤ n → Avoids (lits_of (take n entries)) l → Avoids (lits_of (take m entries)) l
avoids_shorter entries m n l le a = record { itself = λ h. a.itself (in_longer entries m n l le h); negation = λ h. a.negation (in_longer entries m n (negated l) le h) }

-- a jump back
module _ (cnf : Cnf) (vars : ℕ) (entries : List Entry) (starts : List ℕ) (steps : List Step) (s : IsSearch cnf vars entries starts steps) (l : Learnt) (last : LastLevel starts (λ start. IsLesson cnf steps entries start l)) (keep : ℕ) (splits : Splits starts l.bound keep) where
  abbrev start : ℕ
  start = get_or starts last.0 0

  abbrev lesson : IsLesson cnf steps entries start l
  lesson = last.2

  pub kept_few : keep < length starts
  kept_few = elim (cases_lt keep (length starts)) [
    | inl lt ↦ lt
    | inr ge ↦ let b = splits.below last.0 (omega (arith, last.1, splits.few)) in absurd (omega (arith, lesson.early))
  ]

  abbrev t : ℕ
  t = get_or starts keep 0

  pub early_enough : t ≤ start
  early_enough = elim (cases_eq keep last.0) [
    | inl e ↦ subst (λ k. get_or starts k 0 ≤ start) (sym e) (omega arith)
    | inr ne ↦ let r = s.rising keep last.0 (omega (arith, kept_few, last.1)) (omega (arith, last.1)) in omega arith
  ]

  pub late_enough : l.bound ≤ t
  late_enough = splits.above keep (omega arith) kept_few

  pub in_trail : t < length entries
  in_trail = s.within keep kept_few

  pub free_there : Avoids (lits_of (take t entries)) l.lit
  free_there = avoids_shorter entries t start l.lit early_enough lesson.avoided

  abbrev clauses : List (List Lit)
  clauses = clauses_of cnf.clauses steps

  -- the new clause is met before each level that stays
  met_before : (u : ℕ) → u < l.bound → IsMet (lits_of (take u entries)) l.step.clause
  met_before u lt = elim lesson.last [
    | inl e ↦ absurd (omega (arith, e))
    | inr m ↦
        inr (
          l.lit,
          m.0,
          record {
            first = lesson.among;
            second = m.1;
            apart = λ e. m.2 (sym e);
            first_avoided = avoids_shorter entries u start l.lit (omega (arith, lesson.early)) lesson.avoided;
            second_avoided = avoids_shorter entries u (l.bound - 1) m.0 (omega arith) m.3;
          },
        )
  ]

  chosen_there : (p : ℕ) (d : Entry) → p < length (take t entries) → (get_or (take t entries) p d).reason ≡ None → Contains (take keep starts) p
  chosen_there p d lt none =
      let below : p < t = omega (arith, length-take t entries) in
      let c = s.chosen p d (omega (arith, length-take t entries)) (ap (λ (x : Entry). x.reason) (sym (get_or-take t entries p d below)) ∙ none) in
      let at : get_or starts c.0 0 ≡ p = get_or_default starts c.0 0 p c.1 ∙ c.2 in
      let first : c.0 < keep = elim (cases_lt c.0 keep) [
        | inl lt' ↦ lt'
        | inr ge ↦ elim (cases_eq keep c.0) [
          | inl e ↦ let same = ap (λ k. get_or starts k 0) e in absurd (omega arith)
          | inr ne ↦ let r = s.rising keep c.0 (omega arith) c.1 in absurd (omega arith)
        ]
      ] in
      (c.0, omega (arith, length-take keep starts, kept_few), get_or-take keep starts c.0 p first ∙ c.2)

  pub search_cut : IsTrail vars (take t entries) → IsSearch cnf vars (take t entries) (take keep starts) (steps ++ l.step ∷ [])
  search_cut trail =
      record {
        vars_are = s.vars_are;
        trail = trail;
        honest = honest_push cnf steps l.step s.honest lesson.honest;
        reasons = subst (λ cs. HasReasons cs (take t entries)) (sym (clauses_push cnf.clauses steps l.step)) (reasons_still clauses l.step.clause (take t entries) (reasons_take clauses entries t s.reasons));
        chosen = chosen_there;
        rising = λ i j lt inside.
            let jn : j < keep = omega (arith, length-take keep starts) in
            let r = s.rising i j lt (omega (arith, kept_few)) in
            omega (arith, get_or-take keep starts i 0 (omega arith), get_or-take keep starts j 0 jn);
        within = λ i inside.
            let k : i < keep = omega (arith, length-take keep starts) in
            let r = s.rising i keep k kept_few in
            omega (arith, get_or-take keep starts i 0 k, length-take t entries, in_trail);
        closed = λ i inside.
            let k : i < keep = omega (arith, length-take keep starts) in
            let u = get_or starts i 0 in
            let r = s.rising i keep k kept_few in
            let le : u ≤ t = omega arith in
            let whole : All (IsMet (lits_of (take u entries))) (clauses ++ l.step.clause ∷ []) = All-push (IsMet (lits_of (take u entries))) clauses l.step.clause (s.closed i (omega (arith, kept_few))) (met_before u (splits.below i k)) in
            subst (λ cs. All (IsMet (lits_of (take (get_or (take keep starts) i 0) (take t entries)))) cs) (sym (clauses_push cnf.clauses steps l.step))
            (subst (λ (b : List Entry). All (IsMet (lits_of b)) (clauses ++ l.step.clause ∷ [])) (sym (ap (λ n. take n (take t entries)) (get_or-take keep starts i 0 k) ∙ take-take u t entries le)) whole);
      }

  pub forced_there : IsForcedBy (clauses_of cnf.clauses (steps ++ l.step ∷ [])) (take t entries) l.lit (length clauses)
  forced_there =
      subst (λ cs. IsForcedBy cs (take t entries) l.lit (length clauses)) (sym (clauses_push cnf.clauses steps l.step))
      (let at : clause_at (clauses ++ l.step.clause ∷ []) (length clauses) ≡ l.step.clause = get_or_push clauses l.step.clause [] (length clauses) refl in
      record {
        known = omega (arith, length_push clauses l.step.clause);
        among = subst (λ k. Contains k l.lit) (sym at) lesson.among;
        others = λ m h ne. in_longer entries l.bound t (negated m) late_enough (lesson.others m (subst (λ k. Contains k m) at h) ne);
      })

pub search_at : (cnf : Cnf) (vars vars' : ℕ) (entries entries' : List Entry) (starts starts' : List ℕ) (steps steps' : List Step) → vars' ≡ vars → entries' ≡ entries → starts' ≡ starts → steps' ≡ steps → IsSearch cnf vars entries starts steps → IsSearch cnf vars' entries' starts' steps'
search_at cnf vars vars' entries entries' starts starts' steps steps' v e s t search =
    subst (λ x. IsSearch cnf x entries' starts' steps') (sym v)
    (subst (λ x. IsSearch cnf vars x starts' steps') (sym e)
    (subst (λ x. IsSearch cnf vars entries x steps') (sym s)
    (subst (λ x. IsSearch cnf vars entries starts x) (sym t) search)))

pub both_ok : {A E P Q R : Type 0} (r : Result A E) → OnOk r P → OnOk r Q → (P → Q → R) → OnOk r R
both_ok (Ok x) p q f = f p q
both_ok (Err e) p q f = tt

pub all_ok : {A E P Q R S T : Type 0} (r : Result A E) → OnOk r P → OnOk r Q → OnOk r R → OnOk r S → (P → Q → R → S → T) → OnOk r T
all_ok (Ok x) p q r s f = f p q r s
all_ok (Err e) p q r s f = tt

-- the trail before the first choice
module _ (cnf : Cnf) (vars : ℕ) (entries : List Entry) (starts : List ℕ) (steps : List Step) (s : IsSearch cnf vars entries starts steps) (some : 0 < length starts) where
  abbrev root : ℕ
  root = get_or starts 0 0

  forced_below : (p : ℕ) → p < root → Contains starts p → ⊥
  forced_below p lt c =
      let at : get_or starts c.0 0 ≡ p = get_or_default starts c.0 0 p c.1 ∙ c.2 in
      elim (cases_eq 0 c.0) [
        | inl e ↦ let same = ap (λ k. get_or starts k 0) e in omega arith
        | inr ne ↦ let r = s.rising 0 c.0 (omega arith) c.1 in omega arith
      ]

  pub search_restart : IsTrail vars (take root entries) → IsSearch cnf vars (take root entries) [] steps
  search_restart trail =
      record {
        vars_are = s.vars_are;
        trail = trail;
        honest = s.honest;
        reasons = reasons_take (clauses_of cnf.clauses steps) entries root s.reasons;
        chosen = λ p d lt none.
            let below : p < root = omega (arith, length-take root entries) in
            absurd (forced_below p below (s.chosen p d (omega (arith, length-take root entries)) (ap (λ (x : Entry). x.reason) (sym (get_or-take root entries p d below)) ∙ none)));
        rising = λ i j lt inside. absurd (omega (arith, inside));
        within = λ i inside. absurd (omega (arith, inside));
        closed = λ i inside. absurd (omega (arith, inside));
      }

-- the hints of a step name clauses
pub hints_known : (cs : List (List Lit)) (known : List Lit) (hints : List ℕ) → Refutes cs known hints → (k : ℕ) (d : ℕ) → k < length hints → get_or hints k d < length cs
hints_known cs known [] r k d lt = absurd r
hints_known cs known (h ∷ []) r zero d lt = r.0
hints_known cs known (h ∷ []) r (suc k) d lt = absurd (omega (arith, lt))
hints_known cs known (h ∷ g ∷ hs) r zero d lt = r.0
hints_known cs known (h ∷ g ∷ hs) r (suc k) d lt = hints_known cs ((r.1).0 ∷ known) (g ∷ hs) (r.1).2 k d (omega (arith, lt))
