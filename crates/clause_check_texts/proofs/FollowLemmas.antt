use Rattle.std.proofs.Common.{◌≡◌, ◌≢◌, ◌<◌, ◌≤◌, ◌+◌, ◌↔◌, ◌⊎◌, ℕ, zero, suc, Bool, true, false, not, List, [], ◌∷◌, ◌++◌, map, length, get_or, set, take, drop, Option, Some, None, Contains, refl, ap, sym, ◌∙◌, subst, arith, inl, inr, append_assoc}
use mathlib.Core.Bool.{beq}
use Rattle.std.proofs.lemmas.Bool.{cases_eq, cases_lt}
use Rattle.std.proofs.lemmas.List.{drop_more, drop_all, take_more, take-append-drop, get_or-set_same, get_or-set_other, get_or-map, length-map, map_push, get_or_default}
use Rattle.std.proofs.lemmas.List.Elements.{All-contains, All-map, All-push, Contains-append_left, Contains-get_or}
use Rattle.std.proofs.lemmas.List.Quantifiers.{all_pairs_push}
use Rattle.clause_check.specs.declared.literal.Lit.{Lit}
use Rattle.clause_check.specs.declared.formula.Cnf.{Cnf}
use Rattle.clause_check.specs.declared.formula.Step.{Step}
use Rattle.clause_check.specs.Clauses.{negated, IsClause, IsInRange}
use Rattle.clause_check.specs.Looks.{value_of, IsFreeIn, IsOpen, IsUnit, IsBlank, Mentions, Shows, Sees}
use Rattle.clause_check.specs.declared.looks.Look.TheVariants.{False}
use Rattle.clause_check.specs.Derivations.{AllFalse, Forces, Refutes, clause_at, clauses_of}
use Rattle.clause_check.proofs.Members.{adds_push, contains_cons_cases, contains_here, contains_there, contains_map, map_from, negated-negated}
use Rattle.clause_check.proofs.RefuteLemmas.{false_known, forces_from_unit, not_itself, refutes_open, refutes_unit}
use Rattle.clause_check.proofs.ValueLemmas.{shows_blank, shows_more}
use Rattle.clause_check_texts.specs.declared.words.Number.{Number}
use Rattle.clause_check_texts.specs.Steps.{Follows, IsClauseOf, clause_number, lit_of}

-- both have the same literals
abbrev pub Same : List Lit → List Lit → Type 0
Same a b = (l : Lit) → Contains a l ↔ Contains b l

same_cons : (a b : List Lit) (l : Lit) → Same a b → Same (l ∷ a) (l ∷ b)
same_cons a b l same m = (
  λ h. elim (contains_cons_cases l a m h) [ inl k ↦ contains_there l b m ((same m).0 k) | inr e ↦ subst (λ z. Contains (l ∷ b) z) e (contains_here l b) ],
  λ h. elim (contains_cons_cases l b m h) [ inl k ↦ contains_there l a m ((same m).1 k) | inr e ↦ subst (λ z. Contains (l ∷ a) z) e (contains_here l a) ],
)

same_forces : (a b clause : List Lit) (l : Lit) → Same a b → Forces a clause l → Forces b clause l
same_forces a b clause l same f = record {
  among = f.among;
  not_true = λ h. f.not_true ((same l).1 h);
  not_false = λ h. f.not_false ((same (negated l)).1 h);
  others = λ m h ne. (same (negated m)).0 (f.others m h ne);
}

pub same_refutes : (clauses : List (List Lit)) (hints : List ℕ) (a b : List Lit) → Same a b → Refutes clauses a hints → Refutes clauses b hints
same_refutes clauses [] a b same r = r
same_refutes clauses (h ∷ []) a b same r = (r.0, λ m c. (same (negated m)).0 (r.1 m c))
same_refutes clauses (h ∷ (g ∷ hs)) a b same r =
    (r.0, (r.1.0, same_forces a b (clause_at clauses h) r.1.0 same r.1.1, same_refutes clauses (g ∷ hs) (r.1.0 ∷ a) (r.1.0 ∷ b) (same_cons a b r.1.0 same) r.1.2))

push_cons : (known : List Lit) (l : Lit) → Same (known ++ l ∷ []) (l ∷ known)
push_cons known l m = (
  λ h. elim ((adds_push known l m).0 h) [ inl k ↦ contains_there l known m k | inr e ↦ subst (λ z. Contains (l ∷ known) z) e (contains_here l known) ],
  λ h. (adds_push known l m).1 (contains_cons_cases l known m h),
)

cons_push : (known : List Lit) (l : Lit) → Same (l ∷ known) (known ++ l ∷ [])
cons_push known l m = let s = push_cons known l m in (s.1, s.0)

first_known : (clauses : List (List Lit)) (known : List Lit) (h : ℕ) (rest : List ℕ) → Refutes clauses known (h ∷ rest) → h < length clauses
first_known clauses known h [] r = r.0
first_known clauses known h (g ∷ hs) r = r.0

nothing : (clauses : List (List Lit)) (known : List Lit) (m : ℕ) → Refutes clauses known (take m []) → ⊥
nothing clauses known zero r = r
nothing clauses known (suc m) r = r

-- how far hints have been followed from the literals at the start
pub record Following (clauses : List (List Lit)) (start : List Lit) (hints : List ℕ) (i : ℕ) (values : List (Option Bool)) (known : List Lit) : Type 0 where
  pub shows : Shows values known
  pub back : (rest : List ℕ) → Refutes clauses known rest → Refutes clauses start (take i hints ++ rest)
  pub only : (k : ℕ) → Refutes clauses start (take k hints) → (m : ℕ) × Refutes clauses known (take m (drop i hints))

pub following_start : (clauses : List (List Lit)) (start : List Lit) (hints : List ℕ) (values : List (Option Bool)) → Shows values start → Following clauses start hints 0 values start
following_start clauses start hints values shows = record { shows = shows; back = λ rest r. r; only = λ k r. (k, r) }

module _ (clauses : List (List Lit)) (start : List Lit) (hints : List ℕ) (i : ℕ) (values : List (Option Bool)) (known : List Lit) (f : Following clauses start hints i values known) where
  -- none of the hints is left
  pub none_left : length hints ≤ i → (k : ℕ) → Refutes clauses start (take k hints) → ⊥
  none_left le k r = let m = f.only k r in nothing clauses known m.0 (subst (λ hs. Refutes clauses known (take m.0 hs)) (drop_all i hints le) m.1)

  module _ (lt : i < length hints) where
    abbrev hint : ℕ
    hint = get_or hints i 0

    abbrev rest : List ℕ
    rest = drop (i + 1) hints

    at_hint : (m : ℕ) → Refutes clauses known (take m (drop i hints)) → Refutes clauses known (take m (hint ∷ rest))
    at_hint m r = subst (λ hs. Refutes clauses known (take m hs)) (drop_more hints i 0 lt) r

    some_left : (m : ℕ) → Refutes clauses known (take m (hint ∷ rest)) → (n : ℕ) × Refutes clauses known (hint ∷ take n rest)
    some_left zero r = absurd r
    some_left (suc n) r = (n, r)

    left_at : (k : ℕ) → Refutes clauses start (take k hints) → (n : ℕ) × Refutes clauses known (hint ∷ take n rest)
    left_at k r = let m = f.only k r in some_left m.0 (at_hint m.0 m.1)

    pub follow_missing : length clauses ≤ hint → (k : ℕ) → Refutes clauses start (take k hints) → ⊥
    follow_missing le k r = let n = left_at k r in let below = first_known clauses known hint (take n.0 rest) n.1 in absurd (omega (arith, below))

    pub follow_open : IsOpen values (clause_at clauses hint) → (k : ℕ) → Refutes clauses start (take k hints) → ⊥
    follow_open o k r = let n = left_at k r in refutes_open clauses known hint values (take n.0 rest) f.shows o n.1

    pub follow_false : hint < length clauses → Sees values (clause_at clauses hint) False → Refutes clauses start (take (i + 1) hints)
    follow_false below sees =
        let all : AllFalse known (clause_at clauses hint) = λ m h. false_known values known f.shows m (sees m h) in
        subst (λ hs. Refutes clauses start hs) (sym (take_more hints i 0 lt)) (f.back (hint ∷ []) (below, all))

    pub follow_unit : (l : Lit) → hint < length clauses → IsUnit values (clause_at clauses hint) l → l.var < length values
        → Following clauses start hints (i + 1) (set values l.var (Some (not l.negative))) (known ++ l ∷ [])
    follow_unit l below u fits =
        let forces = forces_from_unit values known f.shows (clause_at clauses hint) l u in
        record {
          shows = shows_more values known (known ++ l ∷ []) l (not l.negative) refl fits u.free f.shows (adds_push known l);
          back = λ more r.
              let one = (refutes_unit clauses known hint more l below forces).1 (same_refutes clauses more (known ++ l ∷ []) (l ∷ known) (push_cons known l) r) in
              subst (λ hs. Refutes clauses start hs) (sym (append_assoc (take i hints) (hint ∷ []) more) ∙ ap (λ hs. hs ++ more) (sym (take_more hints i 0 lt))) (f.back (hint ∷ more) one);
          only = λ k r.
              let n = left_at k r in
              (n.0, same_refutes clauses (take n.0 rest) (l ∷ known) (known ++ l ∷ []) (cons_push known l) ((refutes_unit clauses known hint (take n.0 rest) l below forces).0 n.1));
        }

-- ---- forgetting

some_or_none : (o : Option Bool) (P : Type 0) → ((b : Bool) → o ≡ Some b → P) → (o ≡ None) ⊎ P
some_or_none None P f = inl refl
some_or_none (Some b) P f = inr (f b refl)

-- each variable with a value is one of these literals
abbrev pub Covers : List Lit → List (Option Bool) → Type 0
Covers known values = (v : ℕ) → (value_of values v ≡ None) ⊎ Mentions known v

pub covers_start : (known : List Lit) (values : List (Option Bool)) → Shows values known → Covers known values
covers_start known values shows v = some_or_none _ _ (λ b e. (record { var = v; negative = not b }, (shows v b).0 e, refl))

pub covers_less : (l : Lit) (known : List Lit) (values : List (Option Bool)) → l.var < length values → Covers (l ∷ known) values → Covers known (set values l.var None)
covers_less l known values fits c v = elim (cases_eq v l.var) [
  | inl e ↦ inl (ap (value_of (set values l.var None)) e ∙ get_or-set_same values l.var None None fits)
  | inr ne ↦ elim (c v) [
    | inl e ↦ inl (get_or-set_other values l.var v None None ne ∙ e)
    | inr m ↦ elim (contains_cons_cases l known m.0 m.1) [ inl k ↦ inr (m.0, k, m.2) | inr e ↦ absurd (ne (sym m.2 ∙ ap (λ (x : Lit). x.var) (sym e))) ]
  ]
]

pub covers_none : (values : List (Option Bool)) → Covers [] values → IsBlank values
covers_none values c v = elim (c v) [ inl e ↦ e | inr m ↦ absurd (omega (arith, m.1.1)) ]

-- ---- assuming

-- the literals of these numbers are false, and no others
pub record Assumed (vars : ℕ) (seen : List Number) (values : List (Option Bool)) (known : List Lit) : Type 0 where
  pub shows : Shows values known
  pub in_range : IsInRange vars known
  pub distinct : IsClause known
  pub lits : (l : Lit) → Contains known (negated l) ↔ Contains (map lit_of seen) l

contains_none : {X : Type 0} (x : X) → Contains [] x → ⊥
contains_none x h = absurd (omega (arith, h.1))

pub assumed_none : (vars : ℕ) (values : List (Option Bool)) → IsBlank values → Assumed vars [] values []
assumed_none vars values blank = record {
  shows = shows_blank values blank;
  in_range = λ k d lt. absurd (omega (arith, lt));
  distinct = λ i j d lt lt'. absurd (omega (arith, lt'));
  lits = λ l. (λ h. absurd (contains_none (negated l) h), λ h. absurd (contains_none l h));
}

same_var_known : (values : List (Option Bool)) (known : List Lit) (l m : Lit) → Shows values known → IsFreeIn values l → Contains known m → m.var ≡ l.var → ⊥
same_var_known values known l m shows free h e =
    let some : value_of values m.var ≡ Some (not m.negative) = (shows m.var (not m.negative)).1 (subst (λ z. Contains known z) (sym (negated-negated m)) h) in
    let none : value_of values m.var ≡ None = ap (value_of values) e ∙ free in
    let bad : Some (not m.negative) ≡ None = sym some ∙ none in
    cc

module _ (vars : ℕ) (seen : List Number) (values : List (Option Bool)) (known : List Lit) (a : Assumed vars seen values known) (n : Number) where
  abbrev this : Lit
  this = lit_of n

  seen_push : (m : Lit) → Contains (map lit_of (seen ++ n ∷ [])) m ↔ (Contains (map lit_of seen) m ⊎ (this ≡ m))
  seen_push m = subst (λ xs. Contains xs m ↔ (Contains (map lit_of seen) m ⊎ (this ≡ m))) (sym (map_push lit_of seen n)) (adds_push (map lit_of seen) this m)

  negated_both : (m : Lit) → negated this ≡ negated m → this ≡ m
  negated_both m e = sym (negated-negated this) ∙ (ap negated e ∙ negated-negated m)

  pub assumed_more : vars ≤ length values → this.var < vars → IsFreeIn values this → Assumed vars (seen ++ n ∷ []) (set values this.var (Some this.negative)) (known ++ negated this ∷ [])
  assumed_more room below free = record {
    shows = shows_more values known (known ++ negated this ∷ []) (negated this) this.negative (ap (λ (x : Lit). x.negative) (sym (negated-negated this))) (omega arith) free a.shows (adds_push known (negated this));
    in_range = All-push (λ (l : Lit). l.var < vars) known (negated this) a.in_range below;
    distinct = all_pairs_push (λ (l m : Lit). l.var ≢ m.var) known (negated this) a.distinct (λ k d lt e. same_var_known values known this (get_or known k d) a.shows free (k, lt, get_or_default known k (get_or known k d) d lt) e);
    lits = λ m. (
      λ h. (seen_push m).1 (elim ((adds_push known (negated this) (negated m)).0 h) [ inl k ↦ inl ((a.lits m).0 k) | inr e ↦ inr (negated_both m e) ]),
      λ h. (adds_push known (negated this) (negated m)).1 (elim ((seen_push m).0 h) [ inl k ↦ inl ((a.lits m).1 k) | inr e ↦ inr (ap negated e) ]),
    );
  }

  pub assumed_again : value_of values this.var ≡ Some this.negative → Assumed vars (seen ++ n ∷ []) values known
  assumed_again value = record {
    shows = a.shows;
    in_range = a.in_range;
    distinct = a.distinct;
    lits = λ m. (
      λ h. (seen_push m).1 (inl ((a.lits m).0 h)),
      λ h. elim ((seen_push m).0 h) [ inl k ↦ (a.lits m).1 k | inr e ↦ subst (λ z. Contains known (negated z)) e ((a.shows this.var this.negative).0 value) ],
    );
  }

  -- its variable stands among those before with the other sign
  pub other_seen : value_of values this.var ≡ Some (not this.negative) → Contains (map lit_of seen) (negated this)
  other_seen value =
      (a.lits (negated this)).0 (subst (λ z. Contains known z) (ap (λ b. record { var = this.var; negative = b }) refl) ((a.shows this.var (not this.negative)).0 value))

twice : (c : List Lit) (l : Lit) → IsClause c → Contains c l → Contains c (negated l) → ⊥
twice c l distinct x y =
    let at : (get_or c y.0 l).var ≡ l.var = ap (λ (m : Lit). m.var) (get_or_default c y.0 l (negated l) y.1) ∙ ap (λ (m : Lit). m.var) y.2 in
    let is : (get_or c x.0 l).var ≡ l.var = ap (λ (m : Lit). m.var) x.2 in
    elim (cases_lt x.0 y.0) [
      | inl lt ↦ distinct x.0 y.0 l lt y.1 (is ∙ sym at)
      | inr ge ↦ elim (cases_lt y.0 x.0) [
        | inl lt ↦ distinct y.0 x.0 l lt x.1 (at ∙ sym is)
        | inr le ↦
            let same : y.0 ≡ x.0 = omega arith in
            let one : negated l ≡ l = sym y.2 ∙ (get_or_default c y.0 (negated l) l y.1 ∙ (ap (λ k. get_or c k l) same ∙ x.2)) in
            not_itself l.negative (sym (ap (λ (m : Lit). m.negative) one))
      ]
    ]

-- no clause with both signs of a variable
pub both_signs : (numbers : List Number) (l : Lit) → Contains (map lit_of numbers) l → Contains (map lit_of numbers) (negated l) → (c : List Lit) → IsClauseOf numbers c → ⊥
both_signs numbers l h g c is = twice c l is.distinct ((is.lits l).1 h) ((is.lits (negated l)).1 g)

pub out_of_range : (vars : ℕ) (numbers : List Number) (l : Lit) → Contains (map lit_of numbers) l → vars ≤ l.var → (c : List Lit) → IsClauseOf numbers c → IsInRange vars c → ⊥
out_of_range vars numbers l h le c is below = let lt = All-contains (λ (m : Lit). m.var < vars) c l below ((is.lits l).1 h) in absurd (omega (arith, lt))

pub assumed_all : (vars : ℕ) (numbers : List Number) (values : List (Option Bool)) (known : List Lit) → Assumed vars numbers values known → IsClauseOf numbers (map negated known)
assumed_all vars numbers values known a = record {
  distinct = λ i j d lt lt' e.
      let lj : j < length known = rw length-map at lt' in
      a.distinct i j d lt lj (ap (λ (m : Lit). m.var) (sym (get_or-map negated known i d d (omega arith))) ∙ (e ∙ ap (λ (m : Lit). m.var) (get_or-map negated known j d d lj)));
  lits = λ l. (
    λ h. let x = map_from negated known l l h in (a.lits l).0 (subst (λ z. Contains known z) (sym (negated-negated x.0) ∙ ap negated x.2) x.1),
    λ h. subst (λ z. Contains (map negated known) z) (negated-negated l) (contains_map negated known (negated l) ((a.lits l).1 h)),
  );
}

pub at_number : (numbers : List Number) (i : ℕ) (d : Number) → i < length numbers → Contains (map lit_of numbers) (lit_of (get_or numbers i d))
at_number numbers i d lt = contains_map lit_of numbers (get_or numbers i d) (Contains-get_or numbers i d lt)

-- what stands among the first stands among all
pub within : (numbers : List Number) (i : ℕ) (d : Number) (l : Lit) → Contains (map lit_of (take i numbers)) l → Contains (map lit_of numbers) l
within numbers i d l h =
    let x = map_from lit_of (take i numbers) d l h in
    let all = subst (λ ns. Contains ns x.0) (take-append-drop i numbers) (Contains-append_left (take i numbers) (drop i numbers) x.0 x.1) in
    subst (λ z. Contains (map lit_of numbers) z) x.2 (contains_map lit_of numbers x.0 all)

pub other_bool : (a b : Bool) → not (beq a b) ≡ true → a ≡ not b
other_bool true true h = cc
other_bool true false h = refl
other_bool false true h = refl
other_bool false false h = cc

map_twice : (known : List Lit) → map negated (map negated known) ≡ known
map_twice [] = refl
map_twice (l ∷ ls) = ap (λ x. x ∷ map negated (map negated ls)) (negated-negated l) ∙ ap (λ xs. l ∷ xs) (map_twice ls)

same_negated : (a b : List Lit) → Same a b → Same (map negated a) (map negated b)
same_negated a b same l = (
  λ h. let x = map_from negated a l l h in subst (λ z. Contains (map negated b) z) x.2 (contains_map negated b x.0 ((same x.0).0 x.1)),
  λ h. let x = map_from negated b l l h in subst (λ z. Contains (map negated a) z) x.2 (contains_map negated a x.0 ((same x.0).1 x.1)),
)

-- ---- the step of a line

module _ (cnf : Cnf) (ids : List ℕ) (before : List Step) (lits hints : List Number) (known : List Lit) (clause : IsClauseOf lits (map negated known)) (numbers : List ℕ) (are : numbers ≡ map (clause_number (length cnf.clauses) ids) hints) where
  pub step_follows : (k : ℕ) (step : Step) → IsInRange cnf.vars known → Refutes (clauses_of cnf.clauses before) known (take k numbers) → step.clause ≡ map negated known → step.hints.items ≡ take k numbers → Follows cnf ids before lits hints step
  step_follows k step below refutes is first = record {
    clause = subst (λ c. IsClauseOf lits c) (sym is) clause;
    first = (k, first ∙ ap (take k) are);
    implied = record {
      in_range = subst (λ c. IsInRange cnf.vars c) (sym is) (All-map (λ (l : Lit). l.var < cnf.vars) negated known below);
      implied =
          let start : map negated step.clause ≡ known = ap (map negated) is ∙ map_twice known in
          rw (start, first) refutes;
    };
  }

  pub none_follows : ((k : ℕ) → Refutes (clauses_of cnf.clauses before) known (take k numbers) → ⊥) → (step : Step) → Follows cnf ids before lits hints step → ⊥
  none_follows none step f =
      let clauses = clauses_of cnf.clauses before in
      let same : Same step.clause (map negated known) = λ l. (λ h. (clause.lits l).1 ((f.clause.lits l).0 h), λ h. (f.clause.lits l).1 ((clause.lits l).0 h)) in
      let start : Same (map negated step.clause) known = subst (λ b. Same (map negated step.clause) b) (map_twice known) (same_negated step.clause (map negated known) same) in
      let refutes = same_refutes clauses step.hints.items (map negated step.clause) known start f.implied.implied in
      none f.first.0 (subst (λ hs. Refutes clauses known hs) (f.first.1 ∙ ap (take f.first.0) (sym are)) refutes)
