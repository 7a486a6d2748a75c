use Rattle.std.proofs.Common.{◌≡◌, ◌≢◌, ◌<◌, ◌≤◌, ◌+◌, ℕ, Bool, true, false, not, List, Option, Some, None, get_or, length, arith, sym, ◌∙◌, ap, subst, refl, Contains, inl, inr, ◌⊎◌}
use Rattle.std.proofs.lemmas.Bool.{cases_eq, cases_lt}
use Rattle.std.proofs.lemmas.List.{get_or_default}
use Rattle.clause_check.specs.declared.literal.Lit.{Lit}
use Rattle.clause_check.specs.Clauses.{negated, IsClause}
use Rattle.clause_check.specs.Looks.{value_of, IsTrueIn, IsFreeIn, IsFalseIn}
use Rattle.clause_check.proofs.Members.{negated-negated}
use Rattle.cdcl.specs.declared.trail.Entry.{Entry}
use Rattle.cdcl.specs.declared.watches.Watch.{Watch}
use Rattle.cdcl.specs.Trails.{lits_of, IsTrail}
use Rattle.cdcl.specs.Watching.{IsTrueAt, IsGuarded, IsKept, IsWatchOf}
use Rattle.cdcl.specs.Finding.{NoneOther}
use Rattle.cdcl.specs.Leaving.{Leaves}
use Rattle.cdcl.proofs.EndLemmas.{value_cases}
use Rattle.cdcl.specs.Turns.{Rests, Moves}
use Rattle.cdcl.proofs.LearnLemmas.{trail_consistent}
use Rattle.cdcl.proofs.WatchLemmas.{contains_true, true_at, kept_next, kept_replaced}

guarded_weaker : (entries : List Entry) (starts : List ℕ) (n m : ℕ) (a b : Lit) → n ≤ m → IsGuarded entries starts m a b → IsGuarded entries starts n a b
guarded_weaker entries starts n m a b le g p lt h = g p (omega arith) h

pub kept_weaker : (clause : List Lit) (entries : List Entry) (starts : List ℕ) (n m : ℕ) (w : Watch) → n ≤ m → IsKept clause entries starts m w → IsKept clause entries starts n w
kept_weaker clause entries starts n m w le (inl k) =
    inl (record { first = k.first; second = k.second; apart = k.apart; first_guarded = guarded_weaker entries starts n m w.first w.second le k.first_guarded; second_guarded = guarded_weaker entries starts n m w.second w.first le k.second_guarded })
kept_weaker clause entries starts n m w le (inr s) = inr s

abbrev turned : Watch → Watch
turned w = record { first = w.second; second = w.first }

kept_turned : (clause : List Lit) (entries : List Entry) (starts : List ℕ) (n : ℕ) (w : Watch) → IsKept clause entries starts n w → IsKept clause entries starts n (turned w)
kept_turned clause entries starts n w (inl k) =
    inl (record { first = k.second; second = k.first; apart = λ e. k.apart (sym e); first_guarded = k.second_guarded; second_guarded = k.first_guarded })
kept_turned clause entries starts n w (inr s) = inr s

-- the literal at a place is one
one_there : (entries : List Entry) (l m : Lit) (p : ℕ) → IsTrueAt entries l p → IsTrueAt entries m p → l ≡ m
one_there entries l m p h k = let z : Entry = record { lit = l; reason = None } in sym (h.is z) ∙ k.is z

negated_inj : (l m : Lit) → negated l ≡ negated m → l ≡ m
negated_inj l m e = sym (negated-negated l) ∙ (ap negated e ∙ negated-negated m)

pub rests_from : (entries : List Entry) (denied : Lit) (w : Watch) (l : Lit) → Leaves denied w l → Contains (lits_of entries) l → Rests entries denied w
rests_from entries denied w l leaves h =
    record {
      first = λ e. elim leaves [ inl f ↦ subst (Contains (lits_of entries)) (sym f.1) h | inr f ↦ subst (Contains (lits_of entries)) (sym f.1 ∙ (e ∙ sym f.0)) h ];
      second = λ e. elim leaves [ inl f ↦ subst (Contains (lits_of entries)) (sym f.1 ∙ (e ∙ sym f.0)) h | inr f ↦ subst (Contains (lits_of entries)) (sym f.1) h ];
    }

-- literals of a clause that differ are of different variables
pub apart_in : (clause : List Lit) (l m : Lit) → IsClause clause → Contains clause l → Contains clause m → m ≢ l → m.var ≢ l.var
apart_in clause l m c h k ne e =
    let li = h.1 in let mi = k.1 in
    let at_l : get_or clause h.0 l ≡ l = h.2 in
    let at_m : get_or clause k.0 l ≡ m = get_or_default clause k.0 l m k.1 ∙ k.2 in
    elim (cases_eq h.0 k.0) [
      | inl i ↦ ne (sym at_m ∙ (ap (λ j. get_or clause j l) (sym i) ∙ at_l))
      | inr ne' ↦ elim (cases_lt h.0 k.0) [
        | inl lt ↦ c h.0 k.0 l lt k.1 (ap (λ (x : Lit). x.var) at_l ∙ (sym e ∙ ap (λ (x : Lit). x.var) (sym at_m)))
        | inr ge ↦ c k.0 h.0 l (omega arith) h.1 (ap (λ (x : Lit). x.var) at_m ∙ (e ∙ ap (λ (x : Lit). x.var) (sym at_l)))
      ]
    ]

-- a literal of the clause is the one at its place
pub none_other : (clause : List Lit) (var : ℕ) (values : List (Option Bool)) → NoneOther clause var values 0 (length clause) → (m : Lit) → Contains clause m → m.var ≢ var → IsFalseIn values m
none_other clause var values h m c ne =
    let at : get_or clause c.0 m ≡ m = c.2 in
    subst (IsFalseIn values) at (h c.0 m (omega arith) c.1 (subst (λ (l : Lit). l.var ≢ var) (sym at) ne))

pub contains_place : (clause : List Lit) (i : ℕ) (d : Lit) → i < length clause → Contains clause (get_or clause i d)
contains_place clause i d lt = (i, lt, get_or_default clause i (get_or clause i d) d lt)

bool_other : (b n : Bool) → (b ≡ n) ⊎ (b ≡ not n)
bool_other true true = inl refl
bool_other true false = inr refl
bool_other false true = inr refl
bool_other false false = inl refl

-- neither true nor free
pub false_otherwise : (values : List (Option Bool)) (l : Lit) → (IsTrueIn values l → ⊥) → (IsFreeIn values l → ⊥) → IsFalseIn values l
false_otherwise values l t f = elim (value_cases (value_of values l.var)) [
  | inl e ↦ absurd (f e)
  | inr b ↦ elim (bool_other b.0 l.negative) [ inl e ↦ b.1 ∙ ap Some e | inr e ↦ absurd (t (b.1 ∙ ap Some e)) ]
]

pub among_leaves : (clause : List Lit) (denied : Lit) (w : Watch) (l : Lit) → IsWatchOf clause w → Leaves denied w l → Contains clause l
among_leaves clause denied w l h (inl e) = subst (Contains clause) e.1 h.second
among_leaves clause denied w l h (inr e) = subst (Contains clause) e.1 h.first

pub range_leaves : (vars : ℕ) (denied : Lit) (w : Watch) (l : Lit) → w.first.var < vars → w.second.var < vars → Leaves denied w l → l.var < vars
range_leaves vars denied w l f s (inl e) = subst (λ (x : Lit). x.var < vars) e.1 s
range_leaves vars denied w l f s (inr e) = subst (λ (x : Lit). x.var < vars) e.1 f

module _ (clause : List Lit) (entries : List Entry) (starts : List ℕ) (next : ℕ) (level : (i : ℕ) → i < length starts → get_or starts i 0 ≤ next) (denied : Lit) (here : IsTrueAt entries (negated denied) next) where
  denied_here : (l : Lit) → IsTrueAt entries (negated l) next → l ≡ denied
  denied_here l h = negated_inj l denied (one_there entries (negated l) (negated denied) next h here)

  -- the clause watches no denied literal, or the other one is true
  pub kept_rests : (w : Watch) → Rests entries denied w → IsKept clause entries starts next w → IsKept clause entries starts (next + 1) w
  kept_rests w r = kept_next clause entries starts next level w (λ h. true_at entries w.second (r.first (denied_here w.first h))) (λ h. true_at entries w.first (r.second (denied_here w.second h)))

  pub kept_elsewhere : (w : Watch) → w.first ≢ denied → w.second ≢ denied → IsKept clause entries starts next w → IsKept clause entries starts (next + 1) w
  kept_elsewhere w f s = kept_rests w (record { first = λ e. absurd (f e); second = λ e. absurd (s e) })

  module _ (vars : ℕ) (trail : IsTrail vars entries) where
    -- a watched literal that is denied is replaced, where it is the first
    moved_first : (w : Watch) (l : Lit) → w.first ≡ denied → Contains clause l → l.var ≢ w.second.var → (Contains (lits_of entries) (negated l) → ⊥) → IsKept clause entries starts next w → IsKept clause entries starts (next + 1) (record { first = l; second = w.second })
    moved_first w l is among apart free (inr s) = inr s
    moved_first w l is among apart free (inl k) =
        let not_true : (q : ℕ) → IsTrueAt entries w.first q → ⊥ =
        λ q h. trail_consistent vars entries trail denied (subst (Contains (lits_of entries)) is (contains_true entries w.first q h)) (contains_true entries (negated denied) next here) in
        kept_replaced clause entries starts next level w l among apart k.second
        (λ p lt h. free (contains_true entries (negated l) p h))
        (λ p lt h. elim (cases_eq p next) [
          | inl e ↦ k.apart (ap (λ (x : Lit). x.var) (is ∙ sym (denied_here w.second (subst (IsTrueAt entries (negated w.second)) e h))))
          | inr ne ↦ let q = k.second_guarded p (omega arith) h in not_true q.0 q.1
        ])

    pub kept_moved : (w m : Watch) → Moves clause vars entries denied w m → IsKept clause entries starts next w → IsKept clause entries starts (next + 1) m
    kept_moved w m h k = elim h.leaves [
      | inl e ↦
          subst (λ o. IsKept clause entries starts (next + 1) (record { first = m.first; second = o })) e.1
          (moved_first w m.first e.0 h.among (subst (λ (o : Lit). m.first.var ≢ o.var) (sym e.1) h.apart) h.not_false k)
      | inr e ↦
          subst (λ o. IsKept clause entries starts (next + 1) (record { first = m.first; second = o })) e.1
          (moved_first (turned w) m.first e.0 h.among (subst (λ (o : Lit). m.first.var ≢ o.var) (sym e.1) h.apart) h.not_false (kept_turned clause entries starts next w k))
    ]

  -- the other one was forced
  pub kept_urged : (w : Watch) (l : Lit) → Leaves denied w l → Contains (lits_of entries) l → IsKept clause entries starts next w → IsKept clause entries starts (next + 1) w
  kept_urged w l leaves h = kept_rests w (rests_from entries denied w l leaves h)
