use Rattle.std.proofs.Common.{◌≡◌, ◌≢◌, ◌<◌, ◌+◌, ◌≤◌, ℕ, List, [], ◌∷◌, ◌++◌, take, None, get_or, arith, sym, ◌∙◌, ap, subst, length, Contains, inl, inr, ◌⊎◌, length-take}
use Rattle.std.proofs.lemmas.Bool.{cases_lt, cases_eq}
use Rattle.std.proofs.lemmas.List.{get_or-take, get_or_append_left, get_or_push, length_push}
use Rattle.clause_check.specs.declared.literal.Lit.{Lit}
use Rattle.clause_check.specs.Clauses.{negated}
use Rattle.cdcl.specs.declared.trail.Entry.{Entry}
use Rattle.cdcl.specs.Closed.{Avoids, IsMet}
use Rattle.cdcl.specs.Trails.{lits_of}
use Rattle.cdcl.specs.Marking.{IsRising}
use Rattle.cdcl.specs.declared.watches.Watch.{Watch}
use Rattle.cdcl.specs.Watching.{IsTrueAt, IsNoHigher, IsGuarded, IsKept}
use Rattle.cdcl.proofs.TrailLemmas.{contains_at, place_of_lit}

pub contains_true : (entries : List Entry) (l : Lit) (q : ℕ) → IsTrueAt entries l q → Contains (lits_of entries) l
contains_true entries l q h = let z : Entry = record { lit = l; reason = None } in subst (Contains (lits_of entries)) (h.is z) (contains_at entries q z h.within)

pub true_at : (entries : List Entry) (l : Lit) → Contains (lits_of entries) l → (q : ℕ) × IsTrueAt entries l q
true_at entries l h = let p = place_of_lit entries l h in (p.0, record { within = p.1; is = p.2 })

-- true, false or open: whether a literal stands in a trail is decided by the value of its variable
abbrev pub Cases : List Entry → Lit → Type 0
Cases entries l = Contains (lits_of entries) l ⊎ (Contains (lits_of entries) (negated l) ⊎ Avoids (lits_of entries) l)

-- Where each place was propagated, a clause that is kept is met: so propagation is complete.
pub met_from_kept : (clause : List Lit) (entries : List Entry) (starts : List ℕ) (w : Watch) → Cases entries w.first → Cases entries w.second → IsKept clause entries starts (length entries) w → IsMet (lits_of entries) clause
met_from_kept clause entries starts w c d (inr s) = inl (s.0, s.1, contains_true entries s.0 (s.2).0 (s.2).1)
met_from_kept clause entries starts w (inl t) d (inl k) = inl (w.first, k.first, t)
met_from_kept clause entries starts w (inr (inl f)) d (inl k) =
    let p = true_at entries (negated w.first) f in let at = p.1 in
    let q = k.first_guarded p.0 at.within at in
    inl (w.second, k.second, contains_true entries w.second q.0 q.1)
met_from_kept clause entries starts w (inr (inr a)) (inl t) (inl k) = inl (w.second, k.second, t)
met_from_kept clause entries starts w (inr (inr a)) (inr (inl f)) (inl k) =
    let p = true_at entries (negated w.second) f in let at = p.1 in
    let q = k.second_guarded p.0 at.within at in
    inl (w.first, k.first, contains_true entries w.first q.0 q.1)
met_from_kept clause entries starts w (inr (inr a)) (inr (inr b)) (inl k) =
    inr (w.first, w.second, record { first = k.first; second = k.second; apart = k.apart; first_avoided = a; second_avoided = b })

-- a jump back to where a level begins keeps it, with each place that is left propagated
module _ (clause : List Lit) (entries : List Entry) (starts : List ℕ) (rising : IsRising starts) (keep : ℕ) (few : keep < length starts) where
  abbrev t : ℕ
  t = get_or starts keep 0

  abbrev front : List Entry
  front = take t entries

  true_in_whole : (l : Lit) (p : ℕ) → IsTrueAt front l p → IsTrueAt entries l p
  true_in_whole l p h =
      let lt : p < t = let w = h.within in omega (arith, length-take t entries) in
      record { within = let w = h.within in omega (arith, length-take t entries); is = λ d. ap (λ (e : Entry). e.lit) (sym (get_or-take t entries p d lt)) ∙ h.is d }

  true_in_front : (l : Lit) (q : ℕ) → q < t → IsTrueAt entries l q → IsTrueAt front l q
  true_in_front l q lt h = record { within = let w = h.within in omega (arith, length-take t entries); is = λ d. ap (λ (e : Entry). e.lit) (get_or-take t entries q d lt) ∙ h.is d }

  start_in_front : (i : ℕ) → i < length (take keep starts) → (i < length starts) × (get_or (take keep starts) i 0 ≡ get_or starts i 0)
  start_in_front i lt = (omega (arith, length-take keep starts), get_or-take keep starts i 0 (omega (arith, length-take keep starts)))

  guarded_cut : (next : ℕ) → t ≤ next → (l m : Lit) → IsGuarded entries starts next l m → IsGuarded front (take keep starts) t l m
  guarded_cut next le l m g p lt h =
      let q = g p (omega arith) (true_in_whole (negated l) p h) in
      -- the partner isn't past t, since its level is no higher
      let early : q.0 < t = elim (cases_lt q.0 t) [ inl e ↦ e | inr late ↦ let no_higher = q.2 keep few late in absurd (omega arith) ] in (
        q.0,
        true_in_front m q.0 early q.1,
        λ i inside s.
            let x = start_in_front i inside in
            let r = q.2 i x.0 (omega (arith, x.1)) in
            omega (arith, x.1),
      )

  pub kept_cut : (next : ℕ) → t ≤ next → (w : Watch) → IsKept clause entries starts next w → IsKept clause front (take keep starts) t w
  kept_cut next le w (inl k) =
      inl (record { first = k.first; second = k.second; apart = k.apart; first_guarded = guarded_cut next le w.first w.second k.first_guarded; second_guarded = guarded_cut next le w.second w.first k.second_guarded })
  kept_cut next le w (inr s) =
      let q = s.2 in
      inr (s.0, s.1, (q.0, true_in_front s.0 q.0 (q.2 keep few) q.1, λ i inside. let x = start_in_front i inside in let r = q.2 i x.0 in omega (arith, x.1)))

-- one more literal is true, in the same level or as the first of a new one
module _ (clause : List Lit) (entries : List Entry) (e : Entry) where
  abbrev after : List Entry
  after = entries ++ e ∷ []

  pub true_still : (l : Lit) (q : ℕ) → IsTrueAt entries l q → IsTrueAt after l q
  true_still l q h = let w = h.within in record { within = omega (arith, length_push entries e); is = λ d. ap (λ (x : Entry). x.lit) (get_or_append_left entries (e ∷ []) d q w) ∙ h.is d }

  true_before : (l : Lit) (p : ℕ) → p < length entries → IsTrueAt after l p → IsTrueAt entries l p
  true_before l p lt h = record { within = lt; is = λ d. ap (λ (x : Entry). x.lit) (sym (get_or_append_left entries (e ∷ []) d p lt)) ∙ h.is d }

  guarded_push : (starts starts' : List ℕ) (next : ℕ) → next ≤ length entries → ((q p : ℕ) → q < length entries → IsNoHigher starts q p → IsNoHigher starts' q p) → (l m : Lit) → IsGuarded entries starts next l m → IsGuarded after starts' next l m
  guarded_push starts starts' next le levels l m g p lt h =
      let q = g p lt (true_before (negated l) p (omega arith) h) in
      (q.0, true_still m q.0 q.1, levels q.0 p (q.1).within q.2)

  -- a forced literal
  pub kept_assigned : (starts : List ℕ) (next : ℕ) → next ≤ length entries → (w : Watch) → IsKept clause entries starts next w → IsKept clause after starts next w
  kept_assigned starts next le w (inl k) =
      inl (record { first = k.first; second = k.second; apart = k.apart; first_guarded = guarded_push starts starts next le (λ q p lt h. h) w.first w.second k.first_guarded; second_guarded = guarded_push starts starts next le (λ q p lt h. h) w.second w.first k.second_guarded })
  kept_assigned starts next le w (inr s) = let q = s.2 in inr (s.0, s.1, (q.0, true_still s.0 q.0 q.1, q.2))

  -- a chosen one
  new_level : (starts : List ℕ) (q p : ℕ) → q < length entries → IsNoHigher starts q p → IsNoHigher (starts ++ length entries ∷ []) q p
  new_level starts q p lt h i inside le = elim (cases_eq i (length starts)) [
    | inl same ↦ absurd (omega (arith, get_or_push starts (length entries) 0 i (sym same)))
    | inr ne ↦
        let below : i < length starts = omega (arith, length_push starts (length entries)) in
        let at = get_or_append_left starts (length entries ∷ []) 0 i below in
        let r = h i below (omega (arith, at)) in
        omega (arith, at)
  ]

  pub kept_decided : (starts : List ℕ) (next : ℕ) → next ≤ length entries → (w : Watch) → IsKept clause entries starts next w → IsKept clause after (starts ++ length entries ∷ []) next w
  kept_decided starts next le w (inl k) =
      inl (record { first = k.first; second = k.second; apart = k.apart; first_guarded = guarded_push starts (starts ++ length entries ∷ []) next le (new_level starts) w.first w.second k.first_guarded; second_guarded = guarded_push starts (starts ++ length entries ∷ []) next le (new_level starts) w.second w.first k.second_guarded })
  kept_decided starts next le w (inr s) =
      let q = s.2 in let inside = (q.1).within in
      inr (
        s.0,
        s.1,
        (
          q.0,
          true_still s.0 q.0 q.1,
          λ i lt. elim (cases_eq i (length starts)) [
            | inl same ↦ omega (arith, get_or_push starts (length entries) 0 i (sym same))
            | inr ne ↦
                let below : i < length starts = omega (arith, length_push starts (length entries)) in
                let r = q.2 i below in
                omega (arith, get_or_append_left starts (length entries ∷ []) 0 i below)
          ],
        ),
      )

-- one more place is propagated: its literal is the negation of no watched literal, or of one whose partner is true
module _ (clause : List Lit) (entries : List Entry) (starts : List ℕ) (next : ℕ) (level : (i : ℕ) → i < length starts → get_or starts i 0 ≤ next) where
  guarded_next : (l m : Lit) → ((IsTrueAt entries (negated l) next → (q : ℕ) × IsTrueAt entries m q)) → IsGuarded entries starts next l m → IsGuarded entries starts (next + 1) l m
  guarded_next l m here g p lt h = elim (cases_eq p next) [
    | inl e ↦ let q = here (subst (IsTrueAt entries (negated l)) e h) in (q.0, q.1, λ i inside s. let le = level i inside in omega arith)
    | inr ne ↦ g p (omega arith) h
  ]

  pub kept_next : (w : Watch) → (IsTrueAt entries (negated w.first) next → (q : ℕ) × IsTrueAt entries w.second q) → (IsTrueAt entries (negated w.second) next → (q : ℕ) × IsTrueAt entries w.first q) → IsKept clause entries starts next w → IsKept clause entries starts (next + 1) w
  kept_next w f s (inl k) =
      inl (record { first = k.first; second = k.second; apart = k.apart; first_guarded = guarded_next w.first w.second f k.first_guarded; second_guarded = guarded_next w.second w.first s k.second_guarded })
  kept_next w f s (inr settled) = inr settled

  -- the first watched literal is replaced by one that isn't false at a place so far, and the second isn't false there either
  pub kept_replaced : (w : Watch) (l : Lit) → Contains clause l → l.var ≢ w.second.var → Contains clause w.second → ((p : ℕ) → p < next + 1 → IsTrueAt entries (negated l) p → ⊥) → ((p : ℕ) → p < next + 1 → IsTrueAt entries (negated w.second) p → ⊥) → IsKept clause entries starts (next + 1) (record { first = l; second = w.second })
  kept_replaced w l among apart second free other =
      inl (record { first = among; second = second; apart = apart; first_guarded = λ p lt h. absurd (free p lt h); second_guarded = λ p lt h. absurd (other p lt h) })

-- a learnt clause is watched by its open literal, which is made true, and by the one that is false at the last place before the bound
pub kept_learnt : (clause : List Lit) (entries : List Entry) (starts : List ℕ) (next : ℕ) (w : Watch) (b : ℕ) → Contains clause w.first → Contains clause w.second → w.first.var ≢ w.second.var → IsTrueAt entries w.first next → IsTrueAt entries (negated w.second) b → ((p : ℕ) → IsTrueAt entries (negated w.second) p → p ≡ b) → ((p : ℕ) → IsTrueAt entries (negated w.first) p → ⊥) → ((i : ℕ) → i < length starts → get_or starts i 0 ≤ b) → IsKept clause entries starts next w
kept_learnt clause entries starts next w b first second apart here denied one free level =
    inl (record {
      first = first;
      second = second;
      apart = apart;
      first_guarded = λ p lt h. absurd (free p h);
      second_guarded = λ p lt h. (next, here, λ i inside s. subst (λ n. get_or starts i 0 ≤ n) (sym (one p h)) (level i inside));
    })
