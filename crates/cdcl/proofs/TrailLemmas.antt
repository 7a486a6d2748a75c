use Rattle.std.proofs.Common.{◌≡◌, ◌≢◌, ◌<◌, ℕ, Bool, true, false, not, List, [], ◌∷◌, ◌++◌, set, Option, Some, None, get_or, arith, sym, ◌∙◌, ap, subst, refl, length, inl, inr, ◌⊎◌, Contains, All, cond, length-set}
use Rattle.std.specs.Option.{is_none}
use Rattle.std.proofs.lemmas.Bool.{cases_eq}
use Rattle.std.proofs.lemmas.List.{get_or-set_same, get_or-set_other, get_or_default, get_or_append_left, get_or_push, length_push, map_push, get_or-map, length-map}
use Rattle.std.proofs.lemmas.List.Elements.{All-push, All-pop, Contains-push_cases, Contains-push, Contains-append_left}
use Rattle.std.proofs.lemmas.List.Sums.{sum_by-set}
use Rattle.clause_check.specs.declared.literal.Lit.{Lit}
use Rattle.clause_check.specs.Clauses.{negated}
use Rattle.clause_check.specs.Looks.{value_of, IsFreeIn, Shows}
use Rattle.clause_check.proofs.Members.{Adds, adds_push, negated-negated}
use Rattle.clause_check.proofs.RefuteLemmas.{same_bools, free_or_true, free_or_false}
use Rattle.clause_check.proofs.ValueLemmas.{shows_more, none_from}
use Rattle.cdcl.specs.declared.trail.Entry.{Entry}
use Rattle.cdcl.specs.Closed.{Avoids}
use Rattle.cdcl.specs.Trails.{lits_of, IsTrail, IsPlaceOf, Agrees}

abbrev weight : Option Bool → ℕ
weight o = cond (is_none o) 1 0

pub other_bool : (a b : Bool) → (a ≡ b → ⊥) → a ≡ not b
other_bool true true h = absurd (h refl)
other_bool true false h = refl
other_bool false true h = refl
other_bool false false h = absurd (h refl)

-- a literal of the same variable is the literal or its negation
pub same_var : (l m : Lit) → l.var ≡ m.var → (l ≡ m) ⊎ (l ≡ negated m)
same_var l m e = elim (same_bools l.negative m.negative) [
  | inl n ↦ inl (ap (λ v. record { var = v; negative = l.negative }) e ∙ ap (λ b. record { var = m.var; negative = b }) n)
  | inr ne ↦ inr (ap (λ v. record { var = v; negative = l.negative }) e ∙ ap (λ b. record { var = m.var; negative = b }) (other_bool l.negative m.negative ne))
]

-- no literal of the set is of that variable
pub avoids_var : (set : List Lit) (l m : Lit) → Avoids set l → Contains set m → m.var ≡ l.var → ⊥
avoids_var set l m a h e = elim (same_var m l e) [ inl i ↦ a.itself (subst (Contains set) i h) | inr i ↦ a.negation (subst (Contains set) i h) ]

pub avoids_from_vars : (set : List Lit) (l : Lit) → ((m : Lit) → Contains set m → m.var ≡ l.var → ⊥) → Avoids set l
avoids_from_vars set l f = record { itself = λ h. f l h refl; negation = λ h. f (negated l) h refl }

pub avoids_from_free : (values : List (Option Bool)) (set : List Lit) (l : Lit) → Shows values set → IsFreeIn values l → Avoids set l
avoids_from_free values set l shows free = record { itself = free_or_true values set shows l free; negation = free_or_false values set shows l free }

pub free_from_avoids : (values : List (Option Bool)) (set : List Lit) (l : Lit) → Shows values set → Avoids set l → IsFreeIn values l
free_from_avoids values set l shows a = none_from _ (λ b h. avoids_var set l _ a ((shows l.var b).0 h) refl)

-- the literal at a place of a trail
pub contains_at : (entries : List Entry) (p : ℕ) (d : Entry) → p < length entries → Contains (lits_of entries) (get_or entries p d).lit
contains_at entries p d lt =
    let e = get_or entries p d in
    (p, rw length-map lt, get_or-map (λ (x : Entry). x.lit) entries p d e.lit lt)

-- the place of a literal of a trail
pub place_of_lit : (entries : List Entry) (l : Lit) → Contains (lits_of entries) l → (p : ℕ) × (p < length entries) × ((d : Entry) → (get_or entries p d).lit ≡ l)
place_of_lit entries l h =
    let lt : h.0 < length entries = rw length-map at h.1 in
    (h.0, lt, λ d. sym (get_or-map (λ (x : Entry). x.lit) entries h.0 d l lt) ∙ h.2)

module _ (values : List (Option Bool)) (places : List ℕ) (entries : List Entry) (a : Agrees values places entries) where
  pub value_from_place : (v p : ℕ) → IsPlaceOf entries v p → get_or places v 0 ≡ p
  value_from_place v p h =
      let d : Entry = record { lit = record { var = 0; negative = false }; reason = None } in
      ap (λ w. get_or places w 0) (sym (h.is d)) ∙ a.placed p d h.within

  pub var_within : (v p : ℕ) → IsPlaceOf entries v p → v < length values
  var_within v p h =
      let d : Entry = record { lit = record { var = 0; negative = false }; reason = None } in
      subst (λ w. w < length values) (h.is d) (a.in_range p d h.within)

  pub one_place : (v p q : ℕ) → IsPlaceOf entries v p → IsPlaceOf entries v q → p ≡ q
  one_place v p q h k = sym (value_from_place v p h) ∙ value_from_place v q k

  module _ (lit : Lit) (reason : Option ℕ) (lt : lit.var < length values) (free : Avoids (lits_of entries) lit) where
    abbrev new : Entry
    new = record { lit = lit; reason = reason }

    abbrev after : List Entry
    after = entries ++ new ∷ []

    pub adds_lit : Adds (lits_of entries) lit (lits_of after)
    adds_lit = subst (λ ls. Adds (lits_of entries) lit ls) (sym (map_push (λ (x : Entry). x.lit) entries new)) (adds_push (lits_of entries) lit)

    pushed_place : (p : ℕ) (d : Entry) → p < length after → get_or (set places lit.var (length entries)) (get_or after p d).lit.var 0 ≡ p
    pushed_place p d within = elim (cases_eq p (length entries)) [
      | inl e ↦
          let at : get_or after p d ≡ new = get_or_push entries new d p (sym e) in
          ap (λ (x : Entry). get_or (set places lit.var (length entries)) x.lit.var 0) at ∙ (get_or-set_same places lit.var (length entries) 0 (omega (arith, a.same_len)) ∙ sym e)
      | inr ne ↦
          let below : p < length entries = omega (arith, length_push entries new) in
          let at : get_or after p d ≡ get_or entries p d = get_or_append_left entries (new ∷ []) d p below in
          let other : (get_or entries p d).lit.var ≢ lit.var = avoids_var (lits_of entries) lit (get_or entries p d).lit free (contains_at entries p d below) in
          ap (λ (x : Entry). get_or (set places lit.var (length entries)) x.lit.var 0) at ∙ (get_or-set_other places lit.var (get_or entries p d).lit.var (length entries) 0 other ∙ a.placed p d below)
    ]

    pub agrees_pushed : Agrees (set values lit.var (Some (not lit.negative))) (set places lit.var (length entries)) after
    agrees_pushed =
        let was : get_or values lit.var None ≡ None = free_from_avoids values (lits_of entries) lit a.shows free in
        let sum = sum_by-set weight values lit.var (Some (not lit.negative)) None lt in
        let one : weight (get_or values lit.var None) ≡ 1 = ap weight was in
        record {
          same_len = length-set places lit.var (length entries) ∙ (a.same_len ∙ sym (length-set values lit.var (Some (not lit.negative))));
          shows = shows_more values (lits_of entries) (lits_of after) lit (not lit.negative) refl lt was a.shows adds_lit;
          in_range = subst (λ n. All (λ (e : Entry). e.lit.var < n) after) (sym (length-set values lit.var (Some (not lit.negative)))) (All-push (λ (e : Entry). e.lit.var < length values) entries new a.in_range lt);
          placed = pushed_place;
          counted = omega (arith, sum, one, a.counted, length_push entries new, length-set values lit.var (Some (not lit.negative)));
        }

-- the last entry goes
module _ (values : List (Option Bool)) (places : List ℕ) (front : List Entry) (e : Entry) (a : Agrees values places (front ++ e ∷ [])) where
  abbrev whole : List Entry
  whole = front ++ e ∷ []

  last_place : IsPlaceOf whole e.lit.var (length front)
  last_place = record { within = omega (arith, length_push front e); is = λ d. ap (λ (x : Entry). x.lit.var) (get_or_push front e d (length front) refl) }

  front_place : (v p : ℕ) → IsPlaceOf front v p → IsPlaceOf whole v p
  front_place v p h = record { within = let w = h.within in omega (arith, length_push front e); is = λ d. ap (λ (x : Entry). x.lit.var) (get_or_append_left front (e ∷ []) d p h.within) ∙ h.is d }

  other_var : (m : Lit) → Contains (lits_of front) m → m.var ≡ e.lit.var → ⊥
  other_var m h same =
      let p = place_of_lit front m h in
      let at : IsPlaceOf front e.lit.var p.0 = record { within = p.1; is = λ d. ap (λ (x : Lit). x.var) (p.2 d) ∙ same } in
      let eq : p.0 ≡ length front = one_place values places whole a e.lit.var p.0 (length front) (front_place e.lit.var p.0 at) last_place in
      omega (arith, p.1)

  lits_whole : lits_of whole ≡ lits_of front ++ e.lit ∷ []
  lits_whole = map_push (λ (x : Entry). x.lit) front e

  lt : e.lit.var < length values
  lt = (All-pop (λ (x : Entry). x.lit.var < length values) whole front (Some e) refl a.in_range).1

  shows_front : Shows (set values e.lit.var None) (lits_of front)
  shows_front v b = (
    λ h. elim (cases_eq v e.lit.var) [
      | inl i ↦ let gone : None ≡ Some b = sym (get_or-set_same values e.lit.var None None lt) ∙ (ap (value_of (set values e.lit.var None)) (sym i) ∙ h) in cc
      | inr ne ↦
          let was : value_of values v ≡ Some b = sym (get_or-set_other values e.lit.var v None None ne) ∙ h in
          elim (Contains-push_cases (lits_of front) e.lit (record { var = v; negative = not b }) (subst (λ ls. Contains ls (record { var = v; negative = not b })) lits_whole ((a.shows v b).0 was))) [
            | inl k ↦ k
            | inr i ↦ absurd (ne (sym (ap (λ (x : Lit). x.var) i)))
          ]
    ],
    λ h.
        let ne : v ≢ e.lit.var = other_var (record { var = v; negative = not b }) h in
        get_or-set_other values e.lit.var v None None ne ∙ (a.shows v b).1 (subst (λ ls. Contains ls (record { var = v; negative = not b })) (sym lits_whole) (Contains-append_left (lits_of front) (e.lit ∷ []) _ h)),
  )

  pub agrees_popped : Agrees (set values e.lit.var None) places front
  agrees_popped =
      let at : value_of values e.lit.var ≡ Some (not e.lit.negative) =
      (a.shows e.lit.var (not e.lit.negative)).1 (subst (Contains (lits_of whole)) (sym (negated-negated e.lit)) (subst (λ ls. Contains ls e.lit) (sym lits_whole) (Contains-push (lits_of front) e.lit))) in
      let sum = sum_by-set weight values e.lit.var None None lt in
      let zero' : weight (get_or values e.lit.var None) ≡ 0 = ap weight at in
      record {
        same_len = a.same_len ∙ sym (length-set values e.lit.var None);
        shows = shows_front;
        in_range = subst (λ n. All (λ (x : Entry). x.lit.var < n) front) (sym (length-set values e.lit.var None)) ((All-pop (λ (x : Entry). x.lit.var < length values) whole front (Some e) refl a.in_range).0);
        placed = λ p d w. ap (λ (x : Entry). get_or places x.lit.var 0) (sym (get_or_append_left front (e ∷ []) d p w)) ∙ a.placed p d (omega (arith, length_push front e));
        counted = omega (arith, sum, zero', a.counted, length_push front e, length-set values e.lit.var None);
      }

-- what contracts say of a trail
pub trail_from_agrees : (values : List (Option Bool)) (places : List ℕ) (entries : List Entry) → Agrees values places entries → IsTrail (length values) entries
trail_from_agrees values places entries a =
    record {
      in_range = a.in_range;
      distinct = λ i j d lt inside e.
          let i_at : IsPlaceOf entries (get_or entries i d).lit.var i = record { within = omega arith; is = λ x. ap (λ (y : Entry). y.lit.var) (get_or_default entries i x d (omega arith)) } in
          let j_at : IsPlaceOf entries (get_or entries i d).lit.var j = record { within = inside; is = λ x. ap (λ (y : Entry). y.lit.var) (get_or_default entries j x d inside) ∙ sym e } in
          let same : i ≡ j = one_place values places entries a (get_or entries i d).lit.var i j i_at j_at in
          omega arith;
      few = omega (arith, a.counted);
    }
