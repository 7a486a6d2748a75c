use Rattle.std.proofs.Common.{◌≡◌, ◌<◌, ◌+◌, ◌-◌, ◌≤◌, ℕ, Bool, true, false, List, [], ◌∷◌, ◌++◌, take, drop, set, get_or, arith, sym, ◌∙◌, ap, subst, length, inl, inr, ◌⊎◌, Contains, cond, length-drop}
use Rattle.std.specs.List.{sum_by}
use Rattle.std.proofs.lemmas.Bool.{cases_eq}
use Rattle.std.proofs.lemmas.List.{get_or-set_same, get_or-set_other, get_or-drop, drop-set-add, take_more}
use Rattle.std.proofs.lemmas.List.Elements.{Contains-push, Contains-push_cases, Contains-append_left}
use Rattle.std.proofs.lemmas.List.Sums.{sum_by-set}
use Rattle.clause_check.specs.declared.literal.Lit.{Lit}
use Rattle.cdcl.specs.declared.trail.Entry.{Entry}
use Rattle.cdcl.specs.Trails.{IsPlaceOf}
use Rattle.cdcl.specs.Marking.{IsSeen, Marks, open_count}

abbrev pub bit : Bool → ℕ
bit b = cond b 1 0

-- how the count changes at a write
pub count_set : (seen : List Bool) (start place : ℕ) (b : Bool) → start ≤ place → place < length seen → open_count start (set seen place b) + bit (get_or seen place false) ≡ open_count start seen + bit b
count_set seen start place b le lt =
    let i = place - start in
    let at : place ≡ start + i = omega arith in
    let moved : drop start (set seen place b) ≡ set (drop start seen) i b = ap (λ p. drop start (set seen p b)) at ∙ drop-set-add start seen i b in
    let was : get_or (drop start seen) i false ≡ get_or seen place false = get_or-drop start seen i false ∙ ap (λ p. get_or seen p false) (sym at) in
    let sum = sum_by-set bit (drop start seen) i b false (omega (arith, length-drop start seen)) in
    ap (λ n. n + bit (get_or seen place false)) (ap (sum_by bit) moved) ∙ (ap (λ x. sum_by bit (set (drop start seen) i b) + bit x) (sym was) ∙ sum)

-- a write before start changes no count
seen_after : (seen : List Bool) (p q : ℕ) → p < length seen → IsSeen seen q → IsSeen (set seen p true) q
seen_after seen p q lt h = elim (cases_eq q p) [
  | inl e ↦ ap (λ r. get_or (set seen p true) r false) e ∙ get_or-set_same seen p true false lt
  | inr ne ↦ get_or-set_other seen p q true false ne ∙ h
]

-- one more literal's place is seen
module _ (entries : List Entry) (clause : List Lit) (i : ℕ) (z : Lit) (lt : i < length clause) (old seen : List Bool) (p : ℕ) (within : p < length seen) (at : IsPlaceOf entries (get_or clause i z).var p) (one : (q : ℕ) → IsPlaceOf entries (get_or clause i z).var q → q ≡ p) (was : Marks entries (take i clause) old seen) where
  abbrev here : Lit
  here = get_or clause i z

  marked_more : (l : Lit) (q : ℕ) → Contains (take i clause ++ here ∷ []) l → IsPlaceOf entries l.var q → IsSeen (set seen p true) q
  marked_more l q h k = elim (Contains-push_cases (take i clause) here l h) [
    | inl c ↦ seen_after seen p q within (was.marked l q c k)
    | inr e ↦
        let same : q ≡ p = one q (subst (λ (m : Lit). IsPlaceOf entries m.var q) (sym e) k) in
        ap (λ r. get_or (set seen p true) r false) same ∙ get_or-set_same seen p true false within
  ]

  only_more : (q : ℕ) → IsSeen (set seen p true) q → IsSeen old q ⊎ ((l : Lit) × Contains (take i clause ++ here ∷ []) l × IsPlaceOf entries l.var q)
  only_more q h = elim (cases_eq q p) [
    | inl e ↦ inr (here, Contains-push (take i clause) here, subst (IsPlaceOf entries here.var) (sym e) at)
    | inr ne ↦ elim (was.only q (sym (get_or-set_other seen p q true false ne) ∙ h)) [
      | inl s ↦ inl s
      | inr m ↦ inr (m.0, Contains-append_left (take i clause) (here ∷ []) m.0 m.1, m.2)
    ]
  ]

  pub marks_more : Marks entries (take (i + 1) clause) old (set seen p true)
  marks_more = rw (take_more clause i z lt) (record { kept = λ q h. seen_after seen p q within (was.kept q h); marked = marked_more; only = only_more })
