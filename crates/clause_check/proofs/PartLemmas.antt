-- Clauses that stand one after another between bounds.
use Rattle.std.proofs.Common.{◌≡◌, inl, inr, ◌<◌, ◌≤◌, ◌+◌, ◌-◌, ℕ, zero, suc, List, [], ◌∷◌, ◌++◌, take, drop, get_or, length, arith, sym, ◌∙◌, ap, ap₂, subst, refl}
use Rattle.std.proofs.Math.Seq.{drop-append_seam, take-append_seam}
use Rattle.std.proofs.lemmas.List.{length-append, length-drop, drop-append-le, take-append-le, take_all, length-take-le, take-append-drop}
use Rattle.std.specs.Prelude.{slice_range}
use Rattle.clause_check.specs.declared.literal.Lit.{Lit}
use Rattle.clause_check.specs.Clauses.{IsClause}
use Rattle.clause_check.specs.Parts.{parts, IsCut, IsPopped}

-- what stands between two bounds is the same where more literals follow
pub slice_longer : (xs ys : List Lit) (a b : ℕ) → a ≤ b → b ≤ length xs → slice_range (xs ++ ys) a b ≡ slice_range xs a b
slice_longer xs ys a b le within =
    ap (take (b - a)) (drop-append-le a xs ys (omega arith))
    ∙ take-append-le (b - a) (drop a xs) ys (omega (arith, length-drop a xs))

-- what stands between the end of the first literals and that of all
pub slice_last : (xs ys : List Lit) → slice_range (xs ++ ys) (length xs) (length (xs ++ ys)) ≡ ys
slice_last xs ys = ap (take (length (xs ++ ys) - length xs)) (drop-append_seam xs ys) ∙ take_all (length (xs ++ ys) - length xs) ys (omega (arith, length-append xs ys))

pub bounds_len : (lits : List Lit) (bs : List ℕ) → IsCut lits bs → length bs ≡ length (parts lits bs) + 1
bounds_len lits [] h = absurd h
bounds_len lits (a ∷ []) h = refl
bounds_len lits (a ∷ b ∷ bs) h = omega (arith, bounds_len lits (b ∷ bs) h.2)

pub first_within : (lits : List Lit) (a : ℕ) (bs : List ℕ) → IsCut lits (a ∷ bs) → a ≤ length lits
first_within lits a [] h = omega (arith, h)
first_within lits a (b ∷ bs) h = omega (arith, h.0, first_within lits b bs h.2)

-- the bounds of one clause, and what stands between them
pub record IsPart (lits : List Lit) (bs : List ℕ) (k next : ℕ) : Type 0 where
  pub ordered : get_or bs k 0 ≤ get_or bs next 0
  pub within : get_or bs next 0 ≤ length lits
  pub distinct : IsClause (slice_range lits (get_or bs k 0) (get_or bs next 0))
  pub is : (d : List Lit) → get_or (parts lits bs) k d ≡ slice_range lits (get_or bs k 0) (get_or bs next 0)

pub part_at : (lits : List Lit) (bs : List ℕ) (k next : ℕ) → IsCut lits bs → next ≡ k + 1 → k < length (parts lits bs) → IsPart lits bs k next
part_at lits [] k next h e lt = absurd h
part_at lits (a ∷ []) k next h e lt = absurd (omega arith)
part_at lits (a ∷ b ∷ bs) zero zero h e lt = absurd (omega (arith, e))
part_at lits (a ∷ b ∷ bs) zero (suc zero) h e lt = record { ordered = h.0; within = first_within lits b bs h.2; distinct = h.1; is = λ d. refl }
part_at lits (a ∷ b ∷ bs) zero (suc (suc next)) h e lt = absurd (omega (arith, e))
part_at lits (a ∷ b ∷ bs) (suc k) zero h e lt = absurd (omega (arith, e))
part_at lits (a ∷ b ∷ bs) (suc k) (suc next) h e lt =
    let p = part_at lits (b ∷ bs) k next h.2 (omega (arith, e)) (omega (arith, lt)) in
    record { ordered = p.ordered; within = p.within; distinct = p.distinct; is = p.is }

-- one more clause
pub cut_push : (lits c : List Lit) (bs : List ℕ) → IsCut lits bs → IsClause c → IsCut (lits ++ c) (bs ++ length (lits ++ c) ∷ [])
cut_push lits c [] h d = absurd h
cut_push lits c (a ∷ []) h d = (omega (arith, h, length-append lits c), subst IsClause (sym (ap (λ k. slice_range (lits ++ c) k (length (lits ++ c))) h ∙ slice_last lits c)) d, refl)
cut_push lits c (a ∷ b ∷ bs) h d = (h.0, subst IsClause (sym (slice_longer lits c a b h.0 (first_within lits b bs h.2))) h.1, cut_push lits c (b ∷ bs) h.2 d)

pub parts_push : (lits c : List Lit) (bs : List ℕ) → IsCut lits bs → parts (lits ++ c) (bs ++ length (lits ++ c) ∷ []) ≡ parts lits bs ++ c ∷ []
parts_push lits c [] h = absurd h
parts_push lits c (a ∷ []) h = ap (λ x. x ∷ []) (ap (λ k. slice_range (lits ++ c) k (length (lits ++ c))) h ∙ slice_last lits c)
parts_push lits c (a ∷ b ∷ bs) h = ap₂ (λ x xs. x ∷ xs) (slice_longer lits c a b h.0 (first_within lits b bs h.2)) (parts_push lits c (b ∷ bs) h.2)

-- ---- the last clause taken away

abbrev last_of : ℕ → List ℕ → ℕ
last_of a [] = a
last_of a (b ∷ bs) = last_of b bs

last_is : (a : ℕ) (is : List ℕ) (k : ℕ) → k ≡ length is → get_or (a ∷ is) k 0 ≡ last_of a is
last_is a [] zero e = refl
last_is a [] (suc k) e = absurd (omega (arith, e))
last_is a (b ∷ is) zero e = absurd (omega (arith, e))
last_is a (b ∷ is) (suc k) e = last_is b is k (omega (arith, e))

rises : (lits : List Lit) (a e : ℕ) (is : List ℕ) → IsCut lits (a ∷ (is ++ e ∷ [])) → (a ≤ last_of a is) × (last_of a is ≤ length lits)
rises lits a e [] h = (omega arith, omega (arith, h.0, h.2))
rises lits a e (b ∷ is) h = let r = rises lits b e is h.2 in (omega (arith, h.0, r.0), r.1)

slice_shorter : (lits : List Lit) (a b n : ℕ) → a ≤ b → b ≤ n → n ≤ length lits → slice_range (take n lits) a b ≡ slice_range lits a b
slice_shorter lits a b n ab bn nl =
    sym (slice_longer (take n lits) (drop n lits) a b ab (omega (arith, bn, length-take-le n lits nl)))
    ∙ ap (λ (xs : List Lit). slice_range xs a b) (take-append-drop n lits)

cut_pop : (lits : List Lit) (a e n : ℕ) (is : List ℕ) → IsCut lits (a ∷ (is ++ e ∷ [])) → n ≡ last_of a is → IsCut (take n lits) (a ∷ is)
cut_pop lits a e n [] h en = omega (arith, en, h.0, h.2, length-take-le n lits (omega (arith, en, h.0, h.2)))
cut_pop lits a e n (b ∷ is) h en =
    let r = rises lits b e is h.2 in
    (h.0, subst IsClause (sym (slice_shorter lits a b n h.0 (omega (arith, en, r.0)) (omega (arith, en, r.1)))) h.1, cut_pop lits b e n is h.2 en)

parts_pop : (lits : List Lit) (a e n : ℕ) (is : List ℕ) → IsCut lits (a ∷ (is ++ e ∷ [])) → n ≡ last_of a is → parts lits (a ∷ (is ++ e ∷ [])) ≡ parts (take n lits) (a ∷ is) ++ slice_range lits n e ∷ []
parts_pop lits a e n [] h en = ap (λ k. slice_range lits k e ∷ []) (sym en)
parts_pop lits a e n (b ∷ is) h en =
    let r = rises lits b e is h.2 in
    ap₂ (λ x xs. x ∷ xs) (sym (slice_shorter lits a b n h.0 (omega (arith, en, r.0)) (omega (arith, en, r.1)))) (parts_pop lits b e n is h.2 en)

-- the clauses but the last one
take_all_but : (xs ys : List (List Lit)) (c : List Lit) → xs ≡ ys ++ c ∷ [] → ys ≡ take (length xs - 1) xs
take_all_but xs ys c e =
    sym (ap (λ zs. take (length zs - 1) zs) e ∙ (ap (λ k. take k (ys ++ c ∷ [])) (omega (arith, length-append ys (c ∷ []))) ∙ take-append_seam ys (c ∷ [])))

pub record IsShorter (lits : List Lit) (bs : List ℕ) (left_lits : List Lit) (left : List ℕ) : Type 0 where
  pub cut : IsCut left_lits left
  pub but_last : parts left_lits left ≡ take (length (parts lits bs) - 1) (parts lits bs)

few_parts : (lits : List Lit) (bs : List ℕ) → length bs ≤ 1 → parts lits bs ≡ take (length (parts lits bs) - 1) (parts lits bs)
few_parts lits [] le = refl
few_parts lits (a ∷ []) le = refl
few_parts lits (a ∷ b ∷ bs) le = absurd (omega arith)

popped_init : (lits left_lits : List Lit) (e : ℕ) (left : List ℕ) → IsCut lits (left ++ e ∷ []) → 0 < length left → left_lits ≡ take (get_or left (length left - 1) 0) lits → IsShorter lits (left ++ e ∷ []) left_lits left
popped_init lits left_lits e [] h some is = absurd (omega arith)
popped_init lits left_lits e (a ∷ ns) h some is =
    let at : get_or (a ∷ ns) (length (a ∷ ns) - 1) 0 ≡ last_of a ns = last_is a ns (length (a ∷ ns) - 1) (omega arith) in
    let n : ℕ = get_or (a ∷ ns) (length (a ∷ ns) - 1) 0 in
    record {
      cut = subst (λ (xs : List Lit). IsCut xs (a ∷ ns)) (sym is) (cut_pop lits a e n ns h at);
      but_last = ap (λ (xs : List Lit). parts xs (a ∷ ns)) is ∙ take_all_but (parts lits (a ∷ (ns ++ e ∷ []))) (parts (take n lits) (a ∷ ns)) (slice_range lits n e) (parts_pop lits a e n ns h at);
    }

pub popped_parts : (lits left_lits : List Lit) (bs left : List ℕ) → IsCut lits bs → IsPopped lits bs left_lits left → IsShorter lits bs left_lits left
popped_parts lits left_lits bs left h (inl p) = record {
  cut = subst (λ (xs : List Lit). IsCut xs left) (sym p.1) (subst (IsCut lits) (sym p.2) h);
  but_last = ap₂ parts p.1 p.2 ∙ few_parts lits bs p.0;
}
popped_parts lits left_lits bs left h (inr p) =
    subst (λ (cs : List ℕ). IsShorter lits cs left_lits left) (sym p.1) (popped_init lits left_lits p.0 left (subst (IsCut lits) p.1 h) p.2 p.3)
