-- The walk along a stack.
use Rattle.std.proofs.Common.{ℕ, suc, ◌≡◌, ◌+◌, ◌≤◌, ◌<◌, List, [], ◌∷◌, ◌++◌, length, take, drop, add-one, length-append, Option, Some, ◌⊎◌, inl, inr, ⊎_elim, refl, sym, ap, subst, ◌∙◌, arith, get_or}
use Rattle.std.specs.Prelude.{reverse}
use Rattle.std.specs.List.{slice_get}
use Rattle.std.proofs.lemmas.List.{reverse-append, take-append-le}
use Rattle.std.proofs.lemmas.Option.{slice_get_within}
use Rattle.std.proofs.Math.Seq.{drop-cons, take-append_seam}
use Rattle.elab_flat_graphs.specs.Walks.{targets_of, follow, walk_end, IsCycle}
use Rattle.elab_flat_graphs.specs.Search.{Has, IsAt, Leads, edge_of}

cut : {X : Type 0} (xs : List X) (i : ℕ) (x : X) → i < length xs → x ≡ get_or xs i x → drop i xs ≡ x ∷ drop (suc i) xs
cut xs i x lt is = drop-cons xs i x lt ∙ ap (λ z. z ∷ drop (suc i) xs) (sym is)

pub walk-append : (g : List (List ℕ)) (o : Option ℕ) (xs ys : List ℕ) → walk_end g o (xs ++ ys) ≡ walk_end g (walk_end g o xs) ys
walk-append g o [] ys = refl
walk-append g o (i ∷ xs) ys = walk-append g (follow g o i) xs ys

-- from `o` the nodes of a list lead one to the next by their edges, and the last one to t
abbrev pub IsWalk : List (List ℕ) → List ℕ → Option ℕ → ℕ → List ℕ → Type 0
IsWalk g left o t [] = o ≡ Some t
IsWalk g left o t (x ∷ xs) = (o ≡ Some x) × (x < length g) × (get_or left x 0 ≤ length (targets_of g x)) × IsWalk g left (follow g o (edge_of g left x)) t xs

module _ (g : List (List ℕ)) (start : ℕ) (left order : List ℕ) where
  -- one more node at the end
  pub one_more : (x t : ℕ) → x < length g → get_or left x 0 ≤ length (targets_of g x) → slice_get (targets_of g x) (edge_of g left x) ≡ Some t →
      (o : Option ℕ) (xs : List ℕ) → IsWalk g left o x xs → IsWalk g left o t (xs ++ x ∷ [])
  one_more x t lt few is o [] h = (h, lt, few, ap (λ p. follow g p (edge_of g left x)) h ∙ is)
  one_more x t lt few is o (y ∷ xs) h = (h.0, h.1, h.2, one_more x t lt few is (follow g o (edge_of g left y)) xs h.3)

  edge_is : (x e : ℕ) → IsAt g left order x e → e < length (targets_of g x) → (e ≡ edge_of g left x) × (get_or left x 0 ≤ length (targets_of g x))
  edge_is x e a lt = let turns = a.turns in (omega arith, omega arith)

  pub leads_walk : (t : ℕ) (rest : List ℕ) → ((x : ℕ) → Has rest x → x < length g) → Leads g start left order t rest → IsWalk g left (Some start) t (reverse rest)
  leads_walk t [] within h = ap Some (sym h)
  leads_walk t (x ∷ rest) within h =
      let e = h.0.0 in
      let lt : e < length (targets_of g x) = slice_get_within (targets_of g x) e t h.0.2 in
      let r = edge_is x e h.0.1 lt in
      let is : slice_get (targets_of g x) (edge_of g left x) ≡ Some t = ap (slice_get (targets_of g x)) (sym r.0) ∙ h.0.2 in
      subst (IsWalk g left (Some start) t) (sym (reverse-append (x ∷ []) rest))
      (one_more x t (within x (inl refl)) r.1 is (Some start) (reverse rest) (leads_walk x rest (λ y m. within y (inr m)) h.1))

-- the walk has been at t, or t is still to come
abbrev pub IsMet : List (List ℕ) → ℕ → List ℕ → ℕ → ℕ → List ℕ → Type 0
IsMet g start walk back t rest = Has rest t ⊎ ((back < length walk) × (walk_end g (Some start) (take back walk) ≡ Some t))

module _ (g : List (List ℕ)) (start t : ℕ) (left nodes : List ℕ) (i x : ℕ) (lt : i < length nodes) (is : x ≡ get_or nodes i x) (walk : List ℕ)
    (rest : IsWalk g left (walk_end g (Some start) walk) t (drop i nodes)) where
  here : IsWalk g left (walk_end g (Some start) walk) t (x ∷ drop (suc i) nodes)
  here = subst (IsWalk g left (walk_end g (Some start) walk) t) (cut nodes i x lt is) rest

  pub is_node : x < length g
  is_node = here.1

  pub few_left : get_or left x 0 ≤ length (targets_of g x)
  few_left = here.2

  pub next_rest : (e : ℕ) (walk' : List ℕ) → e ≡ edge_of g left x → walk' ≡ walk ++ e ∷ [] → IsWalk g left (walk_end g (Some start) walk') t (drop (i + 1) nodes)
  next_rest e walk' e_is grown =
      rw (add-one, grown, walk-append) (subst (λ k. IsWalk g left (follow g (walk_end g (Some start) walk) k) t (drop (suc i) nodes)) (sym e_is) here.3)

  pub met_here : (e : ℕ) (walk' : List ℕ) (back : ℕ) → x ≡ t → back ≡ length walk → walk' ≡ walk ++ e ∷ [] → IsMet g start walk' back t (drop (i + 1) nodes)
  met_here e walk' back same at grown = inr (
    omega (arith, ap length grown, length-append walk (e ∷ [])),
    ap (walk_end g (Some start)) (ap (take back) grown ∙ (ap (λ n. take n (walk ++ e ∷ [])) at ∙ take-append_seam walk (e ∷ []))) ∙ (here.0 ∙ ap Some same),
  )

  pub met_later : (e : ℕ) (walk' : List ℕ) (back : ℕ) → (x ≡ t → ⊥) → walk' ≡ walk ++ e ∷ [] → IsMet g start walk back t (drop i nodes) → IsMet g start walk' back t (drop (i + 1) nodes)
  met_later e walk' back other grown met =
      ⊎_elim (λ h. inl (rw add-one (⊎_elim (λ e. absurd (other e)) (λ m. m) (subst (λ ns. Has ns t) (cut nodes i x lt is) h))))
      (λ m. let lt : back < length walk = m.0 in let short : back ≤ length walk = omega arith in inr (
        omega (arith, ap length grown, length-append walk (e ∷ [])),
        ap (walk_end g (Some start)) (ap (take back) grown ∙ take-append-le back walk (e ∷ []) short) ∙ m.1,
      )) met

-- the whole stack has been walked along
pub met_all : (g : List (List ℕ)) (start t : ℕ) (left walk : List ℕ) (back : ℕ) (rest : List ℕ) → rest ≡ [] → IsWalk g left (walk_end g (Some start) walk) t rest →
    IsMet g start walk back t rest → IsCycle g start walk back
met_all g start t left walk back rest none on met =
    let end : walk_end g (Some start) walk ≡ Some t = subst (IsWalk g left (walk_end g (Some start) walk) t) none on in
    ⊎_elim (λ h. absurd (subst (λ ns. Has ns t) none h)) (λ m. record { node = t; reached = m.1; again = end; some = m.0 }) met

pub has_reversed : (x : ℕ) (xs : List ℕ) → Has xs x → Has (reverse xs) x
has_reversed x [] h = h
has_reversed x (y ∷ xs) h = subst (λ ns. Has ns x) (sym (reverse-append (y ∷ []) xs))
    (⊎_elim (λ e. at_end (reverse xs) e) (λ m. before (reverse xs) (has_reversed x xs m)) h)
  where
    at_end : (ns : List ℕ) → y ≡ x → Has (ns ++ y ∷ []) x
    at_end [] e = inl e
    at_end (n ∷ ns) e = inr (at_end ns e)

    before : (ns : List ℕ) → Has ns x → Has (ns ++ y ∷ []) x
    before [] h = absurd h
    before (n ∷ ns) h = ⊎_elim (λ e. inl e) (λ m. inr (before ns m)) h
