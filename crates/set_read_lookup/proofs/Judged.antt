-- Whether something holds of each element of a list.
use Rattle.std.proofs.Common.{◌≡◌, ℕ, suc, ◌+◌, ◌<◌, ◌≤◌, inl, inr, List, [], ◌∷◌, ◌++◌, length, drop, drop_of_length-le, get_or, drop-cons, add-one, Bool, true, false, refl, sym, ap, subst, ◌∙◌}
use Rattle.std.specs.Prelude.{◌&&◌}
use Rattle.std.specs.Bool.{MatchBool}
use Rattle.set_read_lookup.specs.Faults.{Has}
use Rattle.set_read_lookup.specs.Tests.{Judges}
use Rattle.set_read_lookup.proofs.Meant.{has_left, has_right}

module _ {A : Type 0} (P : A → Type 0) where
  both_sides : (xs ys : List A) → ((x : A) → Has xs x → P x) → ((x : A) → Has ys x → P x) → (x : A) → Has (xs ++ ys) x → P x
  both_sides [] ys f g x h = g x h
  both_sides (z ∷ zs) ys f g x (inl e) = f x (inl e)
  both_sides (z ∷ zs) ys f g x (inr h) = both_sides zs ys (λ y k. f y (inr k)) g x h

  pub judge_both : (xs ys : List A) (a b t : Bool) → t ≡ (a && b) → Judges P xs a → Judges P ys b → Judges P (xs ++ ys) t
  judge_both xs ys true true t e f g = subst (Judges P (xs ++ ys)) (sym e) (both_sides xs ys f g)
  judge_both xs ys true false t e f g = subst (Judges P (xs ++ ys)) (sym e) (g.0, has_right xs ys g.0 g.1, g.2)
  judge_both xs ys false b t e f g = subst (Judges P (xs ++ ys)) (sym e) (f.0, has_left xs ys f.0 f.1, f.2)

  pub judge_one : (x : A) (t : Bool) → MatchBool t (P x) (P x → ⊥) → Judges P (x ∷ []) t
  judge_one x true h = one
    where
      one : (y : A) → Has (x ∷ []) y → P y
      one y (inl e) = subst P e h
      one y (inr n) = absurd n
  judge_one x false h = (x, inl refl, h)

  -- what is still to be judged decides the whole
  abbrev pub Decides : List A → List A → Type 0
  Decides rest all = (t : Bool) → Judges P rest t → Judges P all t

  pub judge_step : (now front rest all : List A) (t : Bool) → now ≡ front ++ rest → Decides now all → t ≡ true → Judges P front t → Decides rest all
  judge_step now front rest all t is inv e here = λ u k. inv u (subst (λ z. Judges P z u) (sym is) (judge_both front rest true u u refl (subst (Judges P front) e here) k))

  pub judge_stop : (now front rest all : List A) (t : Bool) → now ≡ front ++ rest → Decides now all → t ≡ false → Judges P front t → Judges P all false
  judge_stop now front rest all t is inv e here =
      let h = subst (Judges P front) e here in
      inv false (subst (λ z. Judges P z false) (sym is) (h.0, has_left front rest h.0 h.1, h.2))

  pub judge_end : (now all : List A) → now ≡ [] → Decides now all → Judges P all true
  judge_end now all is inv = inv true (subst (λ z. Judges P z true) (sym is) (λ x k. absurd k))

-- the lists that loops go over
module _ {A : Type 0} where
  pub cut : (xs : List A) (i : ℕ) (x : A) → i < length xs → x ≡ get_or xs i x → drop i xs ≡ x ∷ drop (i + 1) xs
  cut xs i x lt is = rw add-one (drop-cons xs i x lt ∙ ap (λ z. z ∷ drop (suc i) xs) (sym is))

  pub over : (xs : List A) (i : ℕ) → length xs ≤ i → drop i xs ≡ []
  over xs i le = drop_of_length-le xs {i = i} le
