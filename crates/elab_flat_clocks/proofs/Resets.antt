-- Names, each once.
use Rattle.std.proofs.Common.{ℕ, suc, ◌≡◌, ◌+◌, ◌<◌, length, drop, get_or, add-one, append_assoc, Bool, true, false, not, List, [], ◌∷◌, ◌++◌, map, Bor, Option, Some, None, ◌⊎◌, inl, inr, ⊎_elim, refl, sym, ap, subst, ◌∙◌, if◌then◌else◌}
use Rattle.std.specs.Prelude.{◌↔◌}
use Rattle.std.proofs.lemmas.Bool.{cases_Bool}
use Rattle.std.proofs.lemmas.List.{map-append}
use Rattle.vlog_tree_runs.specs.declared.flat.Async.{Async}
use Rattle.vlog_tree_runs.specs.Places.{Name, Among}
use Rattle.vlog_tree_runs.specs.Contents.{is_among}
use Rattle.elab_flat_faults.specs.Clocks.{Reset}
use Rattle.elab_flat_laws.proofs.Lists.{among_append, append_left, append_right, among_map, map_among, among_flat, flat_among}
use Rattle.elab_flat_scopes.specs.Borrowed.{name_meant}
use Rattle.elab_flat_scopes.proofs.Finding.{cut}
use Rattle.elab_flat_drivers.proofs.Naming.{among_of}
use Rattle.elab_flat_clocks.specs.Driving.{Timed}
use Rattle.elab_flat_clocks.specs.Clocking.{is_at, name_at, reset_at, resets_at, fresh, async_at, asyncs_at}

-- ---- the code's list

module _ (names : List (Bor Name)) (i : ℕ) (x : Bor Name) (lt : i < length names) (is : x ≡ get_or names i x) (before done whole : List Name)
    (inv : done ++ fresh before (map name_meant (drop i names)) ≡ whole) where
  abbrev rest : List Name
  rest = map name_meant (drop (suc i) names)

  abbrev chosen : Bool → List Name
  chosen b = done ++ (if b then fresh before rest else x.now ∷ fresh (x.now ∷ before) rest)

  at_name : chosen (is_among before x.now) ≡ whole
  at_name = ap (λ ns. done ++ fresh before (map name_meant ns)) (sym (cut names i x lt is)) ∙ inv

  pub fresh_new : (items new : List (Bor Name)) → map name_meant items ≡ done → new ≡ items ++ x ∷ [] → is_among before x.now ≡ false → map name_meant new ++ fresh (x.now ∷ before) (map name_meant (drop (i + 1) names)) ≡ whole
  fresh_new items new e f n =
      rw add-one (
      ap (λ vs. map name_meant vs ++ fresh (x.now ∷ before) rest) f
      ∙ (ap (λ ns. ns ++ fresh (x.now ∷ before) rest) (map-append name_meant items (x ∷ []) ∙ (λ j. e j ++ x.now ∷ []))
      ∙ (append_assoc done (x.now ∷ []) (fresh (x.now ∷ before) rest) ∙ (ap chosen (sym n) ∙ at_name)))
      )

  pub fresh_again : is_among before x.now ≡ true → done ++ fresh before (map name_meant (drop (i + 1) names)) ≡ whole
  fresh_again y = rw add-one (ap chosen (sym y) ∙ at_name)

-- ---- its elements

from_fresh : (before xs : List Name) (x : Name) → Among (fresh before xs) x → Among xs x
from_fresh before [] x a = absurd a
from_fresh before (y ∷ ys) x a = elim (cases_Bool (is_among before y)) [
  | inl t ↦ inr (from_fresh before ys x (rw t at a))
  | inr n ↦ (let b : (y ≡ x) ⊎ Among (fresh (y ∷ before) ys) x = rw n at a in ⊎_elim (λ e. inl e) (λ m. inr (from_fresh (y ∷ before) ys x m)) b)
]

to_fresh : (before xs : List Name) (x : Name) → Among xs x → Among before x ⊎ Among (fresh before xs) x
to_fresh before [] x a = absurd a
to_fresh before (y ∷ ys) x a = elim (cases_Bool (is_among before y)) [
  | inl t ↦ rw t (⊎_elim (λ e. inl (subst (Among before) e (among_of before y t))) (λ m. to_fresh before ys x m) a)
  | inr n ↦ rw n (⊎_elim (λ e. inr (inl e)) (λ m. ⊎_elim (λ b. ⊎_elim (λ e. inr (inl e)) (λ c. inl c) b) (λ f. inr (inr f)) (to_fresh (y ∷ before) ys x m)) a)
]

-- ---- the resets of a level

at_own : (r : Reset) → is_at r.high r ≡ true
at_own r = by r.high
  where
    by : (b : Bool) → (if b then b else not b) ≡ true
    by true = refl
    by false = refl

level_is : (high : Bool) (r : Reset) → is_at high r ≡ true → r.high ≡ high
level_is high r h = by high r.high h
  where
    by : (a b : Bool) → (if a then b else not b) ≡ true → b ≡ a
    by true b h = h
    by false true h = cc
    by false false h = refl

from_name_at : (high : Bool) (o : Option Reset) (x : Name) → Among (name_at high o) x → o ≡ Some (record { name = x; high = high })
from_name_at high None x a = absurd a
from_name_at high (Some r) x a = elim (cases_Bool (is_at high r)) [
  | inl t ↦ (let b : (r.name ≡ x) ⊎ ⊥ = rw t at a in ⊎_elim (λ e. λ i. Some (record { name = e i; high = level_is high r t i })) (λ z. absurd z) b)
  | inr n ↦ (let b : ⊥ = rw n at a in absurd b)
]

to_name_at : (high : Bool) (o : Option Reset) (x : Name) → o ≡ Some (record { name = x; high = high }) → Among (name_at high o) x
to_name_at high o x e = subst (λ z. Among (name_at high z) x) (sym e) (own x high)
  where
    own : (x : Name) (high : Bool) → Among (name_at high (Some (record { name = x; high = high }))) x
    own x high = rw (at_own (record { name = x; high = high })) (inl refl)

module _ (us : List Timed) (x : Name) (high : Bool) where
  abbrev HasReset : Type 0
  HasReset = (u : Timed) × Among us u × (u.reset ≡ Some (record { name = x; high = high }))

  from_level : Among (asyncs_at high us) (async_at high x) → HasReset
  from_level a =
      let r = among_map (async_at high) (fresh [] (resets_at high us)) (async_at high x) a in
      let same : r.0 ≡ x = ap (λ (z : Async). z.name) r.2 in
      let b = from_fresh [] (resets_at high us) r.0 r.1 in
      let g = among_flat (reset_at high) us x (subst (Among (resets_at high us)) same b) in
      (g.0, g.1, from_name_at high g.0.reset x g.2)

  to_level : HasReset → Among (asyncs_at high us) (async_at high x)
  to_level h =
      let b = flat_among (reset_at high) us h.0 x h.1 (to_name_at high h.0.reset x h.2) in
      map_among (async_at high) (fresh [] (resets_at high us)) x (⊎_elim (λ z. absurd z) (λ c. c) (to_fresh [] (resets_at high us) x b))

other_level : (us : List Timed) (x : Name) (high level : Bool) → Among (asyncs_at level us) (async_at high x) → level ≡ high
other_level us x high level a = let r = among_map (async_at level) (fresh [] (resets_at level us)) (async_at high x) a in ap (λ (z : Async). z.high) r.2

pub asyncs_are : (us : List Timed) (as' : List Async) → as' ≡ asyncs_at true us ++ asyncs_at false us → (x : Name) (high : Bool) →
    Among as' (async_at high x) ↔ ((u : Timed) × Among us u × (u.reset ≡ Some (record { name = x; high = high })))
asyncs_are us as' is x high = (to, from high)
  where
    at : (level : Bool) → Among (asyncs_at level us) (async_at high x) → HasReset us x high
    at level a =
        let same = other_level us x high level a in
        from_level us x high (subst (λ b. Among (asyncs_at b us) (async_at high x)) same a)

    to : Among as' (async_at high x) → HasReset us x high
    to a = ⊎_elim (λ b. at true b) (λ b. at false b) (among_append (asyncs_at true us) (asyncs_at false us) (async_at high x) (subst (λ zs. Among zs (async_at high x)) is a))

    from : (b : Bool) → HasReset us x b → Among as' (async_at b x)
    from true h = subst (λ zs. Among zs (async_at true x)) (sym is) (append_left (asyncs_at true us) (asyncs_at false us) (async_at true x) (to_level us x true h))
    from false h = subst (λ zs. Among zs (async_at false x)) (sym is) (append_right (asyncs_at true us) (asyncs_at false us) (async_at false x) (to_level us x false h))
