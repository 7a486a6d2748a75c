-- Where signals stand in their list.
use Rattle.std.proofs.Common.{◌≡◌, ℕ, suc, ◌+◌, ◌≤◌, ◌<◌, true, List, [], ◌∷◌, Option, Some, None, Bor, map, inl, inr, arith, refl, sym, ap, ◌∙◌, subst}
use Rattle.std.specs.List.{slice_get}
use Rattle.std.specs.Option.{option_copied}
use Rattle.std.specs.Str.{bytes_eq}
use Rattle.std.proofs.lemmas.Bool.{cases_Bool}
use Rattle.std.proofs.lemmas.Slice.Eq.{bytes_eq-Decides}
use Rattle.vlog_tree_runs.specs.declared.flat.Signal.{Signal}
use Rattle.vlog_tree_runs.specs.Places.{Name, Place, Among}
use Rattle.vlog_tree_runs.specs.Blocks.{signal_at, low_in}
use Rattle.elab_flat_faults.specs.Paths.{width_in}
use Rattle.elab_flat_drivers.specs.declared.claims.Spot.{Spot}
use Rattle.elab_flat_scopes.specs.Finding.{place_from}
use Rattle.elab_flat_drivers.specs.Spots.{signal_name}
use Rattle.elab_flat_drivers.specs.Driving.{AreNarrow}
use Rattle.elab_flat_drivers.specs.Claims.{spot_from, spot_in}

-- the place of a module without instances
abbrev pub bare : List Signal → Place
bare gs = record { prefix = []; signals = gs; params = [] }

same_bytes : (x y : Name) → bytes_eq x y ≡ true → x ≡ y
same_bytes x y e = (bytes_eq-Decides x y).0 e

some_is : {A : Type 0} (x y : A) → Some x ≡ Some y → x ≡ y
some_is x y e = cc

-- a spot shows the first signal of its name
pub record Shows (gs : List Signal) (i : ℕ) (x : Name) (s : Spot) : Type 0 where
  pub signal : Signal
  pub found : signal_at gs x ≡ Some signal
  pub width : s.width ≡ signal.width
  pub low : s.low ≡ signal.low
  pub at : ℕ
  pub place : s.place ≡ i + at
  pub there : slice_get gs at ≡ Some signal
  pub among : Among gs signal
  pub name : signal.name ≡ x

pub shown : (i : ℕ) (gs : List Signal) (x : Name) (s : Spot) → spot_from i gs x ≡ Some s → Shows gs i x s
shown i [] x s e = cc
shown i (g ∷ gs) x s e = elim (cases_Bool (bytes_eq g.name x)) [
  | inl y ↦ (
      let here : record { place = i; width = g.width; low = g.low } ≡ s = some_is _ _ (rw y at e) in
      let p : i ≡ s.place = ap (λ (z : Spot). z.place) here in
      record {
        signal = g;
        found = rw y refl;
        width = ap (λ (z : Spot). z.width) (sym here);
        low = ap (λ (z : Spot). z.low) (sym here);
        at = 0;
        place = omega arith;
        there = refl;
        among = inl refl;
        name = same_bytes g.name x y;
      }
      )
  | inr n ↦ (
      let r = shown (suc i) gs x s (rw n at e) in
      let p : s.place ≡ suc i + r.at = r.place in
      record { signal = r.signal; found = rw n r.found; width = r.width; low = r.low; at = suc r.at; place = omega arith; there = r.there; among = inr r.among; name = r.name }
      )
]

pub hidden : (i : ℕ) (gs : List Signal) (x : Name) → spot_from i gs x ≡ None → signal_at gs x ≡ None
hidden i [] x e = refl
hidden i (g ∷ gs) x e = elim (cases_Bool (bytes_eq g.name x)) [
  | inl y ↦ (let z : Some (record { place = i; width = g.width; low = g.low }) ≡ None = rw y at e in cc)
  | inr n ↦ rw n (hidden (suc i) gs x (rw n at e))
]

-- spots at one place are those of one name
pub one_name : (i : ℕ) (gs : List Signal) (x y : Name) (s t : Spot) → spot_from i gs x ≡ Some s → spot_from i gs y ≡ Some t → s.place ≡ t.place → x ≡ y
one_name i gs x y s t e f same =
    let p = shown i gs x s e in
    let q = shown i gs y t f in
    let g : s.place ≡ i + p.at = p.place in
    let h : t.place ≡ i + q.at = q.place in
    let k : p.at ≡ q.at = omega arith in
    sym p.name ∙ (ap (λ (z : Signal). z.name) (some_is p.signal q.signal (sym p.there ∙ (ap (slice_get gs) k ∙ q.there))) ∙ q.name)

pub width_is : (gs : List Signal) (x : Name) (s : Spot) → spot_in gs x ≡ Some s → width_in (bare gs) x ≡ s.width
width_is gs x s e = let r = shown 0 gs x s e in rw r.found (sym r.width)

pub low_is : (gs : List Signal) (x : Name) (s : Spot) → spot_in gs x ≡ Some s → low_in (bare gs) x ≡ s.low
low_is gs x s e = let r = shown 0 gs x s e in rw r.found (sym r.low)

-- a name that has a bit has a spot
pub has_spot : (gs : List Signal) (x : Name) (b : ℕ) → b < width_in (bare gs) x → (s : Spot) × (spot_in gs x ≡ Some s)
has_spot gs x b lt = found (spot_in gs x) refl
  where
    found : (o : Option Spot) → spot_in gs x ≡ o → (s : Spot) × (spot_in gs x ≡ Some s)
    found (Some s) e = (s, e)
    found None e = let z : b < 0 = rw (hidden 0 gs x e) at lt in absurd (omega arith)

-- ---- the place of a name and the signal there

pub placed : (i k : ℕ) (gs : List Signal) (x : Name) → place_from i (map signal_name gs) x ≡ Some k →
    (j : ℕ) × (k ≡ i + j) × (g : Signal) × (slice_get gs j ≡ Some g) × (spot_from i gs x ≡ Some (record { place = k; width = g.width; low = g.low }))
placed i k [] x e = cc
placed i k (g ∷ gs) x e = elim (cases_Bool (bytes_eq g.name x)) [
  | inl y ↦ (let p : i ≡ k = some_is i k (rw y at e) in (0, omega arith, g, refl, rw y (ap (λ n. Some (record { place = n; width = g.width; low = g.low })) p)))
  | inr n ↦ (let r = placed (suc i) k gs x (rw n at e) in let p : k ≡ suc i + r.0 = r.1 in (suc r.0, omega arith, r.2, r.3, rw n r.4))
]

unplaced : (i : ℕ) (gs : List Signal) (x : Name) → place_from i (map signal_name gs) x ≡ None → spot_from i gs x ≡ None
unplaced i [] x e = refl
unplaced i (g ∷ gs) x e = elim (cases_Bool (bytes_eq g.name x)) [
  | inl y ↦ (let z : Some i ≡ None = rw y at e in cc)
  | inr n ↦ rw n (unplaced (suc i) gs x (rw n at e))
]

module _ (gs view : List Signal) (names : List Name) (x : Name) (o : Option ℕ) (same : names ≡ map signal_name gs) (seen : gs ≡ view) (place : o ≡ place_from 0 names x) where
  at_names : place_from 0 (map signal_name gs) x ≡ o
  at_names = ap (λ z. place_from 0 z x) (sym same) ∙ sym place

  pub spot_some : (k : ℕ) (r : Option (Bor Signal)) (signal : Bor Signal) → o ≡ Some k → option_copied r ≡ slice_get gs k → r ≡ Some signal
      → Some (record { place = k; width = signal.now.width; low = signal.now.low }) ≡ spot_in view x
  spot_some k r signal e got is =
      let q = placed 0 k gs x (at_names ∙ e) in
      let j : k ≡ q.0 = omega (arith, q.1) in
      let s : signal.now ≡ q.2 = some_is signal.now q.2 (ap option_copied (sym is) ∙ (got ∙ (ap (slice_get gs) j ∙ q.3))) in
      ap (λ (g : Signal). Some (record { place = k; width = g.width; low = g.low })) s ∙ (sym q.4 ∙ ap (λ z. spot_in z x) seen)

  pub spot_lost : (k : ℕ) (r : Option (Bor Signal)) → o ≡ Some k → option_copied r ≡ slice_get gs k → r ≡ None → ⊥
  spot_lost k r e got is =
      let q = placed 0 k gs x (at_names ∙ e) in
      let j : k ≡ q.0 = omega (arith, q.1) in
      let z : None ≡ Some q.2 = ap option_copied (sym is) ∙ (got ∙ (ap (slice_get gs) j ∙ q.3)) in cc

  pub spot_none : o ≡ None → None ≡ spot_in view x
  spot_none e = sym (unplaced 0 gs x (at_names ∙ e)) ∙ ap (λ z. spot_in z x) seen

pub narrow_spot : (gs : List Signal) (x : Name) (s : Spot) → AreNarrow gs → Some s ≡ spot_in gs x → s.width ≤ 64
narrow_spot gs x s narrow e = let r = shown 0 gs x s (sym e) in subst (λ n. n ≤ 64) (sym r.width) (narrow r.signal r.among).width
