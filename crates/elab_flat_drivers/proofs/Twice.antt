-- Drivers that claim one bit are two drivers of it.
use Rattle.std.proofs.Common.{◌≡◌, ℕ, zero, suc, ◌+◌, ◌<◌, ◌⊎◌, inl, inr, Bool, true, false, cond, List, [], ◌∷◌, ◌++◌, length, replicate, map, Option, Some, None, arith, refl, sym, ap, ◌∙◌, subst}
use Rattle.std.specs.List.{flat_map, slice_get}
use Rattle.std.specs.Int.{bit_at}
use Rattle.vlog_tree.specs.declared.item.Assign.{Assign}
use Rattle.vlog_tree.specs.declared.stmt.Lval.{Lval}
use Rattle.vlog_tree.specs.declared.stmt.Lval.TheVariants as l
use Rattle.vlog_tree_runs.specs.declared.flat.Always.{Always}
use Rattle.vlog_tree_runs.specs.declared.flat.Flat.{Flat}
use Rattle.vlog_tree_runs.specs.declared.flat.Signal.{Signal}
use Rattle.vlog_tree_runs.specs.declared.flat.TopPort.{TopPort}
use Rattle.vlog_tree_runs.specs.Places.{Name, Among}
use Rattle.vlog_tree_runs.specs.Blocks.{Drives, lefts}
use Rattle.elab_flat_laws.proofs.Lists.{among_append, among_flat, flat_among, among_map}
use Rattle.elab_flat_faults.specs.declared.elaborating.ElabFault.TheVariants as f
use Rattle.elab_flat_faults.specs.Drivers.{Driver, Input, Part, Block, parts_of, input_drivers, drivers_of, DrivesIn}
use Rattle.elab_flat_faults.specs.ElabStands.{Stands}
use Rattle.elab_flat_drivers.specs.declared.claims.Claim.{Claim}
use Rattle.elab_flat_drivers.specs.declared.claims.Run.{Run}
use Rattle.elab_flat_drivers.specs.declared.claims.Spot.{Spot}
use Rattle.elab_flat_drivers.specs.Claims.{IsClaimed, claim_at, claims_at, part_claims, part_name, part_run, spot_in}
use Rattle.elab_flat_drivers.specs.Masks.{IsSet, marked, AreWithin}
use Rattle.elab_flat_drivers.specs.Driving.{CanDrive, driver_claims, left_claims, Clashes, IsBitAt, Numbers}
use Rattle.elab_flat_drivers.proofs.Marking.{marked_is, stays_marked, is_marked, marked_length, none_set}
use Rattle.elab_flat_drivers.proofs.Parting.{IsPiece, claimed, claims, parts_are, parts_drive, drives_parts}
use Rattle.elab_flat_drivers.proofs.Spots.{bare, shown, one_name, width_is, low_is, has_spot}

-- ---- claims of lists

pub claimed_flat : {A : Type 0} (g : A → List Claim) (xs : List A) (i b : ℕ) → IsClaimed (flat_map g xs) i b → (x : A) × Among xs x × IsClaimed (g x) i b
claimed_flat g xs i b h = let r = among_flat g xs h.claim h.among in (r.0, r.1, record { claim = h.claim; among = r.2; at = h.at; set = h.set })

pub flat_claimed : {A : Type 0} (g : A → List Claim) (xs : List A) (x : A) (i b : ℕ) → Among xs x → IsClaimed (g x) i b → IsClaimed (flat_map g xs) i b
flat_claimed g xs x i b a h = record { claim = h.claim; among = flat_among g xs x h.claim a h.among; at = h.at; set = h.set }

claim_place : (s : Spot) (r : Option Run) → (claim_at s r).place ≡ s.place
claim_place s None = refl
claim_place s (Some r) = refl

module _ (gs : List Signal) where
  -- ---- parts

  pub part_told : (q : Lval) → IsPiece q → (i b : ℕ) → IsClaimed (part_claims gs q) i b →
      (s : Spot) × (spot_in gs (part_name q) ≡ Some s) × (s.place ≡ i) × (b < s.width) × Drives (bare gs) q (part_name q) b
  part_told q t i b h = by_spot (spot_in gs (part_name q)) refl h
    where
      only : (s : Spot) → spot_in gs (part_name q) ≡ Some s → (c : Claim) → Among (claim_at s (part_run q) ∷ []) c → c.place ≡ i → bit_at c.bits b ≡ 1 →
          (s : Spot) × (spot_in gs (part_name q) ≡ Some s) × (s.place ≡ i) × (b < s.width) × Drives (bare gs) q (part_name q) b
      only s e c (inl k) p z =
          let r = claimed gs s b q t e (ap (λ (d : Claim). bit_at d.bits b) k ∙ z) in
          (s, e, sym (claim_place s (part_run q)) ∙ (ap (λ (d : Claim). d.place) k ∙ p), r.0, r.1)
      only s e c (inr k) p z = absurd k

      by_spot : (o : Option Spot) → spot_in gs (part_name q) ≡ o → IsClaimed (claims_at o (part_run q)) i b →
          (s : Spot) × (spot_in gs (part_name q) ≡ Some s) × (s.place ≡ i) × (b < s.width) × Drives (bare gs) q (part_name q) b
      by_spot None e h = absurd h.among
      by_spot (Some s) e h = only s e h.claim h.among h.at h.set

  pub told_part : (q : Lval) (x : Name) (s : Spot) (b : ℕ) → IsPiece q → spot_in gs x ≡ Some s → b < s.width → Drives (bare gs) q x b → IsClaimed (part_claims gs q) s.place b
  told_part q x s b t e lt d =
      let r = claims gs s b q x t e lt d in
      let k : spot_in gs (part_name q) ≡ Some s = ap (spot_in gs) r.0 ∙ e in
      record { claim = claim_at s (part_run q); among = subst (λ o. Among (claims_at o (part_run q)) (claim_at s (part_run q))) (sym k) (inl refl); at = claim_place s (part_run q); set = r.1 }

  -- ---- drivers

  -- a part that drives is no concatenation
  abbrev pub IsSingle : Driver → Type 0
  IsSingle (Input x) = Unit {0}
  IsSingle (Part q) = IsPiece q
  IsSingle (Block ls) = Unit {0}

  pub record Told (d : Driver) (i b : ℕ) : Type 0 where
    pub name : Name
    pub spot : Spot
    pub at : spot_in gs name ≡ Some spot
    pub place : spot.place ≡ i
    pub within : b < spot.width
    pub drives : DrivesIn (bare gs) d name b

  pub driver_told : (d : Driver) → IsSingle d → (i b : ℕ) → IsClaimed (driver_claims gs d) i b → Told d i b
  driver_told (Input x) t i b h = let r = part_told (l.Name x) tt i b h in record { name = x; spot = r.0; at = r.1; place = r.2; within = r.3; drives = r.4 }
  driver_told (Part q) t i b h = let r = part_told q t i b h in record { name = part_name q; spot = r.0; at = r.1; place = r.2; within = r.3; drives = r.4 }
  driver_told (Block ls) t i b h =
      let u = claimed_flat (left_claims gs) ls i b h in
      let w = claimed_flat (part_claims gs) (parts_of u.0) i b u.2 in
      let r = part_told w.0 (parts_are u.0 w.0 w.1) i b w.2 in
      record { name = part_name w.0; spot = r.0; at = r.1; place = r.2; within = r.3; drives = (u.0, u.1, drives_parts (bare gs) (part_name w.0) b u.0 (w.0, w.1, r.4)) }

  pub told_driver : (d : Driver) (x : Name) (s : Spot) (b : ℕ) → IsSingle d → spot_in gs x ≡ Some s → b < s.width → DrivesIn (bare gs) d x b → IsClaimed (driver_claims gs d) s.place b
  told_driver (Input y) x s b t e lt d = told_part (l.Name y) x s b tt e lt d
  told_driver (Part q) x s b t e lt d = told_part q x s b t e lt d
  told_driver (Block ls) x s b t e lt (left, a, d) =
      let r = parts_drive (bare gs) x b left d in
      flat_claimed (left_claims gs) ls left s.place b a (flat_claimed (part_claims gs) (parts_of left) r.0 s.place b r.1 (told_part r.0 x s b (parts_are left r.0 r.1) e lt r.2))

  -- ---- places

  place_within : (x : Name) (s : Spot) → spot_in gs x ≡ Some s → s.place < length gs
  place_within x s e = let r = shown 0 gs x s e in let p : s.place ≡ 0 + r.at = r.place in below gs r.at r.signal s.place p r.there
    where
      below : (hs : List Signal) (j : ℕ) (g : Signal) (k : ℕ) → k ≡ 0 + j → slice_get hs j ≡ Some g → k < length hs
      below [] j g k p e = cc
      below (h ∷ hs) zero g k p e = omega arith
      below (h ∷ hs) (suc j) g k p e = let z : j < length hs = below hs j g j (omega arith) e in omega arith

  pub part_within : (q : Lval) → AreWithin (length gs) (part_claims gs q)
  part_within q = by_spot (spot_in gs (part_name q)) refl
    where
      by_spot : (o : Option Spot) → spot_in gs (part_name q) ≡ o → AreWithin (length gs) (claims_at o (part_run q))
      by_spot None e = tt
      by_spot (Some s) e = (subst (λ n. n < length gs) (sym (claim_place s (part_run q))) (place_within (part_name q) s e), tt)

  both_within : (n : ℕ) (xs ys : List Claim) → AreWithin n xs → AreWithin n ys → AreWithin n (xs ++ ys)
  both_within n [] ys f g = g
  both_within n (x ∷ xs) ys f g = (f.0, both_within n xs ys f.1 g)

  pub flat_within : {A : Type 0} (h : A → List Claim) (xs : List A) → ((x : A) → AreWithin (length gs) (h x)) → AreWithin (length gs) (flat_map h xs)
  flat_within h [] each = tt
  flat_within h (x ∷ xs) each = both_within (length gs) (h x) (flat_map h xs) (each x) (flat_within h xs each)

  pub driver_within : (d : Driver) → AreWithin (length gs) (driver_claims gs d)
  driver_within (Input x) = part_within (l.Name x)
  driver_within (Part q) = part_within q
  driver_within (Block ls) = flat_within (left_claims gs) ls (λ left. flat_within (part_claims gs) (parts_of left) part_within)

  -- ---- clashes

  pub record IsPair (ds : List Driver) (i b : ℕ) : Type 0 where
    pub first : ℕ
    pub second : ℕ
    pub apart : first < second
    pub one : Driver
    pub other : Driver
    pub one_is : slice_get ds first ≡ Some one
    pub other_is : slice_get ds second ≡ Some other
    pub one_claims : IsClaimed (driver_claims gs one) i b
    pub other_claims : IsClaimed (driver_claims gs other) i b

  pub record IsOne (ds : List Driver) (i b : ℕ) : Type 0 where
    pub at : ℕ
    pub driver : Driver
    pub driver_is : slice_get ds at ≡ Some driver
    pub driver_claims_it : IsClaimed (driver_claims gs driver) i b

  next_within : (ms : List ℕ) (d : Driver) → length ms ≡ length gs → AreWithin (length ms) (driver_claims gs d)
  next_within ms d e = subst (λ n. AreWithin n (driver_claims gs d)) (sym e) (driver_within d)

  pub clash_pair : (ms : List ℕ) (ds : List Driver) (i b : ℕ) → length ms ≡ length gs → Clashes gs ms ds i b → IsPair ds i b ⊎ (IsSet ms i b × IsOne ds i b)
  clash_pair ms [] i b e h = absurd h
  clash_pair ms (d ∷ ds) i b e (inl h) = inr (h.1, record { at = 0; driver = d; driver_is = refl; driver_claims_it = h.0 })
  clash_pair ms (d ∷ ds) i b e (inr h) =
      elim (clash_pair (marked ms (driver_claims gs d)) ds i b (marked_length ms (driver_claims gs d) ∙ e) h) [
        | inl p ↦ inl (record {
          first = suc p.first;
          second = suc p.second;
          apart = later p.first p.second p.apart;
          one = p.one;
          other = p.other;
          one_is = p.one_is;
          other_is = p.other_is;
          one_claims = p.one_claims;
          other_claims = p.other_claims;
        })
        | inr p ↦ by_mark p.1 (marked_is ms (driver_claims gs d) i b (next_within ms d e) p.0)
      ]
    where
      later : (j k : ℕ) → j < k → suc j < suc k
      later j k lt = omega arith

      first_later : (k : ℕ) → 0 < suc k
      first_later k = omega arith

      by_mark : IsOne ds i b → IsSet ms i b ⊎ IsClaimed (driver_claims gs d) i b → IsPair (d ∷ ds) i b ⊎ (IsSet ms i b × IsOne (d ∷ ds) i b)
      by_mark p (inl s) = inr (s, record { at = suc p.at; driver = p.driver; driver_is = p.driver_is; driver_claims_it = p.driver_claims_it })
      by_mark p (inr c) =
          inl (record {
            first = 0;
            second = suc p.at;
            apart = first_later p.at;
            one = d;
            other = p.driver;
            one_is = refl;
            other_is = p.driver_is;
            one_claims = c;
            other_claims = p.driver_claims_it;
          })

  set_clash : (ms : List ℕ) (ds : List Driver) (k : ℕ) (e : Driver) (i b : ℕ) → length ms ≡ length gs → IsSet ms i b → slice_get ds k ≡ Some e → IsClaimed (driver_claims gs e) i b → Clashes gs ms ds i b
  set_clash ms [] k e i b n s is c = let z : None ≡ Some e = is in cc
  set_clash ms (d ∷ ds) zero e i b n s is c = inl (subst (λ z. IsClaimed (driver_claims gs z) i b) (sym (some_is d e is)) c, s)
    where
      some_is : (x y : Driver) → Some x ≡ Some y → x ≡ y
      some_is x y e = cc
  set_clash ms (d ∷ ds) (suc k) e i b n s is c =
      inr (set_clash (marked ms (driver_claims gs d)) ds k e i b (marked_length ms (driver_claims gs d) ∙ n) (stays_marked ms (driver_claims gs d) i b (next_within ms d n) s) is c)

  pub pair_clash : (ms : List ℕ) (ds : List Driver) (j k : ℕ) (d e : Driver) (i b : ℕ) → length ms ≡ length gs → j < k → slice_get ds j ≡ Some d → slice_get ds k ≡ Some e
      → IsClaimed (driver_claims gs d) i b → IsClaimed (driver_claims gs e) i b → Clashes gs ms ds i b
  pair_clash ms [] j k d e i b n lt is other f g = let z : None ≡ Some d = is in cc
  pair_clash ms (a ∷ ds) zero zero d e i b n lt is other f g = absurd (omega arith)
  pair_clash ms (a ∷ ds) zero (suc k) d e i b n lt is other f g =
      inr (set_clash (marked ms (driver_claims gs a)) ds k e i b (marked_length ms (driver_claims gs a) ∙ n)
      (is_marked ms (driver_claims gs a) i b (next_within ms a n) (subst (λ z. IsClaimed (driver_claims gs z) i b) (sym (some_is a d is)) f)) other g)
    where
      some_is : (x y : Driver) → Some x ≡ Some y → x ≡ y
      some_is x y e = cc
  pair_clash ms (a ∷ ds) (suc j) zero d e i b n lt is other f g = absurd (omega arith)
  pair_clash ms (a ∷ ds) (suc j) (suc k) d e i b n lt is other f g =
      inr (pair_clash (marked ms (driver_claims gs a)) ds j k d e i b (marked_length ms (driver_claims gs a) ∙ n) (omega arith) is other f g)

-- ---- the drivers of a module

inputs_single : (gs : List Signal) (ps : List TopPort) (d : Driver) → Among (input_drivers ps) d → IsSingle gs d
inputs_single gs [] d h = absurd h
inputs_single gs (p ∷ ps) d h = by_output p.output (inputs_single gs ps d) h
  where
    by_output : (t : Bool) → (Among (input_drivers ps) d → IsSingle gs d) → Among (cond t (input_drivers ps) (Input p.name ∷ input_drivers ps)) d → IsSingle gs d
    by_output true rest h = rest h
    by_output false rest (inl e) = subst (IsSingle gs) e tt
    by_output false rest (inr h) = rest h

pub single : (m : Flat) (d : Driver) → Among (drivers_of m) d → IsSingle m.signals d
single m d h =
    elim (among_append (input_drivers m.ports ++ flat_map (λ (a : Assign). map Part (parts_of a.left)) m.assigns) (map (λ (k : Always). Block (lefts k.body)) m.blocks) d h) [
      | inl f ↦ elim (among_append (input_drivers m.ports) (flat_map (λ (a : Assign). map Part (parts_of a.left)) m.assigns) d f) [
        | inl g ↦ inputs_single m.signals m.ports d g
        | inr g ↦ of_assign g
      ]
      | inr f ↦ of_block f
    ]
  where
    of_assign : Among (flat_map (λ (a : Assign). map Part (parts_of a.left)) m.assigns) d → IsSingle m.signals d
    of_assign g =
        let r = among_flat (λ (a : Assign). map Part (parts_of a.left)) m.assigns d g in
        let q = among_map Part (parts_of r.0.left) d r.2 in
        subst (IsSingle m.signals) q.2 (parts_are r.0.left q.0 q.1)

    of_block : Among (map (λ (k : Always). Block (lefts k.body)) m.blocks) d → IsSingle m.signals d
    of_block g = let r = among_map (λ (k : Always). Block (lefts k.body)) m.blocks d g in subst (IsSingle m.signals) r.2 tt

pub listed : (ds : List Driver) (k : ℕ) (d : Driver) → slice_get ds k ≡ Some d → Among ds d
listed [] k d e = cc
listed (x ∷ xs) zero d e = inl (some_is x d e)
  where
    some_is : (x y : Driver) → Some x ≡ Some y → x ≡ y
    some_is x y e = cc
listed (x ∷ xs) (suc k) d e = inr (listed xs k d e)

-- a bit of the signal at a place has two drivers
pub record IsTwice (m : Flat) (i b : ℕ) : Type 0 where
  pub signal : Signal
  pub there : slice_get m.signals i ≡ Some signal
  pub among : Among m.signals signal
  pub within : b < signal.width
  pub stands : Stands m (f.Drivers signal.name (signal.low + b))

pub zeros_long : (n : ℕ) → length {A = ℕ} (replicate n 0) ≡ n
zeros_long zero = refl
zeros_long (suc n) = ap suc (zeros_long n)

pub clash_stands : (m : Flat) (i b : ℕ) → Clashes m.signals (replicate (length m.signals) 0) (drivers_of m) i b → IsTwice m i b
clash_stands m i b h =
    elim (clash_pair m.signals (replicate (length m.signals) 0) (drivers_of m) i b (zeros_long (length m.signals)) h) [
      | inl p ↦ of_pair p
      | inr p ↦ absurd (none_set (length m.signals) i b p.0)
    ]
  where
    of_pair : IsPair m.signals (drivers_of m) i b → IsTwice m i b
    of_pair p =
        let gs = m.signals in
        let u = driver_told gs p.one (single m p.one (listed (drivers_of m) p.first p.one p.one_is)) i b p.one_claims in
        let w = driver_told gs p.other (single m p.other (listed (drivers_of m) p.second p.other p.other_is)) i b p.other_claims in
        let same : u.name ≡ w.name = one_name 0 gs u.name w.name u.spot w.spot u.at w.at (u.place ∙ sym w.place) in
        let r = shown 0 gs u.name u.spot u.at in
        let place : r.at ≡ i = zero_more r.at (sym r.place ∙ u.place) in
        record {
          signal = r.signal;
          there = ap (slice_get gs) (sym place) ∙ r.there;
          among = r.among;
          within = subst (λ n. b < n) r.width u.within;
          stands =
              subst (λ x. Stands m (f.Drivers x (r.signal.low + b))) (sym r.name) (
                b,
                (subst (λ n. b < n) (sym (width_is gs u.name u.spot u.at)) u.within, ap (λ n. n + b) (sym r.low ∙ sym (low_is gs u.name u.spot u.at))),
                record {
                  first = p.first;
                  second = p.second;
                  apart = p.apart;
                  one = p.one;
                  other = p.other;
                  one_is = p.one_is;
                  other_is = p.other_is;
                  drives_one = u.drives;
                  drives_other = subst (λ x. DrivesIn (bare gs) p.other x b) (sym same) w.drives;
                },
              );
        }
      where
        zero_more : (j : ℕ) → 0 + j ≡ i → j ≡ i
        zero_more j e = omega arith

pub stands_clash : (m : Flat) (x : Name) (n : ℕ) → Stands m (f.Drivers x n) → (i b : ℕ) × Clashes m.signals (replicate (length m.signals) 0) (drivers_of m) i b
stands_clash m x n (b, bit, two) =
    let gs = m.signals in
    let s = has_spot gs x b bit.0 in
    let lt : b < s.0.width = subst (λ k. b < k) (width_is gs x s.0 s.1) bit.0 in (
      s.0.place,
      b,
      pair_clash gs (replicate (length gs) 0) (drivers_of m) two.first two.second two.one two.other s.0.place b (zeros_long (length gs)) two.apart two.one_is two.other_is
          (told_driver gs two.one x s.0 b (single m two.one (listed (drivers_of m) two.first two.one two.one_is)) s.1 lt two.drives_one)
          (told_driver gs two.other x s.0 b (single m two.other (listed (drivers_of m) two.second two.other two.other_is)) s.1 lt two.drives_other),
    )

-- ---- what the code finds

pub claims_within : (gs : List Signal) (ms table : List ℕ) (slice items : List Claim) (d : Driver) → ms ≡ table → length table ≡ length gs → slice ≡ items → items ≡ driver_claims gs d → AreWithin (length ms) slice
claims_within gs ms table slice items d e n g h = subst (λ z. AreWithin z slice) (sym (ap length e ∙ n)) (subst (AreWithin (length gs)) (sym (g ∙ h)) (driver_within gs d))

module _ (m : Flat) (gs : List Signal) (ds : List Driver) (e : gs ≡ m.signals) (g : ds ≡ drivers_of m) where
  pub twice_found : (i b : ℕ) → Clashes gs (replicate (length gs) 0) ds i b → IsTwice m i b
  twice_found i b h =
      clash_stands m i b (subst (λ z. Clashes m.signals (replicate (length m.signals) 0) z i b) g (subst (λ z. Clashes z (replicate (length z) 0) ds i b) e h))

  pub is_bit_at : (i b : ℕ) → CanDrive m → Clashes gs (replicate (length gs) 0) ds i b → IsBitAt gs i b
  is_bit_at i b can h =
      let t = twice_found i b h in
      subst (λ z. IsBitAt z i b) (sym e) (record { signal = t.signal; there = t.there; within = t.within; numbers = (can.narrow t.signal t.among).numbers })

  pub is_stand : (i b : ℕ) (x : Name) (n : ℕ) → Clashes gs (replicate (length gs) 0) ds i b → Numbers gs i b x n → Stands m (f.Drivers x n)
  is_stand i b x n h num =
      let t = twice_found i b h in
      let r = num t.signal (ap (λ z. slice_get z i) e ∙ t.there) in
      subst (λ z. Stands m (f.Drivers z n)) (sym r.0) (subst (λ z. Stands m (f.Drivers t.signal.name z)) (sym r.1) t.stands)

  pub none_twice : ((i b : ℕ) → Clashes gs (replicate (length gs) 0) ds i b → ⊥) → (x : Name) (n : ℕ) → Stands m (f.Drivers x n) → ⊥
  none_twice h x n s =
      let r = stands_clash m x n s in
      h r.0 r.1 (subst (λ z. Clashes z (replicate (length z) 0) ds r.0 r.1) (sym e) (subst (λ z. Clashes m.signals (replicate (length m.signals) 0) z r.0 r.1) (sym g) r.2))
