-- Bits that are wanted and not driven are undriven ones.
use Rattle.std.proofs.Common.{◌≡◌, ℕ, ◌+◌, ◌<◌, inl, inr, true, List, [], ◌∷◌, ◌++◌, length, replicate, map, Some, arith, refl, sym, ap, ◌∙◌, subst}
use Rattle.std.specs.Prelude.{Option, None, nat_eq, if◌then◌else◌, IfSome}
use Rattle.std.specs.List.{flat_map, slice_get}
use Rattle.vlog_tree.specs.declared.stmt.Lval.{Lval}
use Rattle.vlog_tree.specs.declared.stmt.Lval.TheVariants as l
use Rattle.vlog_tree_runs.specs.declared.flat.Flat.{Flat}
use Rattle.vlog_tree_runs.specs.declared.flat.Signal.{Signal}
use Rattle.vlog_tree_runs.specs.Places.{Name, Among, words_from, holders}
use Rattle.vlog_tree_runs.specs.Blocks.{lefts}
use Rattle.vlog_tree_runs.specs.Cycles.{IsRegister}
use Rattle.elab_flat_laws.proofs.Lists.{among_append, append_left, append_right, among_map, map_among}
use Rattle.elab_flat_faults.specs.declared.elaborating.ElabFault.TheVariants as f
use Rattle.elab_flat_faults.specs.Drivers.{Driver, Input, drivers_of, DrivesIn, HasDriver}
use Rattle.elab_flat_faults.specs.ElabStands.{Stands, Names}
use Rattle.elab_flat_drivers.specs.declared.claims.Claim.{Claim}
use Rattle.elab_flat_drivers.specs.declared.claims.Spot.{Spot}
use Rattle.elab_flat_drivers.specs.declared.names.Form.TheVariants as v
use Rattle.elab_flat_drivers.specs.Names.{chosen_names}
use Rattle.elab_flat_drivers.specs.Claims.{IsClaimed, IsPartReady, part_claims, part_name, spot_in}
use Rattle.elab_flat_drivers.specs.Masks.{IsSet, AreWithin, marked}
use Rattle.elab_flat_drivers.specs.Driving.{AreNarrow, driver_claims, IsDriverReady, IsBitAt, Numbers}
use Rattle.elab_flat_drivers.specs.Wanting.{CanTell, IsLacking, wanted_parts, covers, driven_table}
use Rattle.elab_flat_drivers.proofs.Marking.{none_set, marked_length}
use Rattle.elab_flat_drivers.proofs.Parting.{IsPiece}
use Rattle.elab_flat_drivers.proofs.Spots.{bare, shown, one_name, width_is, low_is, has_spot}
use Rattle.elab_flat_drivers.proofs.Kinding.{blocked_is, is_blocked}
use Rattle.elab_flat_drivers.proofs.Twice.{claimed_flat, flat_claimed, part_told, told_part, driver_told, told_driver, single, zeros_long, flat_within, part_within}
use Rattle.elab_flat_drivers.proofs.DrivenBits.{driven_set, set_driven}
use Rattle.elab_flat_drivers.proofs.WantedBits.{parts_wanted, wanted_in_parts}

ready_piece : (q : Lval) → IsPartReady q → IsPiece q
ready_piece (l.Name x) h = tt
ready_piece (l.Select x a) h = tt
ready_piece (l.Part x span a c) h = tt
ready_piece (l.Concat' g row) h = absurd h

holders_one : (g : Signal) → g.depth ≡ 0 → holders g ≡ g ∷ []
holders_one g e = ap (λ n. if nat_eq n 0 then g ∷ [] else words_from g 0 g.depth) e

only : (g w : Signal) → Among (g ∷ []) w → g ≡ w
only g w (inl e) = e
only g w (inr h) = absurd h

abbrev pub registers : Flat → List Name
registers m = flat_map (chosen_names true v.Any) m.blocks

module _ (m : Flat) (narrow : AreNarrow m.signals) (x : Name) where
  pub register_name : IsRegister m x → Among (flat_map (chosen_names true v.Any) m.blocks) x
  register_name (k, a, e, (y, n, g, ga, (same, w, wa, is))) =
      let one : g ≡ w = only g w (subst (λ z. Among z w) (holders_one g (narrow g ga).depth) wa) in
      let named : y ≡ x = sym same ∙ (ap (λ (z : Signal). z.name) one ∙ sym is) in
      is_blocked m x true v.Any (k, a, e, subst (λ z. Names (lefts k.body) z) named n)

  pub name_register : (s : Spot) → spot_in m.signals x ≡ Some s → Among (flat_map (chosen_names true v.Any) m.blocks) x → IsRegister m x
  name_register s e h =
      let k = blocked_is m x true v.Any h in
      let r = shown 0 m.signals x s e in
      (k.0, k.1, k.2, (x, k.3, r.signal, r.among, (r.name, r.signal, subst (λ z. Among z r.signal) (sym (holders_one r.signal (narrow r.signal r.among).depth)) (inl refl), sym r.name)))

module _ (m : Flat) (can : CanTell m) where
  pub lacking_stands : (i b : ℕ) → IsClaimed (flat_map (part_claims m.signals) (wanted_parts m)) i b → (IsSet (driven_table m.signals (replicate (length m.signals) 0) (covers m)) i b → ⊥) → IsLacking m i b
  lacking_stands i b h unset =
      let gs = m.signals in
      let u = claimed_flat (part_claims gs) (wanted_parts m) i b h in
      let t = part_told gs u.0 (ready_piece u.0 (can.wants u.0 u.1)) i b u.2 in
      let x = part_name u.0 in
      let r = shown 0 gs x t.0 t.1 in
      let place : r.at ≡ i = zero_more r.at i (sym r.place ∙ t.2) in
      record {
        signal = r.signal;
        there = ap (slice_get gs) (sym place) ∙ r.there;
        within = subst (λ n. b < n) r.width t.3;
        among = r.among;
        stands =
            subst (λ z. Stands m (f.Undriven z (r.signal.low + b))) (sym r.name) (
              b,
              (subst (λ n. b < n) (sym (width_is gs x t.0 t.1)) t.3, ap (λ n. n + b) (sym r.low ∙ sym (low_is gs x t.0 t.1))),
              parts_wanted m x b (u.0, u.1, t.4),
              no_driver x t.0 t.1 t.2 t.3,
              no_register x t.0 t.1 t.2 t.3,
            );
      }
    where
      zero_more : (j i : ℕ) → 0 + j ≡ i → j ≡ i
      zero_more j i e = omega arith

      no_driver : (x : Name) (s : Spot) → spot_in m.signals x ≡ Some s → s.place ≡ i → b < s.width → HasDriver m x b → ⊥
      no_driver x s e p lt (d, a, h) =
          unset (set_driven m.signals (replicate (length m.signals) 0) (covers m) d i b (zeros_long (length m.signals)) (append_left (drivers_of m) (map Input (registers m)) d a)
          (subst (λ n. IsClaimed (driver_claims m.signals d) n b) p (told_driver m.signals d x s b (single m d a) e lt h)))

      no_register : (x : Name) (s : Spot) → spot_in m.signals x ≡ Some s → s.place ≡ i → b < s.width → IsRegister m x → ⊥
      no_register x s e p lt h =
          unset (set_driven m.signals (replicate (length m.signals) 0) (covers m) (Input x) i b (zeros_long (length m.signals))
          (append_right (drivers_of m) (map Input (registers m)) (Input x) (map_among Input (registers m) x (register_name m can.drives.narrow x h)))
          (subst (λ n. IsClaimed (driver_claims m.signals (Input x)) n b) p (told_driver m.signals (Input x) x s b tt e lt refl)))

  pub stands_lacking : (x : Name) (n : ℕ) → Stands m (f.Undriven x n) →
      (i b : ℕ) × IsClaimed (flat_map (part_claims m.signals) (wanted_parts m)) i b × (IsSet (driven_table m.signals (replicate (length m.signals) 0) (covers m)) i b → ⊥)
  stands_lacking x n (b, bit, wanted, undriven, loose) =
      let gs = m.signals in
      let s = has_spot gs x b bit.0 in
      let lt : b < s.0.width = subst (λ k. b < k) (width_is gs x s.0 s.1) bit.0 in
      let q = wanted_in_parts m x b wanted in
      (s.0.place, b, flat_claimed (part_claims gs) (wanted_parts m) q.0 s.0.place b q.1 (told_part gs q.0 x s.0 b (ready_piece q.0 (can.wants q.0 q.1)) s.1 lt q.2), unset s.0 s.1)
    where
      told : (s : Spot) → spot_in m.signals x ≡ Some s → (d : Driver) → Among (drivers_of m ++ map Input (registers m)) d → IsClaimed (driver_claims m.signals d) s.place b → ⊥
      told s e d a c = elim (among_append (drivers_of m) (map Input (registers m)) d a) [
        | inl k ↦ (
            let t = driver_told m.signals d (single m d k) s.place b c in
            let same : t.name ≡ x = one_name 0 m.signals t.name x t.spot s t.at e t.place in
            undriven (d, k, subst (λ z. DrivesIn (bare m.signals) d z b) same t.drives)
            )
        | inr k ↦ (
            let y = among_map Input (registers m) d k in
            let t = driver_told m.signals (Input y.0) tt s.place b (subst (λ z. IsClaimed (driver_claims m.signals z) s.place b) (sym y.2) c) in
            let same : t.name ≡ x = one_name 0 m.signals t.name x t.spot s t.at e t.place in
            loose (name_register m can.drives.narrow x s e (subst (Among (registers m)) (t.drives ∙ same) y.1))
            )
      ]

      unset : (s : Spot) → spot_in m.signals x ≡ Some s → IsSet (driven_table m.signals (replicate (length m.signals) 0) (covers m)) s.place b → ⊥
      unset s e h = elim (driven_set m.signals (replicate (length m.signals) 0) (covers m) s.place b (zeros_long (length m.signals)) h) [
        | inl k ↦ none_set (length m.signals) s.place b k
        | inr k ↦ told s e k.0 k.1 k.2
      ]

-- ---- what the code finds

driven_length : (gs : List Signal) (ms : List ℕ) (ds : List Driver) → length (driven_table gs ms ds) ≡ length ms
driven_length gs ms [] = refl
driven_length gs ms (d ∷ ds) = driven_length gs (marked ms (driver_claims gs d)) ds ∙ marked_length ms (driver_claims gs d)

module _ (m : Flat) (can : CanTell m) where
  pub covers_ready : (ds : List Driver) → ds ≡ covers m → (d : Driver) → Among ds d → IsDriverReady d
  covers_ready ds e d h = elim (among_append (drivers_of m) (map Input (registers m)) d (subst (λ z. Among z d) e h)) [
    | inl k ↦ can.drives.ready d k
    | inr k ↦ (let y = among_map Input (registers m) d k in subst IsDriverReady y.2 tt)
  ]

  module _ (table : List ℕ) (claims : List Claim) (te : table ≡ driven_table m.signals (replicate (length m.signals) 0) (covers m)) (ce : claims ≡ flat_map (part_claims m.signals) (wanted_parts m)) where
    pub within_by : AreWithin (length table) claims
    within_by =
        subst (λ n. AreWithin n claims) (sym (ap length te ∙ (driven_length m.signals (replicate (length m.signals) 0) (covers m) ∙ zeros_long (length m.signals))))
        (subst (AreWithin (length m.signals)) (sym ce) (flat_within m.signals (part_claims m.signals) (wanted_parts m) (part_within m.signals)))

    pub lacking_by : (i b : ℕ) → IsClaimed claims i b → (IsSet table i b → ⊥) → IsLacking m i b
    lacking_by i b h u = lacking_stands m can i b (subst (λ z. IsClaimed z i b) ce h) (λ s. u (subst (λ z. IsSet z i b) (sym te) s))

    pub none_by : ((i b : ℕ) → IsClaimed claims i b → (IsSet table i b → ⊥) → ⊥) → (x : Name) (n : ℕ) → Stands m (f.Undriven x n) → ⊥
    none_by h x n s =
        let r = stands_lacking m can x n s in
        h r.0 r.1 (subst (λ z. IsClaimed z r.0 r.1) (sym ce) r.2) (λ t. r.3 (subst (λ z. IsSet z r.0 r.1) te t))

  pub bit_by : (gs : List Signal) → gs ≡ m.signals → (i b : ℕ) → IsLacking m i b → IsBitAt gs i b
  bit_by gs e i b t = subst (λ z. IsBitAt z i b) (sym e) (record { signal = t.signal; there = t.there; within = t.within; numbers = (can.drives.narrow t.signal t.among).numbers })

  pub stand_by : (gs : List Signal) → gs ≡ m.signals → (i b : ℕ) (x : Name) (n : ℕ) → IsLacking m i b → Numbers gs i b x n → Stands m (f.Undriven x n)
  stand_by gs e i b x n t num =
      let r = num t.signal (ap (λ z. slice_get z i) e ∙ t.there) in
      subst (λ z. Stands m (f.Undriven z n)) (sym r.0) (subst (λ z. Stands m (f.Undriven t.signal.name z)) (sym r.1) t.stands)

pub same_table : {gs hs : List Signal} {ds es : List Driver} → gs ≡ hs → ds ≡ es → driven_table gs (replicate (length gs) 0) ds ≡ driven_table hs (replicate (length hs) 0) es
same_table e g = λ i. driven_table (e i) (replicate (length (e i)) 0) (g i)

pub same_claims : {gs hs : List Signal} {ps qs : List Lval} → gs ≡ hs → ps ≡ qs → flat_map (part_claims gs) ps ≡ flat_map (part_claims hs) qs
same_claims e g = λ i. flat_map (part_claims (e i)) (g i)

pub both_some : {A : Type 0} (o : Option A) (P Q R : A → Type 0) → IfSome o P → IfSome o Q → ((x : A) → P x → Q x → R x) → IfSome o R
both_some None P Q R p q f = tt
both_some (Some x) P Q R p q f = f x p q
