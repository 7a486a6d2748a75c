-- Bits that are set in tables.
use Rattle.std.proofs.Common.{◌≡◌, ◌≢◌, ℕ, zero, suc, ◌+◌, ◌<◌, max, ◌⊎◌, inl, inr, List, [], ◌∷◌, length, get_or, drop, drop-cons, add-one, get_or-set_same, get_or-set_other, replicate, arith, refl, sym, ap, ◌∙◌, subst}
use Rattle.std.specs.Prelude.{bit_or, bit_and, slice_set, min}
use Rattle.std.specs.Int.{bit_at}
use Rattle.std.proofs.Math.ListN.{length-set}
use Rattle.std.proofs.lemmas.Bool.Decides.{eqb_tells}
use Rattle.std.proofs.lemmas.Nat.Bits.{bit_at_or, bit_at_and, bit_at-lt, bit_at-zero}
use Rattle.vlog_tree_runs.specs.Places.{Among}
use Rattle.elab_flat_drivers.specs.declared.claims.Claim.{Claim}
use Rattle.elab_flat_drivers.specs.Claims.{IsClaimed}
use Rattle.elab_flat_drivers.specs.Masks.{IsSet, marked, AreWithin}

one_of : (x y b : ℕ) → bit_at (bit_or x y) b ≡ 1 → (bit_at x b ≡ 1) ⊎ (bit_at y b ≡ 1)
one_of x y b h = by_max (bit_at x b) (bit_at y b) (bit_at-lt x b) (bit_at-lt y b) (sym (bit_at_or x y b) ∙ h)
  where
    by_max : (m n : ℕ) → m < 2 → n < 2 → max m n ≡ 1 → (m ≡ 1) ⊎ (n ≡ 1)
    by_max m n f g h = elim (eqb_tells m 1) [ inl e ↦ inl e.1 | inr e ↦ (let z : m ≢ 1 = e.1 in inr (omega arith)) ]

left_bit : (x y b : ℕ) → bit_at x b ≡ 1 → bit_at (bit_or x y) b ≡ 1
left_bit x y b h = bit_at_or x y b ∙ by_max (bit_at x b) (bit_at y b) (bit_at-lt y b) h
  where
    by_max : (m n : ℕ) → n < 2 → m ≡ 1 → max m n ≡ 1
    by_max m n g h = omega arith

right_bit : (x y b : ℕ) → bit_at y b ≡ 1 → bit_at (bit_or x y) b ≡ 1
right_bit x y b h = bit_at_or x y b ∙ by_max (bit_at x b) (bit_at y b) (bit_at-lt x b) h
  where
    by_max : (m n : ℕ) → m < 2 → n ≡ 1 → max m n ≡ 1
    by_max m n g h = omega arith

pub both_bits : (x y b : ℕ) → bit_at (bit_and x y) b ≡ 1 → (bit_at x b ≡ 1) × (bit_at y b ≡ 1)
both_bits x y b h = by_min (bit_at x b) (bit_at y b) (bit_at-lt x b) (bit_at-lt y b) (sym (bit_at_and x y b) ∙ h)
  where
    by_min : (m n : ℕ) → m < 2 → n < 2 → min m n ≡ 1 → (m ≡ 1) × (n ≡ 1)
    by_min m n f g h = (omega arith, omega arith)

pub bits_both : (x y b : ℕ) → bit_at x b ≡ 1 → bit_at y b ≡ 1 → bit_at (bit_and x y) b ≡ 1
bits_both x y b f g = bit_at_and x y b ∙ by_min (bit_at x b) (bit_at y b) f g
  where
    by_min : (m n : ℕ) → m ≡ 1 → n ≡ 1 → min m n ≡ 1
    by_min m n f g = omega arith

-- ---- one claim

module _ (ms : List ℕ) (c : Claim) (lt : c.place < length ms) (i b : ℕ) where
  abbrev next : List ℕ
  next = slice_set ms c.place (bit_or (get_or ms c.place 0) c.bits)

  same_place : c.place ≡ i → get_or next i 0 ≡ bit_or (get_or ms i 0) c.bits
  same_place e = subst (λ z. get_or next z 0 ≡ bit_or (get_or ms z 0) c.bits) e (get_or-set_same ms c.place (bit_or (get_or ms c.place 0) c.bits) 0 lt)

  other_place : c.place ≢ i → get_or next i 0 ≡ get_or ms i 0
  other_place n = get_or-set_other ms c.place i (bit_or (get_or ms c.place 0) c.bits) 0 (λ e. n (sym e))

  pub was_or_claimed : IsSet next i b → IsSet ms i b ⊎ ((c.place ≡ i) × (bit_at c.bits b ≡ 1))
  was_or_claimed h = elim (eqb_tells c.place i) [
    | inl e ↦ by_bit e.1 (one_of (get_or ms i 0) c.bits b (sym (ap (λ z. bit_at z b) (same_place e.1)) ∙ h))
    | inr e ↦ inl (sym (ap (λ z. bit_at z b) (other_place e.1)) ∙ h)
  ]
    where
      by_bit : c.place ≡ i → (bit_at (get_or ms i 0) b ≡ 1) ⊎ (bit_at c.bits b ≡ 1) → IsSet ms i b ⊎ ((c.place ≡ i) × (bit_at c.bits b ≡ 1))
      by_bit e (inl f) = inl f
      by_bit e (inr f) = inr (e, f)

  pub stays : IsSet ms i b → IsSet next i b
  stays h = elim (eqb_tells c.place i) [
    | inl e ↦ ap (λ z. bit_at z b) (same_place e.1) ∙ left_bit (get_or ms i 0) c.bits b h
    | inr e ↦ ap (λ z. bit_at z b) (other_place e.1) ∙ h
  ]

  pub is_put : c.place ≡ i → bit_at c.bits b ≡ 1 → IsSet next i b
  is_put e h = ap (λ z. bit_at z b) (same_place e) ∙ right_bit (get_or ms i 0) c.bits b h

-- ---- claims one after another

pub within_next : (ms : List ℕ) (i v : ℕ) (cs : List Claim) → AreWithin (length ms) cs → AreWithin (length (slice_set ms i v)) cs
within_next ms i v cs h = subst (λ n. AreWithin n cs) (sym (length-set ms i v)) h

pub first_claim : (c : Claim) (cs : List Claim) (i b : ℕ) → IsClaimed (c ∷ cs) i b → ((c.place ≡ i) × (bit_at c.bits b ≡ 1)) ⊎ IsClaimed cs i b
first_claim c cs i b h = by_place h.claim h.among h.at h.set
  where
    by_place : (d : Claim) → Among (c ∷ cs) d → d.place ≡ i → bit_at d.bits b ≡ 1 → ((c.place ≡ i) × (bit_at c.bits b ≡ 1)) ⊎ IsClaimed cs i b
    by_place d (inl e) f g = inl (ap (λ (z : Claim). z.place) e ∙ f, ap (λ (z : Claim). bit_at z.bits b) e ∙ g)
    by_place d (inr a) f g = inr (record { claim = d; among = a; at = f; set = g })

pub later_claim : (c : Claim) (cs : List Claim) (i b : ℕ) → IsClaimed cs i b → IsClaimed (c ∷ cs) i b
later_claim c cs i b h = record { claim = h.claim; among = inr h.among; at = h.at; set = h.set }

pub marked_is : (ms : List ℕ) (cs : List Claim) (i b : ℕ) → AreWithin (length ms) cs → IsSet (marked ms cs) i b → IsSet ms i b ⊎ IsClaimed cs i b
marked_is ms [] i b w h = inl h
marked_is ms (c ∷ cs) i b w h =
    by_step (marked_is (slice_set ms c.place (bit_or (get_or ms c.place 0) c.bits)) cs i b (within_next ms c.place (bit_or (get_or ms c.place 0) c.bits) cs w.1) h)
  where
    by_first : IsSet ms i b ⊎ ((c.place ≡ i) × (bit_at c.bits b ≡ 1)) → IsSet ms i b ⊎ IsClaimed (c ∷ cs) i b
    by_first (inl f) = inl f
    by_first (inr f) = inr (record { claim = c; among = inl refl; at = f.0; set = f.1 })

    by_step : IsSet (slice_set ms c.place (bit_or (get_or ms c.place 0) c.bits)) i b ⊎ IsClaimed cs i b → IsSet ms i b ⊎ IsClaimed (c ∷ cs) i b
    by_step (inl f) = by_first (was_or_claimed ms c w.0 i b f)
    by_step (inr f) = inr (later_claim c cs i b f)

pub stays_marked : (ms : List ℕ) (cs : List Claim) (i b : ℕ) → AreWithin (length ms) cs → IsSet ms i b → IsSet (marked ms cs) i b
stays_marked ms [] i b w h = h
stays_marked ms (c ∷ cs) i b w h =
    stays_marked (slice_set ms c.place (bit_or (get_or ms c.place 0) c.bits)) cs i b (within_next ms c.place (bit_or (get_or ms c.place 0) c.bits) cs w.1) (stays ms c w.0 i b h)

pub is_marked : (ms : List ℕ) (cs : List Claim) (i b : ℕ) → AreWithin (length ms) cs → IsClaimed cs i b → IsSet (marked ms cs) i b
is_marked ms [] i b w h = absurd h.among
is_marked ms (c ∷ cs) i b w h =
    let after : AreWithin (length (slice_set ms c.place (bit_or (get_or ms c.place 0) c.bits))) cs = within_next ms c.place (bit_or (get_or ms c.place 0) c.bits) cs w.1 in
    elim (first_claim c cs i b h) [
      | inl f ↦ stays_marked (slice_set ms c.place (bit_or (get_or ms c.place 0) c.bits)) cs i b after (is_put ms c w.0 i b f.0 f.1)
      | inr f ↦ is_marked (slice_set ms c.place (bit_or (get_or ms c.place 0) c.bits)) cs i b after f
    ]

pub marked_length : (ms : List ℕ) (cs : List Claim) → length (marked ms cs) ≡ length ms
marked_length ms [] = refl
marked_length ms (c ∷ cs) = marked_length (slice_set ms c.place (bit_or (get_or ms c.place 0) c.bits)) cs ∙ length-set ms c.place (bit_or (get_or ms c.place 0) c.bits)

pub none_set : (n i b : ℕ) → IsSet (replicate n 0) i b → ⊥
none_set n i b h = by_zero (get_or (replicate n 0) i 0) (zeros n i) h
  where
    zeros : (n i : ℕ) → ◌≡◌ {A = ℕ} (get_or (replicate n 0) i 0) 0
    zeros zero i = refl
    zeros (suc n) zero = refl
    zeros (suc n) (suc i) = zeros n i

    by_zero : (m : ℕ) → m ≡ 0 → bit_at m b ≡ 1 → ⊥
    by_zero m e h = let z : bit_at m b ≡ 0 = ap (λ k. bit_at k b) e ∙ bit_at-zero b in omega arith

-- ---- claims by their places in a list

pub at_place : (cs : List Claim) (i : ℕ) (d : Claim) → i < length cs → drop i cs ≡ get_or cs i d ∷ drop (i + 1) cs
at_place cs i d lt = rw add-one (drop-cons cs i d lt)

pub among_at : {X : Type 0} (xs : List X) (i : ℕ) (d : X) → i < length xs → Among xs (get_or xs i d)
among_at [] i d lt = absurd (omega arith)
among_at (x ∷ xs) zero d lt = inl refl
among_at (x ∷ xs) (suc i) d lt = inr (among_at xs i d (omega arith))

-- a claim without a bit in common with a table is passed
pub passes : (ms : List ℕ) (cs : List Claim) (k : ℕ) (d : Claim) → k < length cs → bit_and (get_or ms (get_or cs k d).place 0) (get_or cs k d).bits ≡ 0 → (i b : ℕ) → IsSet ms i b
    → IsClaimed (drop k cs) i b → IsClaimed (drop (k + 1) cs) i b
passes ms cs k d lt none i b set h =
    after (first_claim (get_or cs k d) (drop (k + 1) cs) i b (subst (λ z. IsClaimed z i b) (at_place cs k d lt) h))
  where
    zero_one : (m : ℕ) → m ≡ 0 → bit_at m b ≡ 1 → ⊥
    zero_one m e h = let z : bit_at m b ≡ 0 = ap (λ n. bit_at n b) e ∙ bit_at-zero b in omega arith

    after : (((get_or cs k d).place ≡ i) × (bit_at (get_or cs k d).bits b ≡ 1)) ⊎ IsClaimed (drop (k + 1) cs) i b → IsClaimed (drop (k + 1) cs) i b
    after (inl f) =
        absurd (zero_one _ none (bits_both (get_or ms (get_or cs k d).place 0) (get_or cs k d).bits b (subst (λ z. IsSet ms z b) (sym f.0) set) f.1))
    after (inr f) = f
