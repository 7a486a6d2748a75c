-- Tables of bits, a number for each signal.
use Rattle.std.specs.Prelude.{ℕ, ◌≡◌, ◌<◌, List, [], ◌∷◌, slice_set, slice_index, bit_or}
use Rattle.std.specs.Int.{bit_at}
use Rattle.elab_flat_drivers.specs.declared.claims.Claim.{Claim}

-- bit b of the number at place i is 1
abbrev pub IsSet : List ℕ → ℕ → ℕ → Type 0
IsSet ms i b = bit_at (slice_index ms i) b ≡ 1

-- the table with these bits set too
abbrev pub marked : List ℕ → List Claim → List ℕ
marked ms [] = ms
marked ms (c ∷ cs) = marked (slice_set ms c.place (bit_or (slice_index ms c.place) c.bits)) cs

-- the places are in a table of n numbers
abbrev pub AreWithin : ℕ → List Claim → Type 0
AreWithin n [] = Unit {0}
AreWithin n (c ∷ cs) = (c.place < n) × AreWithin n cs
