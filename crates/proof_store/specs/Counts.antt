-- How often helpers were asked over several calls.
use Rattle.std.specs.Prelude.{◌≡◌, ℕ, zero, suc, ◌+◌, ◌-◌, ◌^◌, ◌<◌, ◌≤◌, List, [], ◌∷◌, length, max, min}
use Rattle.std.specs.List.{AllZip, range_with_len}

-- the helpers are as many as before, and none was asked less often than before
abbrev pub NoneFalls : List ℕ → List ℕ → Type 0
NoneFalls before after = AllZip ◌≤◌ before after

-- of the first helper, where there is one
abbrev pub first_of : List ℕ → ℕ
first_of [] = 0
first_of (n ∷ ns) = n

-- so many times more, up to the greatest number of 64 bits
abbrev pub so_many_more : ℕ → ℕ → ℕ
so_many_more k n = max n (min (n + k) (2 ^ 64 - 1))

-- none was asked less often, and the first so many times more
pub record FirstRose (k : ℕ) (before after : List ℕ) : Type 0 where
  pub none_falls : NoneFalls before after
  pub first : 0 < length before → first_of after ≡ so_many_more k (first_of before)

-- the numbers that so many workers draw for so many obligations: all from 0 on, one for each of both; with no obligation, none is drawn
abbrev pub draws_of : ℕ → ℕ → List ℕ
draws_of zero workers = []
draws_of (suc n) workers = range_with_len 0 (suc n + workers)
