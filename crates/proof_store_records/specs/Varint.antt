use Rattle.std.specs.Prelude.{ℕ, ◌+◌, ◌%◌, ◌/◌, ◌<◌, ◌^◌, nat_lt, List, [], ◌∷◌, if◌then◌else◌}
use Rattle.std.proofs.Common.{zero, suc}

-- A number in base 128 from its lowest digit, where at most so many digits follow the first. The top bit is set in all bytes
-- but the last.
unfoldable pub low_first : ℕ → ℕ → List ℕ
low_first zero n = n ∷ []
low_first (suc more) n = if nat_lt n 128 then n ∷ [] else (128 + n % 128) ∷ low_first more (n / 128)

-- a number below 2^64, which has at most ten digits
unfoldable pub varint : ℕ → List ℕ
varint n = low_first 9 n

-- the numbers with so many digits after the first at most
pub record HasDigits (more n : ℕ) : Type 0 where
  pub word : n < 2 ^ 64
  pub few : n < 128 ^ (more + 1)
