-- Which bits an assignment writes.
use Rattle.std.specs.Prelude.{ℕ, ◌≡◌, ◌+◌, ◌-◌, ◌*◌, ◌/◌, ◌%◌, ◌^◌, ◌<◌, ◌≤◌, ◌⊎◌, pos, negsuc}
use Rattle.std.specs.Int.{bit_at}
use Rattle.vlog_tree_runs.specs.Places.{write_bits}

-- the n bits from a on that the signal has are those of the number
abbrev pub WritesInside : Type 0
WritesInside = (size a n t x j : ℕ) → a ≤ j → j < a + n → j < size → bit_at (write_bits size (pos a) n t x) j ≡ bit_at t (j - a)

-- the others stay
abbrev pub WritesNothingElse : Type 0
WritesNothingElse = (size a n t x j : ℕ) → (j < a) ⊎ ((a + n ≤ j) ⊎ (size ≤ j)) → bit_at (write_bits size (pos a) n t x) j ≡ bit_at x j

-- bits that the signal has are written in one piece
abbrev pub WritesInOnePiece : Type 0
WritesInOnePiece =
    (size a n t x : ℕ) → a + n ≤ size → write_bits size (pos a) n t x ≡ x / 2 ^ (a + n) * 2 ^ (a + n) + (t % 2 ^ n * 2 ^ a + x % 2 ^ a)

-- a number that begins below the first bit is written from its bit on that meets the first
abbrev pub WritesFromTheFirst : Type 0
WritesFromTheFirst = (size a n t x : ℕ) → write_bits size (negsuc a) n t x ≡ write_bits size (pos 0) (n - (a + 1)) (t / 2 ^ (a + 1)) x
