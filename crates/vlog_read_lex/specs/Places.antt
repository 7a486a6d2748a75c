-- Places in a text, and how far a run of bytes goes.
use Rattle.std.specs.Prelude.{ℕ, zero, suc, ◌+◌, ◌-◌, ◌&&◌, Bool, not, nat_lt, ◌==◌, List, length, slice_index, Option, Some, None, unwrap_or, if◌then◌else◌}
use Rattle.std.specs.Option.{option_map}
use Rattle.vlog_read_lex.specs.declared.class.Class.{Class}
use Rattle.vlog_read_lex.specs.Bytes.{has}

-- the first of n places from i on at which a test holds
abbrev pub first_of : (ℕ → Bool) → ℕ → ℕ → Option ℕ
first_of q zero i = None
first_of q (suc n) i = if q i then Some i else first_of q n (suc i)

-- the first place from i on, before the end, at which a test holds
unfoldable pub first_place : (ℕ → Bool) → ℕ → ℕ → Option ℕ
first_place q i end = first_of q (end - i) i

-- two bytes stand at i
abbrev pub has_pair : ℕ → ℕ → List ℕ → ℕ → Bool
has_pair a b bs i = nat_lt i (length bs) && (slice_index bs i == a) && nat_lt (i + 1) (length bs) && (slice_index bs (i + 1) == b)

-- where the run of bytes of a class that begins at i ends
unfoldable pub run_end : Class → List ℕ → ℕ → ℕ
run_end class bs i = unwrap_or (first_place (λ k. not (has class (slice_index bs k))) i (length bs)) (length bs)

-- the place after the first `*` from i on that a byte follows
unfoldable pub closing : ℕ → List ℕ → ℕ → Option ℕ
closing last bs i = option_map (λ k. k + 2) (first_place (has_pair 42 last bs) i (length bs))
