-- A list of keys, and the last place of each.
use Rattle.std.specs.Prelude.{◌≡◌, ◌≢◌, ℕ, ◌-◌, ◌<◌, ◌≤◌, List, length, slice_index}

-- r - 1 is the last place below n that has the key; r is 0 where there is none
pub record IsLast (keys : List ℕ) (n key r : ℕ) : Type 0 where
  pub within : r ≤ n
  pub none_later : (j : ℕ) → r ≤ j → j < n → slice_index keys j ≢ key
  pub here : 0 < r → slice_index keys (r - 1) ≡ key

-- newest gives the last place of each key, and before that of each place's key before it
pub record IsIndex (keys before : List ℕ) (newest : ℕ → ℕ) : Type 0 where
  pub long : length before ≡ length keys
  pub newest_last : (key : ℕ) → IsLast keys (length keys) key (newest key)
  pub before_last : (i : ℕ) → i < length keys → IsLast keys i (slice_index keys i) (slice_index before i)
