-- Keys in byte order, and the entries of an ordered map as pairs of bytes and a value.
use Rattle.std.specs.Prelude.{◌≡◌, ℕ, List, map, Bool, true, false, Option, Some, None, Vec, All, Contains}
use Rattle.std.specs.Ordering.{is_gt, is_lt, nat_cmp}
use Rattle.std.specs.Cmp.Lexicographic.{slice_cmp}
use Rattle.std.specs.declared.alloc.Global.{Global}

-- whether a key stands above this one in byte order; each key stands above none
abbrev pub is_above : Option (List ℕ) → List ℕ → Bool
is_above None key = true
is_above (Some low) key = is_lt (slice_cmp nat_cmp low key)

-- the key is one of these and stands above `low`, and no other of these that stands above `low` is less
pub record IsLeastAbove (low : Option (List ℕ)) (keys : List (List ℕ)) (key : List ℕ) : Type 0 where
  pub among : Contains keys key
  pub above : is_above low key ≡ true
  pub least : All (λ other. is_above low other ≡ true → is_gt (slice_cmp nat_cmp key other) ≡ false) keys

abbrev pub rows_of : {T : Type 0} → List (Vec ℕ Global × T) → List (List ℕ × T)
rows_of es = map (λ e. (e.0.items, e.1)) es
