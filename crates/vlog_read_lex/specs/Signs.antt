-- The signs, and the longest one at a place.
use Rattle.std.specs.Prelude.{ℕ, ◌+◌, ◌-◌, Bool, ◌&&◌, ◌||◌, nat_le, if◌then◌else◌, List, [], ◌∷◌, length, slice_range, codes}
use Rattle.vlog_read_lex.specs.Words.{is_among}

abbrev pub arithmetic_signs : List (List ℕ)
arithmetic_signs =
    codes "+" ∷ codes "-" ∷ codes "*" ∷ codes "/" ∷ codes "%" ∷ codes "<<" ∷ codes ">>" ∷ codes "<<<" ∷ codes ">>>" ∷
    []

abbrev pub comparison_signs : List (List ℕ)
comparison_signs =
    codes "<" ∷ codes "<=" ∷ codes ">" ∷ codes ">=" ∷ codes "==" ∷ codes "!=" ∷ codes "&&" ∷ codes "||" ∷ codes "!" ∷
    []

abbrev pub bitwise_signs : List (List ℕ)
bitwise_signs =
    codes "&" ∷ codes "|" ∷ codes "^" ∷ codes "^~" ∷ codes "~^" ∷ codes "~&" ∷ codes "~|" ∷ codes "~" ∷ []

abbrev pub bracket_signs : List (List ℕ)
bracket_signs =
    codes "(" ∷ codes ")" ∷ codes "[" ∷ codes "]" ∷ codes "{" ∷ codes "}" ∷ []

abbrev pub separator_signs : List (List ℕ)
separator_signs =
    codes "?" ∷ codes ":" ∷ codes "+:" ∷ codes "-:" ∷ codes "=" ∷ codes ";" ∷ codes "," ∷ codes "." ∷ codes "@" ∷
    codes "#" ∷ []

-- the signs that the language leaves out
abbrev pub outside_signs : List (List ℕ)
outside_signs = codes "===" ∷ codes "!==" ∷ codes "**" ∷ codes "\"" ∷ codes "\\" ∷ []

abbrev pub is_outside_sign : List ℕ → Bool
is_outside_sign text = is_among outside_signs text

unfoldable pub is_sign : List ℕ → Bool
is_sign text =
    is_among arithmetic_signs text
    || is_among comparison_signs text
    || is_among bitwise_signs text
    || is_among bracket_signs text
    || is_among separator_signs text
    || is_outside_sign text

-- the n bytes from i on are a sign
abbrev pub is_sign_of : ℕ → List ℕ → ℕ → Bool
is_sign_of n bs i = nat_le n (length bs - i) && is_sign (slice_range bs i (i + n))

-- how long the longest sign at i is; 0 where none begins
unfoldable pub sign_size : List ℕ → ℕ → ℕ
sign_size bs i = if is_sign_of 3 bs i then 3 else (if is_sign_of 2 bs i then 2 else (if is_sign_of 1 bs i then 1 else 0))
