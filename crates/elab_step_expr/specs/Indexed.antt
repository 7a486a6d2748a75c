-- Bits of a vector that a variable index names.
use Rattle.std.specs.Prelude.{Bool, false, ℤ, pos, negsuc, nat_eq}

-- whether two integers are one
abbrev pub is_same : ℤ → ℤ → Bool
is_same (pos a) (pos b) = nat_eq a b
is_same (pos a) (negsuc b) = false
is_same (negsuc a) (pos b) = false
is_same (negsuc a) (negsuc b) = nat_eq a b
