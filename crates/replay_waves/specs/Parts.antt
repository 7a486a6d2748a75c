-- The parts of a value change dump (IEEE 1364-2005, 18.2): identifier codes, values and declarations.
use Rattle.std.specs.Prelude.{ℕ, zero, suc, ◌+◌, ◌/◌, ◌%◌, nat_eq, nat_lt, Bool, false, not, List, [], ◌∷◌, ◌++◌, codes, if◌then◌else◌}
use Rattle.std.specs.Fmt.{decimal, digits}
use Rattle.std.specs.List.{flat_map}
use Rattle.replay_waves.specs.declared.wave.Kind.{Kind}
use Rattle.replay_waves.specs.declared.wave.Kind.TheVariants.{Wire, Reg, Integer}

-- the digits of a number in base 94, the lowest first, as the printable characters from `!` on; at most k of them
abbrev pub digits94 : ℕ → ℕ → List ℕ
digits94 zero n = []
digits94 (suc k) n = if nat_lt n 94 then (33 + n) ∷ [] else (33 + n % 94) ∷ digits94 k (n / 94)

-- the identifier code of the variable with this number
unfoldable pub code : ℕ → List ℕ
code n = digits94 (suc n) n

-- ---- values (18.2.2)

-- of one bit: the bit and the code
unfoldable pub scalar : ℕ → Bool → List ℕ
scalar number bit = (if bit then 49 else 48) ∷ [] ++ code number ++ 10 ∷ []

-- of more bits: `b`, the bits without leading zeros, a space and the code
unfoldable pub vector : ℕ → ℕ → List ℕ
vector number value = codes "b" ++ digits 2 false value ++ codes " " ++ code number ++ 10 ∷ []

unfoldable pub value_text : ℕ → ℕ → ℕ → List ℕ
value_text width number value = if nat_eq width 1 then scalar number (not (nat_eq value 0)) else vector number value

-- a time, in the unit of the dump
unfoldable pub time : ℕ → List ℕ
time t = codes "#" ++ decimal t ++ 10 ∷ []

-- ---- declarations (18.2.3)

unfoldable pub scope : List ℕ → List ℕ
scope name = codes "$scope module " ++ name ++ codes " $end\n"

abbrev pub upscope : List ℕ
upscope = codes "$upscope $end\n"

abbrev pub kind_word : Kind → List ℕ
kind_word Wire = codes "wire"
kind_word Reg = codes "reg"
kind_word Integer = codes "integer"

-- up to its length, and from its name on
abbrev pub type_text : Kind → ℕ → List ℕ
type_text kind width = codes "$var " ++ kind_word kind ++ codes " " ++ decimal width ++ codes " "

abbrev pub name_text : List ℕ → List ℕ
name_text name = codes " " ++ name ++ codes " $end\n"

unfoldable pub var_text : Kind → ℕ → ℕ → List ℕ → List ℕ
var_text kind width number name =
    codes "$var " ++ kind_word kind ++ codes " " ++ decimal width ++ codes " " ++ code number ++ codes " " ++ name ++ codes " $end\n"

-- the scopes that a path opens, one for each part that a dot ends; the first argument is read already
abbrev pub scopes : List ℕ → List ℕ → List ℕ
scopes part [] = []
scopes part (c ∷ path) = if nat_eq c 46 then scope part ++ scopes [] path else scopes (part ++ c ∷ []) path

-- one byte of it: the scope that it opens, and what is read then
abbrev pub opened : List ℕ → ℕ → List ℕ
opened part c = if nat_eq c 46 then scope part else []

abbrev pub next_part : List ℕ → ℕ → List ℕ
next_part part c = if nat_eq c 46 then [] else part ++ c ∷ []

-- the last part of a path
abbrev pub last_part : List ℕ → List ℕ → List ℕ
last_part part [] = part
last_part part (c ∷ path) = if nat_eq c 46 then last_part [] path else last_part (part ++ c ∷ []) path

-- an end for each dot
abbrev pub ended : ℕ → List ℕ
ended c = if nat_eq c 46 then upscope else []

abbrev pub upscopes : List ℕ → List ℕ
upscopes path = flat_map (λ c. if nat_eq c 46 then upscope else []) path

-- a variable in the scopes of its path
unfoldable pub declared : Kind → ℕ → ℕ → List ℕ → List ℕ
declared kind width number path = scopes [] path ++ var_text kind width number (last_part [] path) ++ upscopes path
