use Rattle.std.specs.Prelude.{ℕ, ◌+◌, ◌-◌, ◌*◌, ◌<◌, ◌^◌, nat_lt, List, [], ◌∷◌, ◌++◌, length, map, All, if◌then◌else◌}
use Rattle.std.specs.List.{flat_map}
use Rattle.std.specs.Int.{w32, w64, to_be_bytes}
use Rattle.clause_check.specs.declared.literal.Lit.{Lit}
use Rattle.clause_check.specs.Clauses.{IsClause}
use Rattle.proof_store_records.specs.declared.version.Version.{Version}
use Rattle.proof_store_records.specs.declared.version.Version.TheVariants.{First, Second}
use Rattle.proof_store_records.specs.Varint.{varint}

-- the two bytes in front of a record
abbrev pub mark : Version → List ℕ
mark First = 0x44 ∷ 0x31 ∷ []
mark Second = 0x44 ∷ 0x32 ∷ []

-- each version has its bytes
abbrev pub IsAny : Version → Type 0
IsAny version = Unit {0}

-- how many steps, literals or hints follow
unfoldable pub count_bytes : Version → ℕ → List ℕ
count_bytes First n = to_be_bytes w32 n
count_bytes Second n = varint n

unfoldable pub number_bytes : Version → ℕ → List ℕ
number_bytes First n = to_be_bytes w64 n
number_bytes Second n = varint n

-- the length of a list, and its elements one after another
abbrev pub counted : {X : Type 0} → (ℕ → List ℕ) → (X → List ℕ) → List X → List ℕ
counted count code xs = count (length xs) ++ flat_map code xs

abbrev pub list_bytes : Version → List ℕ → List ℕ
list_bytes version numbers = counted (count_bytes version) (number_bytes version) numbers

abbrev pub lit_value : Lit → ℕ
lit_value l = 2 * l.var + (if l.negative then 1 else 0)

-- twice the distance from the hint before, and 1 more for a lower hint
abbrev pub distance : ℕ → ℕ → ℕ
distance before hint = if nat_lt hint before then 2 * (before - hint) + 1 else 2 * (hint - before)

abbrev pub distances_after : ℕ → List ℕ → List ℕ
distances_after before [] = []
distances_after before (hint ∷ hints) = distance before hint ∷ distances_after hint hints

-- the first hint as it is, and each further one by its distance
abbrev pub distances : List ℕ → List ℕ
distances [] = []
distances (hint ∷ hints) = hint ∷ distances_after hint hints

abbrev pub hint_numbers : Version → List ℕ → List ℕ
hint_numbers First hints = hints
hint_numbers Second hints = distances hints

abbrev pub lits_bytes : Version → List Lit → List ℕ
lits_bytes version lits = list_bytes version (map lit_value lits)

abbrev pub hints_bytes : Version → List ℕ → List ℕ
hints_bytes version hints = list_bytes version (hint_numbers version hints)

-- a step, as its clause and its hints
abbrev pub step_bytes : Version → List Lit × List ℕ → List ℕ
step_bytes version step = lits_bytes version step.0 ++ hints_bytes version step.1

abbrev pub steps_bytes : Version → List (List Lit × List ℕ) → List ℕ
steps_bytes version steps = counted (count_bytes version) (step_bytes version) steps

-- numbers of steps, of literals and of hints stay below this
abbrev pub count_limit : Version → ℕ
count_limit First = 2 ^ 32
count_limit Second = 2 ^ 64

-- a list with fewer elements than the limit, each of which fits
pub record FitsList {X : Type 0} (limit : ℕ) (Fit : X → Type 0) (xs : List X) : Type 0 where
  pub count : length xs < limit
  pub each : All Fit xs

abbrev pub FitsNumbers : Version → List ℕ → Type 0
FitsNumbers version numbers = FitsList (count_limit version) (λ n. n < 2 ^ 64) numbers

-- lists of variables and of hints, which have 32 bits
abbrev pub FitsLits : Version → List Lit → Type 0
FitsLits version lits = FitsList (count_limit version) (λ l. l.var < 2 ^ 32) lits

abbrev pub FitsHints : Version → List ℕ → Type 0
FitsHints version hints = FitsList (count_limit version) (λ h. h < 2 ^ 32) hints

-- few enough literals and hints
abbrev pub FitsStep : Version → List Lit × List ℕ → Type 0
FitsStep version step = (length step.0 < count_limit version) × (length step.1 < count_limit version)

abbrev pub FitsClause : Version → List Lit → Type 0
FitsClause version lits = FitsLits version lits × IsClause lits

-- a step that fits, whose clause has no variable twice
abbrev pub CanStand : Version → List Lit × List ℕ → Type 0
CanStand version step = FitsClause version step.0 × FitsHints version step.1

abbrev pub CanStandAll : Version → List (List Lit × List ℕ) → Type 0
CanStandAll version steps = FitsList (count_limit version) (CanStand version) steps
