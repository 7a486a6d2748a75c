-- What an assignment makes of literals and clauses.
use Rattle.std.specs.Prelude.{ℕ, ◌==◌, Bool, true, false, not, ◌&&◌, ◌||◌, if◌then◌else◌, List, [], ◌∷◌, ◌++◌, Option, Some, None}
use Rattle.std.specs.Option.{option_to_list}
use Rattle.clause_check.specs.declared.literal.Lit.{Lit}
use Rattle.clause_check.specs.Clauses.{negated}

-- the literal of a variable, and its negation
abbrev pub plus : ℕ → Lit
plus v = record { var = v; negative = false }

abbrev pub minus : ℕ → Lit
minus v = record { var = v; negative = true }

-- is the literal true?
abbrev pub holds : (ℕ → Bool) → Lit → Bool
holds s l = if l.negative then not (s l.var) else s l.var

abbrev pub some_holds : (ℕ → Bool) → List Lit → Bool
some_holds s [] = false
some_holds s (l ∷ ls) = holds s l || some_holds s ls

-- does every clause have a true literal?
abbrev pub all_hold : (ℕ → Bool) → List (List Lit) → Bool
all_hold s [] = true
all_hold s (c ∷ cs) = some_holds s c && all_hold s cs

-- are the literals the same?
abbrev pub same_lit : Lit → Lit → Bool
same_lit a b = a.var == b.var && (if a.negative then b.negative else not b.negative)

abbrev pub has_lit : List Lit → Lit → Bool
has_lit [] l = false
has_lit (m ∷ ms) l = same_lit m l || has_lit ms l

-- the further literals, each once, or none where a literal meets its negation
abbrev pub tidy_from : List Lit → List Lit → Option (List Lit)
tidy_from kept [] = Some kept
tidy_from kept (l ∷ ls) =
    if has_lit kept (negated l) then None else (if has_lit kept l then tidy_from kept ls else tidy_from (kept ++ l ∷ []) ls)

-- a clause with each literal once, or none where it holds in any case
abbrev pub tidy : List Lit → Option (List Lit)
tidy ls = tidy_from [] ls

-- the clauses that are left
abbrev pub tidied : List (List Lit) → List (List Lit)
tidied [] = []
tidied (c ∷ cs) = option_to_list (tidy c) ++ tidied cs
