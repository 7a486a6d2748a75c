-- What a line of LRAT says (Cruz-Filipe, Heule, Hunt, Kaufmann and Schneider-Kamp, 2017).
use Rattle.std.specs.Prelude.{ℕ, ◌+◌, ◌&&◌, Bool, not, false, nat_eq, List, [], ◌∷◌, length, Option, Some, None, if◌then◌else◌}
use Rattle.std.specs.List.{after_first, before_first, list_all, position_or_len}
use Rattle.clause_check_texts.specs.declared.words.Number.{Number}
use Rattle.clause_check_texts.specs.declared.line.Entry.{Entry}
use Rattle.clause_check_texts.specs.declared.line.Entry.TheVariants.{Nothing, Addition}
use Rattle.clause_check_texts.specs.Words.{number_of, size_of, words}

-- nothing that matters; or a step: its ID, its literals and its hints
pub data Content : Type 0 where
  nothing : Content
  adds : ℕ → List Number → List Number → Content

abbrev pub content : Entry → Content
content Nothing = nothing
content (Addition a) = adds a.id a.lits.items a.hints.items

abbrev pub is_zero : Number → Bool
is_zero n = nat_eq n.size 0

-- the only 0 is the last
abbrev pub are_ended : List Number → Bool
are_ended numbers = nat_eq (position_or_len is_zero numbers + 1) (length numbers)

abbrev pub with_number : Option Number → Option (List Number) → Option (List Number)
with_number None numbers = None
with_number (Some n) None = None
with_number (Some n) (Some numbers) = Some (n ∷ numbers)

-- the numbers that words are, where each is one
abbrev pub numbers_of : List (List ℕ) → Option (List Number)
numbers_of [] = Some []
numbers_of (word ∷ words) = with_number (number_of word) (numbers_of words)

-- IDs and a 0
abbrev pub deletion_of : List Number → Option Content
deletion_of numbers = if are_ended numbers && list_all (λ n. not n.negative) numbers then Some nothing else None

-- literals, a 0, hints and a 0
abbrev pub addition_of : ℕ → List Number → Option Content
addition_of id numbers =
    if are_ended (after_first is_zero numbers)
    then Some (adds id (before_first is_zero numbers) (before_first is_zero (after_first is_zero numbers)))
    else None

abbrev pub deletion_if : Option (List Number) → Option Content
deletion_if None = None
deletion_if (Some numbers) = deletion_of numbers

abbrev pub addition_if : ℕ → Option (List Number) → Option Content
addition_if id None = None
addition_if id (Some numbers) = addition_of id numbers

-- the word d
abbrev pub is_delete : List ℕ → Bool
is_delete [] = false
is_delete (c ∷ []) = nat_eq c 100
is_delete (c ∷ (d ∷ cs)) = false

-- what follows the ID
abbrev pub rest_of : ℕ → List (List ℕ) → Option Content
rest_of id [] = None
rest_of id (word ∷ words) = if is_delete word then deletion_if (numbers_of words) else addition_if id (numbers_of (word ∷ words))

abbrev pub rest_if : Option ℕ → List (List ℕ) → Option Content
rest_if None words = None
rest_if (Some id) words = rest_of id words

-- no word, or an ID and what follows
abbrev pub said_by : List (List ℕ) → Option Content
said_by [] = Some nothing
said_by (word ∷ words) = rest_if (size_of word) words

-- a comment begins with c
abbrev pub is_comment : List ℕ → Bool
is_comment [] = false
is_comment (c ∷ cs) = nat_eq c 99

-- what a line says, where it is a line of LRAT
abbrev pub content_of : List ℕ → Option Content
content_of line = if is_comment line then Some nothing else said_by (words line)
