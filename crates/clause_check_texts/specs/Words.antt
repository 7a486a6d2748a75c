-- Lines, words and numbers.
use Rattle.std.specs.Prelude.{ℕ, ◌+◌, ◌*◌, ◌-◌, ◌^◌, ◌&&◌, ◌||◌, Bool, true, false, nat_eq, nat_le, nat_lt, List, [], ◌∷◌, length, Option, Some, None, option_map, if◌then◌else◌}
use Rattle.std.specs.List.{filter, list_all, slice_split}
use Rattle.clause_check_texts.specs.declared.words.Number.{Number}

-- a line feed
abbrev pub is_end : ℕ → Bool
is_end c = nat_eq c 10

-- a space, a tab or a carriage return
abbrev pub is_blank : ℕ → Bool
is_blank c = nat_eq c 32 || (nat_eq c 9 || nat_eq c 13)

-- the lines of a text, without their line feeds
abbrev pub lines : List ℕ → List (List ℕ)
lines text = slice_split is_end text

-- the lines of what is left of a text behind a line feed, where there is one
abbrev pub split_left : Option (List ℕ) → List (List ℕ)
split_left None = []
split_left (Some text) = lines text

abbrev pub is_some_word : List ℕ → Bool
is_some_word word = nat_lt 0 (length word)

-- what stands between blanks
abbrev pub words : List ℕ → List (List ℕ)
words line = filter is_some_word (slice_split is_blank line)

abbrev pub is_digit : ℕ → Bool
is_digit c = nat_le 48 c && nat_le c 57

-- the number that digits are behind this one
abbrev pub number_from : ℕ → List ℕ → ℕ
number_from n [] = n
number_from n (c ∷ cs) = number_from (n * 10 + (c - 48)) cs

-- decimal digits of a number below 2^60
abbrev pub is_size : List ℕ → Bool
is_size word = is_some_word word && (list_all is_digit word && nat_lt (number_from 0 word) (2 ^ 60))

abbrev pub size_of : List ℕ → Option ℕ
size_of word = if is_size word then Some (number_from 0 word) else None

abbrev pub signed : Bool → ℕ → Number
signed negative size = record { negative = negative; size = size }

-- digits, which may have a minus in front
abbrev pub number_of : List ℕ → Option Number
number_of [] = None
number_of (c ∷ cs) = if nat_eq c 45 then option_map (signed true) (size_of cs) else option_map (signed false) (size_of (c ∷ cs))
