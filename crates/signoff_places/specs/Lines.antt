-- Places in a text, and what is shown of the line around one.
use Rattle.std.specs.Prelude.{ℕ, ◌+◌, ◌-◌, ◌/◌, ◌||◌, Bool, ◌==◌, nat_le, if◌then◌else◌, List, [], ◌∷◌, ◌++◌, length, take, drop, map, count_by, bit_and, codes}
use Rattle.std.specs.List.{after_last, before_first, flat_map}
use Rattle.signoff_places.specs.declared.place.Place.{Place}
use Rattle.signoff_places.specs.declared.place.TheConstants.{SHOWN}

abbrev pub is_feed : ℕ → Bool
is_feed b = b == 10

-- what stands behind the last line feed: all of it where there is none
unfoldable pub last_line : List ℕ → List ℕ
last_line text = after_last is_feed text

-- what stands before the first line feed: all of it where there is none
unfoldable pub first_line : List ℕ → List ℕ
first_line text = before_first is_feed text

-- the place that is reached behind these bytes: lines and columns are counted from 1
abbrev pub place_behind : List ℕ → Place
place_behind before = record { line = count_by is_feed before + 1; column = length (last_line before) + 1 }

-- the place of a byte, and past the end that of the end
abbrev pub place_at : List ℕ → ℕ → Place
place_at text at = place_behind (take at text)

-- what would move what follows on a terminal is shown as a space
unfoldable pub shown : ℕ → ℕ
shown b = if (b == 9) || nat_le 32 b then b else 32

-- the room that a byte takes: tabs stay, and the later bytes of a character of UTF-8 take none
unfoldable pub room : ℕ → List ℕ
room b = if b == 9 then 9 ∷ [] else (if bit_and b 192 == 128 then [] else 32 ∷ [])

-- a line fits where it has no more bytes than are shown
abbrev pub fits : List ℕ → List ℕ → Bool
fits head tail = nat_le (length head + length tail) SHOWN

-- of a line that doesn't fit, half of what is shown stands before the mark, as far as there is so much
unfoldable pub shown_head : List ℕ → List ℕ → List ℕ
shown_head head tail = if fits head tail then head else drop (length head - SHOWN / 2) head

-- and half behind it
unfoldable pub shown_tail : List ℕ → List ℕ → List ℕ
shown_tail head tail = if fits head tail then tail else take (SHOWN / 2) tail

-- a line that is cut in two at a mark, and below it the mark
abbrev pub marked : List ℕ → List ℕ → List ℕ
marked head tail = codes "    " ++ map shown head ++ map shown tail ++ codes "\n    " ++ flat_map room head ++ codes "^\n"

-- what is shown of the line around two parts of a text
abbrev pub marked_between : List ℕ → List ℕ → List ℕ
marked_between head tail = marked (shown_head head tail) (shown_tail head tail)

-- what is shown of a byte's line
unfoldable pub line_and_mark : List ℕ → ℕ → List ℕ
line_and_mark text at = marked_between (last_line (take at text)) (first_line (drop at text))
