-- The text of a stimulus: a line for each cycle, with the values of the set's inputs in declared order, in decimal, with single spaces between them;
-- each line is ended by a line feed. The first lines are the reset cycles.
use Rattle.std.specs.Prelude.{◌⊎◌, ◌≡◌, ◌≢◌, ◌<◌, ◌≤◌, ◌+◌, ◌*◌, ◌-◌, ◌^◌, ◌++◌, ◌&&◌, ℕ, Bool, nat_eq, nat_le, nat_lt, List, [], ◌∷◌, length, filter, Option, Some, None, if◌then◌else◌}
use Rattle.std.specs.List.{All, list_all}
use Rattle.set_tree.specs.declared.set.Name.{Name}
use Rattle.set_tree.specs.declared.set.Set.{Set}
use Rattle.set_tree.specs.Meaning.{Row}
use Rattle.set_tree.specs.Parts.{is_input}
use Rattle.path_machine.specs.declared.rows.RowFault.{RowFault}
use Rattle.path_machine.specs.declared.rows.RowFault.TheVariants.{Long, Row as BadRow, Short, Memory}

-- the inputs of a set, in declared order
abbrev pub inputs_of : Set → List Name
inputs_of set = filter (λ (n : Name). is_input n.role) set.names

abbrev pub width_of : Name → ℕ
width_of input = input.width

-- ---- one line

abbrev pub is_digit : ℕ → Bool
is_digit c = nat_le 48 c && nat_le c 57

-- the number that digits are behind this one
abbrev pub number_from : ℕ → List ℕ → ℕ
number_from n [] = n
number_from n (c ∷ cs) = number_from (n * 10 + (c - 48)) cs

-- 1 to 20 digits
abbrev pub is_number : List ℕ → Bool
is_number word = nat_le 1 (length word) && (nat_le (length word) 20 && list_all is_digit word)

-- the value of a word for an input of this many bits
abbrev pub value_of : ℕ → List ℕ → Option ℕ
value_of width word = if is_number word && nat_lt (number_from 0 word) (2 ^ width) then Some (number_from 0 word) else None

-- a value before others
abbrev pub with_value : Option ℕ → Option Row → Option Row
with_value None values = None
with_value (Some u) None = None
with_value (Some u) (Some values) = Some (u ∷ values)

-- a word for each input
abbrev pub values_of : List Name → List (List ℕ) → Option Row
values_of [] [] = Some []
values_of [] (word ∷ words) = None
values_of (input ∷ inputs) [] = None
values_of (input ∷ inputs) (word ∷ words) = with_value (value_of input.width word) (values_of inputs words)

-- a byte before the first of some words
abbrev pub to_first : ℕ → List (List ℕ) → List (List ℕ)
to_first c [] = (c ∷ []) ∷ []
to_first c (word ∷ words) = (c ∷ word) ∷ words

-- what stands between single spaces: with n of them n + 1 words, which may be empty
abbrev pub split_words : List ℕ → List (List ℕ)
split_words [] = [] ∷ []
split_words (c ∷ cs) = if nat_eq c 32 then [] ∷ split_words cs else to_first c (split_words cs)

-- the words of what is left of a line behind a word, where there is a space
abbrev pub words_left : Option (List ℕ) → List (List ℕ)
words_left None = []
words_left (Some cs) = split_words cs

-- an empty line has no words
abbrev pub words_of : List ℕ → List (List ℕ)
words_of [] = []
words_of (c ∷ cs) = split_words (c ∷ cs)

-- the row that a line spells, without its line feed
abbrev pub row_of : List Name → List ℕ → Option Row
row_of inputs line = values_of inputs (words_of line)

-- ---- the text

-- no line feed stands in a line
abbrev pub IsLine : List ℕ → Type 0
IsLine line = All (λ c. c ≢ 10) line

abbrev pub ended : List ℕ → List ℕ
ended line = line ++ 10 ∷ []

-- a line that spells a row, with its line feed
abbrev pub Spells : List Name → List ℕ → Row → Type 0
Spells inputs line row = IsLine line × (row_of inputs line ≡ Some row)

-- these lines, each ended, spell these rows
pub data SpellsRows (inputs : List Name) : List ℕ → List Row → Type 0 where
  none : SpellsRows inputs [] []
  one : (line text : List ℕ) (row : Row) (rows : List Row) → Spells inputs line row → SpellsRows inputs text rows → SpellsRows inputs (ended line ++ text) (row ∷ rows)

-- a text whose first line isn't ended, or spells no row
abbrev pub BeginsBadly : List Name → List ℕ → Type 0
BeginsBadly inputs text =
    ((text ≢ []) × IsLine text) ⊎ ((line rest : List ℕ) × (text ≡ ended line ++ rest) × IsLine line × (row_of inputs line ≡ None))

-- the first line of a text is ended and spells this row, and this is the rest
pub record Begins (inputs : List Name) (text : List ℕ) (row : Row) (rest : List ℕ) : Type 0 where
  pub line : List ℕ
  pub split : text ≡ ended line ++ rest
  pub spelt : Spells inputs line row

-- line n, counted from 1, is the first that spells no row or isn't ended
pub record IsBadAt (inputs : List Name) (text : List ℕ) (n : ℕ) : Type 0 where
  pub before : List ℕ
  pub rest : List ℕ
  pub split : text ≡ before ++ rest
  pub rows : List Row
  pub good : SpellsRows inputs before rows
  pub number : length rows + 1 ≡ n
  pub bad : BeginsBadly inputs rest

-- what a refusal of a line says: it is the first bad one, or memory ran out
abbrev pub IsBadRow : List Name → List ℕ → RowFault → Type 0
IsBadRow inputs text Long = ⊥
IsBadRow inputs text (BadRow n) = IsBadAt inputs text n
IsBadRow inputs text Short = ⊥
IsBadRow inputs text Memory = Unit {0}

-- the most bytes of a text
abbrev pub limit : ℕ
limit = 1048576

-- the rows of a text of at most so many bytes, the reset cycles among them
pub record IsRead (set : Set) (text : List ℕ) (rows : List Row) : Type 0 where
  pub short : length text ≤ limit
  pub spelt : SpellsRows (inputs_of set) text rows
  pub enough : set.cycles ≤ length rows

-- the first of these that stands: more bytes than that; a line that spells no row; fewer rows than reset cycles
abbrev pub Stands : Set → List ℕ → RowFault → Type 0
Stands set text Long = limit < length text
Stands set text (BadRow n) = (length text ≤ limit) × IsBadAt (inputs_of set) text n
Stands set text Short = (length text ≤ limit) × ((rows : List Row) × SpellsRows (inputs_of set) text rows × (length rows < set.cycles))
Stands set text Memory = Unit {0}
