-- Where the names of a set are declared and used.
use Rattle.std.specs.Prelude.{ℕ, ◌&&◌, Bool, false, nat_lt, if◌then◌else◌, List, [], ◌∷◌, Option, Some, None, drop, codes, fold}
use Rattle.std.specs.Option.{option_map, option_map_or, option_and_then, option_or}
use Rattle.std.specs.List.{before_first}
use Rattle.vlog_read_lex.specs.Words.{is_among}
use Rattle.vlog_tree.specs.declared.token.Token.{Token}
use Rattle.signoff_places.specs.Paths.{spells}
use Rattle.signoff_places.specs.Tokens.{word_of, begins_from, word_at, number_at, stands, first_where, begins, begins_with_both, is_word, width_at}

-- the word behind the first `block`
abbrev pub block_of : List Token → List ℕ
block_of set = option_map_or (λ here. word_at here 1) (first_where (begins (codes "block")) set) []

-- the words that begin a declaration
abbrev pub declares : List ℕ → Bool
declares word = is_among (codes "input" ∷ codes "output" ∷ codes "state" ∷ []) word

-- the declared width, behind the role and `signed`
abbrev pub width_of_item : List Token → Option ℕ
width_of_item item = width_at (if stands item 1 (codes "signed") then drop 2 item else drop 1 item)

-- from the name of an operation or else of a property up to the next operation
abbrev pub property_in : List Token → List ℕ → Option (List Token)
property_in set name =
    option_map (before_first (is_word (codes "operation"))) (
    option_or (option_map (drop 1) (first_where (begins_with_both (codes "operation") name) set))
    (option_map (drop 1) (first_where (begins_with_both (codes "property") name) set)))

abbrev pub is_above : ℕ → Option ℕ → Bool
is_above bound (Some offset) = nat_lt bound offset
is_above bound None = false

-- an offset above a bound stands here
abbrev pub begins_above : ℕ → List Token → Bool
begins_above bound here = stands here 0 (codes "@") && is_above bound (number_at here 1)

abbrev pub window_by : Option (List Token) → Option (List Token) → Option ℕ
window_by (Some window) length = number_at window 1
window_by None (Some length) = option_or (number_at length 3) (number_at length 1)
window_by None None = None

-- the number behind `window`, else the greatest one behind `length`
abbrev pub window_of : List Token → Option ℕ
window_of property = window_by (first_where (begins (codes "window")) property) (first_where (begins (codes "length")) property)

-- ---- lists of successors

-- the second place of a name in the list that begins here, up to its `;`
abbrev pub again_in : List ℕ → List Token → Option (List Token)
again_in name here =
    if begins (codes "next") here
    then option_and_then (λ once. first_where (begins name) (drop 1 once)) (first_where (begins name) (before_first (is_word (codes ";")) here))
    else None

-- what the first place gives that gives something
abbrev pub first_given : (List Token → Option (List Token)) → List Token → Option (List Token)
first_given given [] = None
first_given given (t ∷ ts) = option_or (given (t ∷ ts)) (first_given given ts)

abbrev pub next_again : List Token → List ℕ → Option (List Token)
next_again set name = first_given (again_in name) set

-- ---- clauses

-- a token that begins a clause on properties or outputs, or ends a clause, leaves its own word
abbrev pub clause_behind : List ℕ → Token → List ℕ
clause_behind clause t = if is_among (codes "next" ∷ codes "cover" ∷ codes ";" ∷ []) (word_of t) then word_of t else clause

-- what goes on at a byte
abbrev pub clause_before : List Token → ℕ → List ℕ
clause_before set byte = fold clause_behind [] (before_first (begins_from byte) set)

-- ---- covers

-- a cover of an output stands here
abbrev pub covers : List ℕ → List Token → Bool
covers output here = stands here 0 (codes "cover") && spells output (drop 1 here)
