-- Where the names of modules are declared and used.
use Rattle.std.specs.Prelude.{ℕ, ◌&&◌, ◌||◌, Bool, not, if◌then◌else◌, List, [], ◌∷◌, Option, Some, None, drop, codes}
use Rattle.std.specs.Option.{option_map}
use Rattle.std.specs.List.{before_first}
use Rattle.std.specs.Str.{bytes_eq}
use Rattle.vlog_read_lex.specs.Words.{is_among}
use Rattle.vlog_tree.specs.declared.token.Token.{Token}
use Rattle.signoff_places.specs.Tokens.{word_of, word_at, stands, first_where, begins_with_both, is_word}

-- the first place at which a test holds of the word before it and of what stands there
abbrev pub first_behind : (List ℕ → List Token → Bool) → List ℕ → List Token → Option (List Token)
first_behind holds before [] = None
first_behind holds before (t ∷ ts) = if holds before (t ∷ ts) then Some (t ∷ ts) else first_behind holds (word_of t) ts

-- from a module's name up to its `endmodule`
abbrev pub module_in : List Token → List ℕ → Option (List Token)
module_in tokens name = option_map (before_first (is_word (codes "endmodule"))) (option_map (drop 1) (first_where (begins_with_both (codes "module") name) tokens))

abbrev pub is_reg : List Token → Bool
is_reg item = stands item 0 (codes "reg") || stands item 1 (codes "reg")

abbrev pub is_parameter : List Token → Bool
is_parameter item = stands item 0 (codes "parameter") || stands item 0 (codes "localparam")

-- the name behind the first dot before which it stands, within an item
abbrev pub given_in : List Token → List ℕ → Option (List Token)
given_in item name = option_map (drop 1) (first_where (begins_with_both (codes ".") name) (before_first (is_word (codes ";")) item))

-- a name stands here, and not behind a dot
abbrev pub is_use : List ℕ → List ℕ → List Token → Bool
is_use name before here = stands here 0 name && not (bytes_eq before (codes "."))

abbrev pub used_in : List Token → List ℕ → Option (List Token)
used_in body name = first_behind (is_use name) [] body

-- ---- declarations

-- behind a word that says more of a declaration's kind
abbrev pub behind_kind : List Token → List Token
behind_kind here = if is_among (codes "wire" ∷ codes "reg" ∷ codes "signed" ∷ []) (word_at here 0) then drop 1 here else here

-- the range, or the name where there is none: behind the words that begin a declaration
abbrev pub range_of : List Token → List Token
range_of item = behind_kind (behind_kind (drop 1 item))
