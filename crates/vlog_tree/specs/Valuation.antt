-- What names stand for.
use Rattle.std.specs.Prelude.{ℕ, ◌^◌, ◌<◌, ◌≤◌, ◌&&◌, ◌++◌, Bool, nat_eq, List, [], ◌∷◌, Option, Some, None, false, unwrap_or, codes, decimal, if◌then◌else◌}
use Rattle.std.specs.List.{position_from}
use Rattle.std.specs.Option.{option_map}
use Rattle.std.specs.Str.{bytes_eq}
use Rattle.vlog_tree.specs.declared.expr.Constant.{Constant}
use Rattle.vlog_tree.specs.declared.expr.Name.{Name}
use Rattle.vlog_tree.specs.declared.valuation.Entry.{Entry}

-- a length in bits
abbrev pub IsLength : ℕ → Type 0
IsLength n = (1 ≤ n) × (n ≤ 64)

-- a value of its length
abbrev pub EntryFits : Entry → Type 0
EntryFits e = IsLength e.width × (e.value < 2 ^ e.width)

abbrev pub AllFit : List Entry → Type 0
AllFit [] = Unit {0}
AllFit (e ∷ es) = EntryFits e × AllFit es

-- the first entry of a name at an offset
abbrev pub entry_at : List Entry → List ℕ → ℕ → Option Entry
entry_at [] x j = None
entry_at (e ∷ es) x j = if nat_eq e.offset j && bytes_eq e.name x then Some e else entry_at es x j

-- has an entry this name and this offset?
abbrev pub is_named : List ℕ → ℕ → Entry → Bool
is_named x j e = nat_eq e.offset j && bytes_eq e.name x

-- the place of the first entry of a name at an offset
abbrev pub place_at : List Entry → List ℕ → ℕ → Option ℕ
place_at es x j = position_from (is_named x j) 0 es

-- the entries with these values in place of those of the first
abbrev pub written : List Entry → List ℕ → List Entry
written [] xs = []
written (e ∷ es) [] = e ∷ es
written (e ∷ es) (x ∷ xs) = record e { value = x } ∷ written es xs

-- what an entry says of its name
abbrev pub meant : Entry → Constant
meant e = record { width = e.width; low = e.low; signed = e.signed; value = e.value }

-- what a name stands for
abbrev pub meaning_of : List Entry → Name → Option Constant
meaning_of v x = option_map meant (entry_at v x.text x.offset)

-- the same, and one bit of 0 where it stands for nothing
abbrev pub named : List Entry → Name → Constant
named v x = unwrap_or (meaning_of v x) (record { width = 1; low = 0; signed = false; value = 0 })

-- the number of words of a memory, and 0 of any other name
abbrev pub depth_of : List Entry → Name → ℕ
depth_of v x = unwrap_or (option_map (λ e. e.depth) (entry_at v x.text x.offset)) 0

-- the name of a memory's word
abbrev pub word_name : Name → ℕ → Name
word_name x j = record { text = x.text ++ codes "$" ++ decimal j; offset = x.offset }
