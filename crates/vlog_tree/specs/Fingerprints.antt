-- Fingerprints of names at offsets, and where entries with them stand.
use Rattle.std.specs.Prelude.{◌≡◌, ℕ, Bool, nat_eq, List, Option}
use Rattle.std.specs.Hash.{u32}
use Rattle.std.specs.Hash.FoldHasher.{initial, write, finish}
use Rattle.std.specs.List.{fold, position_from}
use Rattle.vlog_tree.specs.declared.valuation.Entry.{Entry}

-- a number that tells most names at offsets apart
unfoldable pub fingerprint : List ℕ → ℕ → ℕ
fingerprint x j = finish (fold write (write initial x) (u32 j))

-- has an entry this fingerprint?
abbrev pub has_print : ℕ → Entry → Bool
has_print p e = nat_eq (fingerprint e.name e.offset) p

-- the place of the first entry of a fingerprint, counted from i on
abbrev pub print_from : ℕ → List Entry → ℕ → Option ℕ
print_from i es p = position_from (has_print p) i es

-- this gives the place of the first entry of each fingerprint
abbrev pub IsIndex : List Entry → (ℕ → Option ℕ) → Type 0
IsIndex es first = (p : ℕ) → first p ≡ print_from 0 es p
