-- The table of the nodes' literals.
use Rattle.std.specs.Prelude.{◌≤◌, List, [], ◌∷◌, length}
use Rattle.clause_check.specs.declared.literal.Lit.{Lit}

-- no word is longer than 64 bits
abbrev pub AllShort : List (List Lit) → Type 0
AllShort [] = Unit {0}
AllShort (ls ∷ t) = (length ls ≤ 64) × AllShort t
