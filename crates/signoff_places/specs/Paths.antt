-- Hierarchical names among tokens.
use Rattle.std.specs.Prelude.{ℕ, ◌&&◌, Bool, false, not, ◌==◌, List, [], ◌∷◌, drop, codes}
use Rattle.std.specs.List.{slice_split}
use Rattle.vlog_tree.specs.declared.token.Token.{Token}
use Rattle.signoff_places.specs.Tokens.{stands, begins_with_both}

abbrev pub is_dot : ℕ → Bool
is_dot b = b == 46

-- the parts stand here with dots between them, and no dot behind the last
abbrev pub spells_parts : List (List ℕ) → List Token → Bool
spells_parts [] here = false
spells_parts (part ∷ []) here = stands here 0 part && not (stands here 1 (codes "."))
spells_parts (part ∷ next ∷ parts) here = begins_with_both part (codes ".") here && spells_parts (next ∷ parts) (drop 2 here)

abbrev pub spells : List ℕ → List Token → Bool
spells path here = spells_parts (slice_split is_dot path) here
