-- Rows as traces, as tests.
use Rattle.std.specs.Prelude.{◌^◌, Bool, true, false, not, ◌&&◌, ◌||◌, nat_eq, nat_lt, List, [], ◌∷◌}
use Rattle.set_tree.specs.declared.set.Name.{Name}
use Rattle.set_tree.specs.Meaning.{Row}
use Rattle.set_tree.specs.Parts.{is_input}

-- a value for each name, of its length
abbrev pub fits_names : List Name → Row → Bool
fits_names [] [] = true
fits_names [] (v ∷ row) = false
fits_names (name ∷ names) [] = false
fits_names (name ∷ names) (v ∷ row) = nat_lt v (2 ^ name.width) && fits_names names row

-- two rows of the names in which the inputs have the same values
abbrev pub agrees : List Name → Row → Row → Bool
agrees [] [] [] = true
agrees [] [] (y ∷ ys) = false
agrees [] (x ∷ xs) ys = false
agrees (name ∷ names) [] ys = false
agrees (name ∷ names) (x ∷ xs) [] = false
agrees (name ∷ names) (x ∷ xs) (y ∷ ys) = (not (is_input name.role) || nat_eq x y) && agrees names xs ys

-- so they have in each row, and there are as many rows
abbrev pub all_agree : List Name → List Row → List Row → Bool
all_agree names [] [] = true
all_agree names [] (y ∷ ys) = false
all_agree names (x ∷ xs) [] = false
all_agree names (x ∷ xs) (y ∷ ys) = agrees names x y && all_agree names xs ys
