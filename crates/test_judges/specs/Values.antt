-- A cycle of a module by the values of its signals.
use Rattle.std.specs.Prelude.{ℕ, ◌^◌, ◌<◌, ◌&&◌, Bool, true, false, nat_lt, List, [], ◌∷◌, get_or, if◌then◌else◌}
use Rattle.std.specs.Str.{bytes_eq}
use Rattle.vlog_tree_runs.specs.declared.flat.Signal.{Signal}
use Rattle.vlog_tree_runs.specs.Places.{Cycle}

-- one value for each signal, of its length
abbrev pub AreValues : List Signal → List ℕ → Type 0
AreValues [] [] = Unit {0}
AreValues [] (v ∷ vs) = ⊥
AreValues (g ∷ gs) [] = ⊥
AreValues (g ∷ gs) (v ∷ vs) = (v < 2 ^ g.width) × AreValues gs vs

-- the same, as a test
abbrev pub all_fit : List Signal → List ℕ → Bool
all_fit [] [] = true
all_fit [] (v ∷ vs) = false
all_fit (g ∷ gs) [] = false
all_fit (g ∷ gs) (v ∷ vs) = nat_lt v (2 ^ g.width) && all_fit gs vs

-- the cycle in which each signal has its value, and every other name 0
abbrev pub held : List Signal → List ℕ → Cycle
held [] vs x = 0
held (g ∷ gs) [] x = 0
held (g ∷ gs) (v ∷ vs) x = if bytes_eq g.name x then v else held gs vs x

-- the cycle of the row with a number
abbrev pub cycle_at : List Signal → List (List ℕ) → ℕ → Cycle
cycle_at gs rows t = held gs (get_or rows t [])
