-- Whether values of a module's signals are a cycle, and whether a cycle follows another, as tests.
use Rattle.std.specs.Prelude.{ℕ, Bool, true, false, not, ◌&&◌, ◌||◌, List, [], ◌∷◌, map, bit_and, bit_or, nat_eq}
use Rattle.std.specs.List.{list_all, list_any}
use Rattle.std.specs.Str.{bytes_eq}
use Rattle.vlog_tree.specs.declared.item.Assign.{Assign}
use Rattle.vlog_tree.specs.declared.stmt.Lval.{Lval}
use Rattle.vlog_tree_runs.specs.declared.flat.Always.{Always}
use Rattle.vlog_tree_runs.specs.declared.flat.Flat.{Flat}
use Rattle.vlog_tree_runs.specs.declared.flat.Signal.{Signal}
use Rattle.vlog_tree_runs.specs.declared.flat.TopPort.{TopPort}
use Rattle.vlog_tree_runs.specs.Places.{Name, Cycle, store}
use Rattle.vlog_tree_runs.specs.Blocks.{run}
use Rattle.elab_flat_drivers.specs.Claims.{ones}
use Rattle.elab_step_laws.specs.Laws.{place_over}
use Rattle.test_judges.specs.Values.{held}
use Rattle.test_judges.specs.Numbers.{same_within}
use Rattle.test_judges.specs.Driving.{bits_in, names, body_parts, net_parts, clocked_parts}

-- each signal has in a cycle its value, as far as its mask tells
abbrev pub each_same : Cycle → List ℕ → List Signal → List ℕ → Bool
each_same c [] gs vs = true
each_same c (m ∷ ms) [] vs = true
each_same c (m ∷ ms) (g ∷ gs) [] = true
each_same c (m ∷ ms) (g ∷ gs) (v ∷ vs) = same_within m (c g.name) v && each_same c ms gs vs

-- all bits of each signal
abbrev pub whole : List Signal → List ℕ
whole gs = map (λ (g : Signal). ones 0 g.width) gs

-- a continuous assignment changes nothing
abbrev pub assign_holds : List Signal → List ℕ → Assign → Bool
assign_holds gs vs a = each_same (store (place_over gs) (held gs vs) a.left a.right (held gs vs)) (whole gs) gs vs

-- a combinational block changes nothing
abbrev pub block_holds : List Signal → List ℕ → Always → Bool
block_holds gs vs k = k.clocked || each_same (run true (place_over gs) k.body (held gs vs) (held gs vs)) (whole gs) gs vs

-- an input of the top
abbrev pub is_input : List TopPort → Name → Bool
is_input ps x = list_any (λ (p : TopPort). not p.output && bytes_eq p.name x) ps

-- a signal that is no register and no input has only bits that are driven
abbrev pub only_driven : List TopPort → List Lval → List Lval → Signal → ℕ → Bool
only_driven ps nets clocked g v = names clocked g.name || (is_input ps g.name || nat_eq (bit_and v (bits_in nets g)) v)

abbrev pub each_driven : List TopPort → List Lval → List Lval → List Signal → List ℕ → Bool
each_driven ps nets clocked [] vs = true
each_driven ps nets clocked (g ∷ gs) [] = true
each_driven ps nets clocked (g ∷ gs) (v ∷ vs) = only_driven ps nets clocked g v && each_driven ps nets clocked gs vs

-- the values are a cycle
abbrev pub is_cycle : Flat → List ℕ → Bool
is_cycle f vs = list_all (assign_holds f.signals vs) f.assigns && (list_all (block_holds f.signals vs) f.blocks && each_driven f.ports (net_parts f) (clocked_parts f) f.signals vs)

-- the bits that a clocked block drives have in the next cycle what it gives
abbrev pub block_gives : List Signal → List ℕ → List ℕ → Always → Bool
block_gives gs vs ws k =
    not k.clocked || each_same (run false (place_over gs) k.body (held gs vs) (held gs vs)) (map (bits_in (body_parts k.body)) gs) gs ws

-- the bits of a register that no clocked block drives keep their values
abbrev pub keeps_rest : List Lval → Signal → ℕ → ℕ → Bool
keeps_rest clocked g v w = not (names clocked g.name) || nat_eq (bit_or v (bits_in clocked g)) (bit_or w (bits_in clocked g))

abbrev pub each_keeps : List Lval → List Signal → List ℕ → List ℕ → Bool
each_keeps clocked [] vs ws = true
each_keeps clocked (g ∷ gs) [] ws = true
each_keeps clocked (g ∷ gs) (v ∷ vs) [] = true
each_keeps clocked (g ∷ gs) (v ∷ vs) (w ∷ ws) = keeps_rest clocked g v w && each_keeps clocked gs vs ws

-- the values ws follow vs
abbrev pub follows : Flat → List ℕ → List ℕ → Bool
follows f vs ws = list_all (block_gives f.signals vs ws) f.blocks && each_keeps (clocked_parts f) f.signals vs ws
