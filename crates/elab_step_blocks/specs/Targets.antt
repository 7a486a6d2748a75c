-- The parts of a left side, as nodes of a dag.
use Rattle.std.specs.Prelude.{ℕ, zero, suc, ◌+◌, ◌/◌, ◌^◌, ◌<◌, List, [], ◌∷◌, map, length, ℤ, pos, negsuc, ◌-ℤ◌, ◌≤ℤ◌, ◌<ℤ◌}
use Rattle.word_dag.specs.declared.node.Node.{Node}
use Rattle.word_dag.specs.Nodes.{Naming}
use Rattle.vlog_tree.specs.Valuation.{IsLength}
use Rattle.vlog_tree.specs.Value.{integer}
use Rattle.vlog_tree_runs.specs.Places.{Name, Cycle, Piece, give, put}
use Rattle.elab_step_expr.specs.declared.leaves.Leaf.{Leaf}
use Rattle.elab_step_expr.specs.Nodes.{number_at, IsWire}
use Rattle.elab_step_blocks.specs.declared.targets.Spot.{Spot}
use Rattle.elab_step_blocks.specs.declared.targets.Spot.TheVariants as s
use Rattle.elab_step_blocks.specs.declared.targets.Target.{Target}
use Rattle.elab_step_blocks.specs.Standing.{AreShown}

-- the name and the length of the leaf of this number
abbrev pub name_at : List Leaf → ℕ → Name
name_at [] i = []
name_at (l ∷ ls) zero = l.name
name_at (l ∷ ls) (suc i) = name_at ls i

abbrev pub width_at : List Leaf → ℕ → ℕ
width_at [] i = 0
width_at (l ∷ ls) zero = l.width
width_at (l ∷ ls) (suc i) = width_at ls i

-- the number of the bit at which a spot begins, counted from its signal's lowest one
abbrev pub bit_at : Naming → List Node → Spot → ℤ
bit_at e ns (s.Fixed i) = i
bit_at e ns (s.Indexed a from) = integer a.signed a.wire.width (number_at e ns a.wire.node) -ℤ from

-- the part of a left side that a target is
abbrev pub piece_of : Naming → List Node → List Leaf → Target → Piece
piece_of e ns ls t = record { name = name_at ls t.leaf; size = width_at ls t.leaf; from = bit_at e ns t.spot; count = t.count }

abbrev pub pieces_of : Naming → List Node → List Leaf → List Target → List Piece
pieces_of e ns ls ts = map (piece_of e ns ls) ts

-- how many bits targets have
abbrev pub bits_in : List Target → ℕ
bits_in [] = 0
bits_in (t ∷ ts) = t.count + bits_in ts

-- a spot's index is a node
abbrev pub IsSpot : List Node → Spot → Type 0
IsSpot ns (s.Fixed i) = (negsuc (2 ^ 100) ≤ℤ i) × (i <ℤ pos (2 ^ 100))
IsSpot ns (s.Indexed a from) = IsWire ns a.wire × (negsuc (2 ^ 80) ≤ℤ from) × (from <ℤ pos (2 ^ 80))

-- a target's leaf is there, and it has from 1 to 64 bits
pub record IsTarget (ls : List Leaf) (ns : List Node) (t : Target) : Type 0 where
  pub leaf : t.leaf < length ls
  pub count : IsLength t.count
  pub spot : IsSpot ns t.spot

abbrev pub AreTargets : List Leaf → List Node → List Target → Type 0
AreTargets ls ns [] = Unit {0}
AreTargets ls ns (t ∷ ts) = IsTarget ls ns t × AreTargets ls ns ts

-- the later leaves show each cycle that the earlier ones show after a node's number is put into a target
abbrev pub Puts : Target → ℕ → List Leaf → List Node → List Leaf → List Node → Type 0
Puts t n ls old ms new = (e : Naming) (d : Cycle) → AreShown e old ls d → AreShown e new ms (put (piece_of e old ls t) (number_at e old n) d)

-- the same where it is moved down by so many bits first
abbrev pub PutsFrom : Target → ℕ → ℕ → List Leaf → List Node → List Leaf → List Node → Type 0
PutsFrom t n lo ls old ms new = (e : Naming) (d : Cycle) → AreShown e old ls d → AreShown e new ms (put (piece_of e old ls t) (number_at e old n / 2 ^ lo) d)

-- the same after it is given to targets
abbrev pub Gives : List Target → ℕ → List Leaf → List Node → List Leaf → List Node → Type 0
Gives ts n ls old ms new = (e : Naming) (d : Cycle) → AreShown e old ls d → AreShown e new ms (give (pieces_of e old ls ts) (number_at e old n) d)
