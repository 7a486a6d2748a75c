-- Dependences of signals as edges of a graph of their places (IEEE 1364-2005, sections 6.1 and 9.4).
use Rattle.std.specs.Prelude.{ℕ, ◌≡◌, ◌<◌, ◌↔◌, ◌++◌, false, List, map, slice_index}
use Rattle.std.specs.List.{flat_map}
use Rattle.std.specs.Option.{option_to_list}
use Rattle.vlog_tree.specs.declared.item.Assign.{Assign}
use Rattle.vlog_tree.specs.declared.stmt.Lval.{Lval}
use Rattle.vlog_tree_runs.specs.declared.flat.Always.{Always}
use Rattle.vlog_tree_runs.specs.declared.flat.Flat.{Flat}
use Rattle.vlog_tree_runs.specs.declared.flat.Signal.{Signal}
use Rattle.vlog_tree_runs.specs.Places.{Name, Among}
use Rattle.elab_flat_scopes.specs.Finding.{place_in}
use Rattle.elab_flat_faults.specs.Drivers.{parts_of, BlockDepends, DependsOn}
use Rattle.elab_step_laws.specs.Laws.{place_over}
use Rattle.elab_flat_drivers.specs.Parts.{reads_of}
use Rattle.elab_flat_drivers.specs.Claims.{part_name}
use Rattle.elab_flat_drivers.specs.Wanting.{left_reads}
use Rattle.elab_flat_graphs.specs.Graphs.{successors, Among as Lists}
use Rattle.elab_step_flow.specs.declared.edges.Edge.{Edge}
use Rattle.elab_step_flow.specs.Shows.{IsAt}

abbrev pub edge : ℕ → ℕ → Edge
edge i j = record { from = i; to = j }

-- an edge of places in a list of places, as one of the places that stand there
abbrev pub moved_edge : List ℕ → Edge → Edge
moved_edge places e = edge (slice_index places e.from) (slice_index places e.to)

-- the place of a part's signal; none where no signal has its name
abbrev pub part_place : List Name → Lval → List ℕ
part_place names q = option_to_list (place_in names (part_name q))

abbrev pub part_places : List Name → List Lval → List ℕ
part_places names qs = flat_map (part_place names) qs

-- an edge from each of some places to each of others
abbrev pub pairs : List ℕ → List ℕ → List Edge
pairs from to = flat_map (λ i. map (edge i) to) from

-- from what a continuous assignment assigns to what it reads
abbrev pub assign_edges : List Name → Assign → List Edge
assign_edges names a = pairs (part_places names (parts_of a.left)) (part_places names (left_reads a.left ++ reads_of a.right))

-- the edges of the places of signals are the dependences of their names
abbrev pub AreDependences : Flat → List (List ℕ) → Type 0
AreDependences f g = (i j : ℕ) (y z : Name) → IsAt f.signals i y → IsAt f.signals j z → Lists (successors g i) j ↔ DependsOn f y z

-- from each of k places to those in its row
abbrev pub IsInRows : ℕ → (ℕ → List ℕ) → Edge → Type 0
IsInRows k rows e = (e.from < k) × Among (rows e.from) e.to

-- on some path through a combinational block an assignment to the one depends on the other
abbrev pub IsBlockEdge : List Signal → Always → Edge → Type 0
IsBlockEdge gs k e = (k.clocked ≡ false) × ((y z : Name) × IsAt gs e.from y × IsAt gs e.to z × BlockDepends (place_over gs) k.body y z)

abbrev pub AnyBlockEdge : List Signal → List Always → Edge → Type 0
AnyBlockEdge gs ks e = (k : Always) × Among ks k × IsBlockEdge gs k e
