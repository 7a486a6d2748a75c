-- How the texts of a module use names, in the order of the texts.
use Rattle.std.specs.Prelude.{◌&&◌, nat_eq, Bool, true, false, List, [], ◌∷◌, ◌++◌, if◌then◌else◌}
use Rattle.std.specs.List.{flat_map, list_any}
use Rattle.vlog_tree.specs.declared.expr.Expr.{Expr}
use Rattle.vlog_tree.specs.declared.item.Assign.{Assign}
use Rattle.vlog_tree.specs.declared.stmt.Lval.{Lval}
use Rattle.vlog_tree.specs.declared.stmt.Lval.TheVariants as l
use Rattle.vlog_tree_runs.specs.declared.flat.Always.{Always}
use Rattle.vlog_tree_runs.specs.declared.flat.Flat.{Flat}
use Rattle.vlog_tree_runs.specs.declared.flat.Signal.{Signal}
use Rattle.vlog_tree_runs.specs.Places.{Name}
use Rattle.vlog_tree_runs.specs.Contents.{is_among}
use Rattle.elab_flat_faults.specs.Texts.{names_in}
use Rattle.elab_flat_faults.specs.Drivers.{parts_of}
use Rattle.elab_flat_drivers.specs.Parts.{reads_of}
use Rattle.elab_flat_drivers.specs.Pieces.{Action, Tests, Assigns, Schedules, actions}
use Rattle.elab_flat_drivers.specs.Wanting.{left_reads}
use Rattle.mem_laws.specs.Uses.{listed}

-- an assignment uses the parts of its left side, and what its numbers and its right side read
abbrev pub store_uses : Lval → Expr → List Lval
store_uses left right = parts_of left ++ (left_reads left ++ reads_of right)

abbrev pub assign_uses : Assign → List Lval
assign_uses a = store_uses a.left a.right

abbrev pub action_uses : Action → List Lval
action_uses (Tests a) = reads_of a
action_uses (Assigns left right) = store_uses left right
action_uses (Schedules left right) = store_uses left right

abbrev pub block_uses : Always → List Lval
block_uses k = flat_map action_uses (actions k.body)

-- all uses of names in the texts of a module, each as the left side that it would be
abbrev pub uses_of : Flat → List Lval
uses_of f = flat_map assign_uses f.assigns ++ flat_map block_uses f.blocks

-- ---- memories

abbrev pub memory_names : Signal → List Name
memory_names g = if nat_eq g.depth 0 then [] else g.name ∷ []

-- the names of the memories
abbrev pub memories_of : Flat → List Name
memories_of f = flat_map memory_names f.signals

-- the name of a use without exactly one plain index
abbrev pub whole_names : Lval → List Name
whole_names (l.Name x) = x ∷ []
whole_names (l.Select x a) = []
whole_names (l.Part x span a b) = x ∷ []
whole_names (l.Concat' h row) = []

-- a use of a memory with one index
abbrev pub is_indexed : List Name → Lval → Bool
is_indexed ms (l.Name x) = false
is_indexed ms (l.Select x a) = is_among ms x
is_indexed ms (l.Part x span a b) = false
is_indexed ms (l.Concat' h row) = false

-- the same, where the index names a memory
abbrev pub is_nested : List Name → Lval → Bool
is_nested ms (l.Name x) = false
is_nested ms (l.Select x a) = is_among ms x && list_any (is_among ms) (names_in a)
is_nested ms (l.Part x span a b) = false
is_nested ms (l.Concat' h row) = false

-- the names that a block without edges waits for
abbrev pub block_listed : Always → List Name
block_listed k = listed k.names
