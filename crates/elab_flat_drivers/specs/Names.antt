-- The names that are assigned in some form, and those of signals.
use Rattle.std.specs.Prelude.{Bool, true, false, not, List, [], ◌∷◌, if◌then◌else◌}
use Rattle.std.specs.List.{flat_map}
use Rattle.vlog_tree.specs.declared.stmt.Lval.{Lval}
use Rattle.vlog_tree.specs.declared.stmt.Stmt.{Stmt}
use Rattle.vlog_tree_runs.specs.declared.flat.Always.{Always}
use Rattle.vlog_tree_runs.specs.declared.flat.Signal.{Signal}
use Rattle.vlog_tree_runs.specs.Places.{Name}
use Rattle.vlog_tree_runs.specs.Blocks.{lefts, left_names}
use Rattle.elab_flat_faults.specs.ElabStands.{blocking_lefts, nonblocking_lefts}
use Rattle.elab_flat_drivers.specs.declared.names.Form.{Form}
use Rattle.elab_flat_drivers.specs.declared.names.Form.TheVariants as m
use Rattle.elab_flat_drivers.specs.Pieces.{Action, Tests, Assigns, Schedules}

abbrev pub is_same : Bool → Bool → Bool
is_same true b = b
is_same false b = not b

-- the left side of an assignment of a form
abbrev pub action_lefts : Form → Action → List Lval
action_lefts form (Tests a) = []
action_lefts m.Any (Assigns left right) = left ∷ []
action_lefts m.Blocking (Assigns left right) = left ∷ []
action_lefts m.Nonblocking (Assigns left right) = []
action_lefts m.Any (Schedules left right) = left ∷ []
action_lefts m.Blocking (Schedules left right) = []
action_lefts m.Nonblocking (Schedules left right) = left ∷ []

-- the left sides of the assignments of a form in a statement
abbrev pub form_lefts : Form → Stmt → List Lval
form_lefts m.Any body = lefts body
form_lefts m.Blocking body = blocking_lefts body
form_lefts m.Nonblocking body = nonblocking_lefts body

-- the names on the left in clocked blocks, or in combinational ones
abbrev pub chosen_names : Bool → Form → Always → List Name
chosen_names clocked form k = if is_same clocked k.clocked then flat_map left_names (form_lefts form k.body) else []

-- a signal's name, where it is declared by `reg`, or where it isn't
abbrev pub declared_names : Bool → Signal → List Name
declared_names reg g = if is_same reg g.reg then g.name ∷ [] else []

-- the names on the left of such an assignment
abbrev pub action_names : Form → Action → List Name
action_names form d = flat_map left_names (action_lefts form d)
