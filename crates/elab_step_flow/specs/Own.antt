-- The signals of a list that a statement names.
use Rattle.std.specs.Prelude.{ℕ, ◌≡◌, ◌++◌, List, [], ◌∷◌}
use Rattle.std.specs.List.{flat_map}
use Rattle.vlog_tree.specs.declared.stmt.Lval.{Lval}
use Rattle.vlog_tree.specs.declared.stmt.Stmt.{Stmt}
use Rattle.vlog_tree_runs.specs.declared.flat.Signal.{Signal}
use Rattle.vlog_tree_runs.specs.Places.{Name, Among}
use Rattle.vlog_tree_runs.specs.Blocks.{signal_at, left_names}
use Rattle.elab_flat_faults.specs.Texts.{names_in, numbers_in}
use Rattle.elab_flat_faults.specs.Drivers.{parts_of}
use Rattle.elab_flat_drivers.specs.Parts.{reads_of}
use Rattle.elab_flat_drivers.specs.Wanting.{left_reads}
use Rattle.elab_flat_drivers.specs.Pieces.{Action, Tests, Assigns, Schedules, actions}
use Rattle.elab_step_flow.specs.Asked.{AreVectors, IsPassable}
use Rattle.elab_step_flow.specs.Words.{IsSignalAt}

-- the names in what a statement does at one place of its text
abbrev pub action_names : Action → List Name
action_names (Tests a) = names_in a
action_names (Assigns left right) = left_names left ++ flat_map names_in (right ∷ numbers_in left)
action_names (Schedules left right) = left_names left ++ flat_map names_in (right ∷ numbers_in left)

-- the names in a statement
abbrev pub names_of : Stmt → List Name
names_of body = flat_map action_names (actions body)

-- the parts of signals in what a statement does at one place of its text
abbrev pub action_parts : Action → List Lval
action_parts (Tests a) = reads_of a
action_parts (Assigns left right) = parts_of left ++ (left_reads left ++ reads_of right)
action_parts (Schedules left right) = parts_of left ++ (left_reads left ++ reads_of right)

-- two lists of signals declare some names alike
abbrev pub DeclareAlike : List Signal → List Signal → List Name → Type 0
DeclareAlike gs hs xs = (x : Name) → Among xs x → signal_at gs x ≡ signal_at hs x

-- the signals at some places of a list, in their order
abbrev pub AreSignalsAt : List Signal → List ℕ → List Signal → Type 0
AreSignalsAt gs [] [] = Unit {0}
AreSignalsAt gs [] (h ∷ hs) = ⊥
AreSignalsAt gs (i ∷ is) [] = ⊥
AreSignalsAt gs (i ∷ is) (h ∷ hs) = IsSignalAt gs i h × AreSignalsAt gs is hs

-- signals at some places, among which a statement can be passed through as among all
pub record AreOwn (gs : List Signal) (body : Stmt) (places : List ℕ) (hs : List Signal) : Type 0 where
  pub there : AreSignalsAt gs places hs
  pub signals : AreVectors hs
  pub passable : IsPassable hs body
  pub alike : DeclareAlike gs hs (names_of body)
