-- The parts of a design, from the leaves of a module's signals: as they are begun, as nets are solved, and after the edge.
use Rattle.std.specs.Prelude.{◌≡◌, ◌⊎◌, ℕ, Bool, if◌then◌else◌, List, [], ◌∷◌, map, drop, Option, Some, None}
use Rattle.std.specs.List.{flat_map}
use Rattle.vlog_tree_runs.specs.declared.flat.Flat.{Flat}
use Rattle.vlog_tree_runs.specs.declared.flat.Signal.{Signal}
use Rattle.vlog_tree_runs.specs.declared.flat.TopPort.{TopPort}
use Rattle.vlog_tree_runs.specs.Places.{Name}
use Rattle.vlog_tree_runs.specs.Cycles.{IsRegister}
use Rattle.elab_flat_scopes.specs.Finding.{place_in}
use Rattle.elab_step_design.specs.declared.design.Net.{Net}
use Rattle.elab_step_design.specs.declared.design.Register.{Register}
use Rattle.elab_step_design.specs.Designs.{IsDesign, Parts}
use Rattle.elab_step_expr.specs.declared.leaves.Leaf.{Leaf}

-- the first elements of three lists, the second ones, and so on
abbrev pub zip3 : {A B C : Type 0} → List A → List B → List C → List (A × B × C)
zip3 [] ys zs = []
zip3 (x ∷ xs) [] zs = []
zip3 (x ∷ xs) (y ∷ ys) [] = []
zip3 (x ∷ xs) (y ∷ ys) (z ∷ zs) = (x, y, z) ∷ zip3 xs ys zs

-- a leaf's name, length and node
abbrev pub own_net : Leaf → Net
own_net l = record { name = l.name; width = l.width; node = l.node }

-- the node of a signal: that to which a net is solved, or that with which any other one is begun
abbrev pub net_node : Bool → Leaf → Leaf → ℕ
net_node is_net begun solved = if is_net then solved.node else begun.node

abbrev pub net_of : Bool × Leaf × Leaf → Net
net_of t = record { name = t.1.name; width = t.1.width; node = net_node t.0 t.1 t.2 }

-- the register of a signal that is one
abbrev pub register_of : Bool × Leaf × Leaf → List Register
register_of t = if t.0 then record { name = t.1.name; width = t.1.width; node = t.1.node; next = t.2.node } ∷ [] else []

-- the first leaf
abbrev pub first_net : List Leaf → List Net
first_net [] = []
first_net (l ∷ ls) = own_net l ∷ []

abbrev pub net_at : Option ℕ → List Leaf → List Net
net_at None ls = []
net_at (Some i) ls = first_net (drop i ls)

-- the net of an input of the top, the leaves having these names
abbrev pub input_of : List Name → List Leaf → TopPort → List Net
input_of names ls p = if p.output then [] else net_at (place_in names p.name) ls

abbrev pub output_of : TopPort → List Name
output_of p = if p.output then p.name ∷ [] else []

-- the names of the ports of the top that are inputs
abbrev pub input_name : TopPort → List Name
input_name p = if p.output then [] else p.name ∷ []

-- a name and its length in bits
abbrev pub net_size : Net → Name × ℕ
net_size n = (n.name, n.width)

abbrev pub signal_size : Signal → Name × ℕ
signal_size g = (g.name, g.width)

-- of these signals those that a clocked block assigns, each with its length, in their order
abbrev pub AreRegistersOf : Flat → List Signal → List Register → Type 0
AreRegistersOf f [] [] = Unit {0}
AreRegistersOf f [] (r ∷ rs) = ⊥
AreRegistersOf f (g ∷ gs) [] = (IsRegister f g.name → ⊥) × AreRegistersOf f gs []
AreRegistersOf f (g ∷ gs) (r ∷ rs) =
    (IsRegister f g.name × (r.name ≡ g.name) × (r.width ≡ g.width) × AreRegistersOf f gs rs) ⊎ ((IsRegister f g.name → ⊥) × AreRegistersOf f gs (r ∷ rs))

-- a design has the signals of a module, each with its length, and its registers, both in the order in which the module declares them; the inputs,
-- each one of the signals, and the outputs in the order of its header; and its clock and resets
pub record HasSignals (f : Flat) (d : Parts) : Type 0 where
  pub design : IsDesign d
  pub nets : map net_size d.nets ≡ map signal_size f.signals
  pub registers : AreRegistersOf f f.signals d.registers
  pub inputs : map (λ (n : Net). n.name) d.inputs ≡ flat_map input_name f.ports
  pub outputs : d.outputs ≡ flat_map output_of f.ports
  pub clock : d.clock ≡ f.clock
  pub asyncs : d.asyncs ≡ f.asyncs
