-- That modules run: whatever values their registers begin with and their inputs take, they have a run from reset of every length.
use Rattle.std.specs.Prelude.{◌≡◌, ◌≢◌, ℕ, suc, ◌^◌, ◌%◌, ◌++◌, List, [], ◌∷◌, length}
use Rattle.vlog_tree.specs.declared.module.Module.{Module}
use Rattle.vlog_tree_runs.specs.declared.flat.Flat.{Flat}
use Rattle.vlog_tree_runs.specs.Places.{Among, Cycle, Name}
use Rattle.elab_flat_laws.specs.Flattened.{KeepsRuns}
use Rattle.set_tree.specs.declared.set.Set.{Set}
use Rattle.set_tree.specs.Runs.{IsRunFromReset}
use Rattle.elab_step_design.specs.SetDesigns.{CycleFrom, design_from}
use Rattle.elab_step_design.specs.declared.design.Net.{Net}
use Rattle.elab_step_design.specs.declared.design.Register.{Register}
use Rattle.elab_step_design.specs.Designs.{HasRunsOf, IsDesign, Parts}
use Rattle.unroll_binding.specs.Binding.{Fits}

-- the registers have these values in the first of some cycles, each cut to its length
abbrev pub BeginsWith : (ms : List Module) (top : Name) → Parts → Cycle → List (CycleFrom ms top) → Type 0
BeginsWith ms top d values [] = Unit {0}
BeginsWith ms top d values (c ∷ cycles) = (r : Register) → Among d.registers r → c.0 r.name ≡ values r.name % 2 ^ r.width

-- the inputs but the reset have these values in each of them, the first of which stands at position i
abbrev pub Takes : (ms : List Module) (top : Name) → Parts → Set → (ℕ → Cycle) → ℕ → List (CycleFrom ms top) → Type 0
Takes ms top d set values i [] = Unit {0}
Takes ms top d set values i (c ∷ cycles) =
    ((n : Net) → Among d.inputs n → n.name ≢ set.reset → c.0 n.name ≡ values i n.name % 2 ^ n.width) × Takes ms top d set values (suc i) cycles

-- a run of the modules from reset with n cycles after those of reset, whose registers begin with the values of position 0 and whose inputs take
-- those of each position
pub record HasRunFromReset (ms : List Module) (top : Name) (d : Parts) (set : Set) (values : ℕ → Cycle) (n : ℕ) : Type 0 where
  pub resets : List (CycleFrom ms top)
  pub cycles : List (CycleFrom ms top)
  pub from_reset : IsRunFromReset (design_from ms top set) set resets cycles
  pub size : length cycles ≡ n
  pub begins : BeginsWith ms top d (values 0) (resets ++ cycles)
  pub takes : Takes ms top d set values 0 (resets ++ cycles)

-- for all values and of every length
abbrev pub HasRunsFromReset : List Module → Name → Parts → Set → Type 0
HasRunsFromReset ms top d set = (values : ℕ → Cycle) (n : ℕ) → HasRunFromReset ms top d set values n

-- modules have them where a design that the set fits has their runs
abbrev pub BoundModulesRun : Type 0
BoundModulesRun =
    (ms : List Module) (top : Name) (f : Flat) (d : Parts) (set : Set) → KeepsRuns ms top f → HasRunsOf f d → IsDesign d → Fits d set → HasRunsFromReset ms top d set
