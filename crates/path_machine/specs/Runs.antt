-- The run from reset that rows of inputs give.
use Rattle.std.specs.Prelude.{◌≡◌, ◌≢◌, ◌<◌, ◌^◌, ◌++◌, ℕ, List, [], ◌∷◌, if◌then◌else◌}
use Rattle.std.specs.List.{AllZip}
use Rattle.std.specs.Str.{bytes_eq}
use Rattle.vlog_tree.specs.declared.module.Module.{Module}
use Rattle.vlog_tree_runs.specs.declared.flat.Flat.{Flat}
use Rattle.vlog_tree_runs.specs.Places.{Among, Cycle}
use Rattle.vlog_tree_runs.specs.Places.{Name as Text}
use Rattle.elab_flat_laws.specs.Flattened.{KeepsRuns}
use Rattle.set_tree.specs.declared.set.Name.{Name}
use Rattle.set_tree.specs.declared.set.Set.{Set}
use Rattle.set_tree.specs.Meaning.{Row}
use Rattle.set_tree.specs.Runs.{Design, IsRunFromReset, trace_of}
use Rattle.elab_step_design.specs.SetDesigns.{design_from}
use Rattle.elab_step_design.specs.declared.design.Net.{Net}
use Rattle.elab_step_design.specs.declared.design.Register.{Register}
use Rattle.elab_step_design.specs.Designs.{HasRunsOf, Parts}
use Rattle.elab_step_design.specs.Laws.{word_design}
use Rattle.path_machine.specs.Rows.{inputs_of}

-- the value that a row gives to a name: that of the input of this name, and 0 for any other
abbrev pub given : List Name → Row → Text → ℕ
given [] row x = 0
given (input ∷ inputs) [] x = 0
given (input ∷ inputs) (u ∷ row) x = if bytes_eq input.name x then u else given inputs row x

-- the registers are 0 in the first of some cycles
abbrev pub BeginsAt0 : {P : Cycle → Type 0} → Parts → List ((c : Cycle) × P c) → Type 0
BeginsAt0 d [] = Unit {0}
BeginsAt0 d (c ∷ cycles) = (r : Register) → Among d.registers r → c.0 r.name ≡ 0

-- as many cycles as rows, in each of which the inputs but the reset have what its row gives them: so the clock is 0, where it is an input
abbrev pub TakesRows : {P : Cycle → Type 0} → Parts → Set → List Row → List ((c : Cycle) × P c) → Type 0
TakesRows d set [] [] = Unit {0}
TakesRows d set [] (c ∷ cycles) = ⊥
TakesRows d set (row ∷ rows) [] = ⊥
TakesRows d set (row ∷ rows) (c ∷ cycles) =
    ((n : Net) → Among d.inputs n → n.name ≢ set.reset → c.0 n.name ≡ given (inputs_of set) row n.name) × TakesRows d set rows cycles

-- the trace of a run from reset, after its reset cycles, whose registers are 0 at first and whose inputs are given by rows
pub record IsRunTrace {P : Cycle → Type 0} (design : Design ((c : Cycle) × P c)) (d : Parts) (set : Set) (rows trace : List Row) : Type 0 where
  pub resets : List ((c : Cycle) × P c)
  pub cycles : List ((c : Cycle) × P c)
  pub from_reset : IsRunFromReset design set resets cycles
  pub begins : BeginsAt0 d (resets ++ cycles)
  pub takes : TakesRows d set rows (resets ++ cycles)
  pub is : trace ≡ trace_of design cycles

-- a row has for each input a value below 2^length
abbrev pub IsInputRow : Set → Row → Type 0
IsInputRow set row = AllZip (λ (input : Name) u. u < 2 ^ input.width) (inputs_of set) row

-- ---- the law

-- what is so of a design is so of modules whose runs it has
abbrev pub RunTracesAreTheModules : Type 0
RunTracesAreTheModules =
    (ms : List Module) (f : Flat) (d : Parts) (set : Set) (rows trace : List Row) → KeepsRuns ms set.block f → HasRunsOf f d →
    IsRunTrace (word_design d set) d set rows trace → IsRunTrace (design_from ms set.block set) d set rows trace
