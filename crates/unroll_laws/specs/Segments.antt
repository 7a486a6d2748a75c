-- The segments that values of free words name. A segment is named by the values of the registers in its first cycle and of the inputs in each of
-- its cycles. Their words go by the name, side 0 and the cycle's number. The reset input has no word: its level follows from the cycle.
use Rattle.std.specs.Prelude.{◌≡◌, ◌≢◌, ℕ, suc, ◌^◌, ◌%◌, ℤ, pos, ◌-ℤ◌, List, [], ◌∷◌}
use Rattle.set_tree.specs.declared.set.Set.{Set}
use Rattle.vlog_tree_runs.specs.Places.{Cycle, Among}
use Rattle.word_dag.specs.Nodes.{Naming}
use Rattle.elab_step_design.specs.declared.design.Net.{Net}
use Rattle.elab_step_design.specs.declared.design.Register.{Register}
use Rattle.elab_step_design.specs.Designs.{Parts, source}
use Rattle.elab_step_design.specs.Laws.{DesignCycle}

-- the number of the cycle at a position, where k cycles stand before cycle 0
abbrev pub cycle_number : ℕ → ℕ → ℤ
cycle_number k i = pos i -ℤ pos k

-- in the cycle of this number a register or an input has the value of its free word, cut to its length
abbrev pub IsAsNamed : Naming → ℤ → Cycle → Net → Type 0
IsAsNamed e t c s = c s.name ≡ e s.name 0 t % 2 ^ s.width

-- so have the registers in the first cycle
abbrev pub HasNamedRegisters : (d : Parts) → ℕ → Naming → List (DesignCycle d) → Type 0
HasNamedRegisters d k e [] = Unit {0}
HasNamedRegisters d k e (c ∷ cycles) = (r : Register) → Among d.registers r → IsAsNamed e (cycle_number k 0) c.0 (source r)

-- and the inputs but the reset in each cycle, the first of which stands at position i
abbrev pub HasNamedInputs : (d : Parts) → Set → ℕ → Naming → ℕ → List (DesignCycle d) → Type 0
HasNamedInputs d set k e i [] = Unit {0}
HasNamedInputs d set k e i (c ∷ cycles) =
    ((n : Net) → Among d.inputs n → n.name ≢ set.reset → IsAsNamed e (cycle_number k i) c.0 n) × HasNamedInputs d set k e (suc i) cycles

-- the values name these cycles, k of which stand before cycle 0
pub record IsNamedBy (d : Parts) (set : Set) (k : ℕ) (e : Naming) (cycles : List (DesignCycle d)) : Type 0 where
  pub registers : HasNamedRegisters d k e cycles
  pub inputs : HasNamedInputs d set k e 0 cycles
