-- What a function that adds a circuit to a netlist does.
use Rattle.std.specs.Prelude.{◌≡◌, ℕ, suc, ◌+◌, List, ◌++◌, length, replicate}
use Rattle.clause_check.specs.declared.literal.Lit.{Lit}
use Rattle.cnf_build.specs.Literals.{plus, minus}
use Rattle.cnf_build.specs.declared.gates.Gate.{Gate}
use Rattle.cnf_build.specs.declared.gates.Gate.TheVariants.{And, Xor, Mux}
use Rattle.cnf_build.specs.declared.circuits.Bitwise.{Bitwise}
use Rattle.cnf_build.specs.declared.circuits.Bitwise.TheVariants.{Both, Neither, Differ, Choice}
use Rattle.cnf_build.specs.Circuits.{Made, Sum, Flag, nor_gate, add_bit_gates, moved_up, moved_down, adder, zip_gates, row_lits, false_lit}
use Rattle.cnf_build.specs.declared.circuits.Direction.{Direction}
use Rattle.cnf_build.specs.declared.circuits.Direction.TheVariants.{Up, Down}

abbrev pub bit_gate : Bitwise → Lit → Lit → Gate
bit_gate Both = And
bit_gate Neither = nor_gate
bit_gate Differ = Xor
bit_gate (Choice c) = Mux c

-- the circuit's gates were added, and these are its literals
pub record Makes (old new : List Gate) (lits : List Lit) (m : Made) : Type 0 where
  pub gates : new ≡ old ++ m.gates
  pub lits_are : lits ≡ m.lits

pub record Sums (old new : List Gate) (lits : List Lit) (carry : Lit) (m : Sum) : Type 0 where
  pub gates : new ≡ old ++ m.gates
  pub lits_are : lits ≡ m.lits
  pub carry_is : carry ≡ m.carry

-- the sum and the carry of one bit
pub record AddsBit (old new : List Gate) (c a b : Lit) (out : Lit × Lit) : Type 0 where
  pub gates : new ≡ old ++ add_bit_gates (length old) c a b
  pub sum : out.0 ≡ plus (suc (length old))
  pub carry : out.1 ≡ minus (suc (suc (suc (suc (length old)))))

pub record Decides (old new : List Gate) (lit : Lit) (m : Flag) : Type 0 where
  pub gates : new ≡ old ++ m.gates
  pub lit_is : lit ≡ m.lit

abbrev pub moved_by : Direction → ℕ → List Lit → List Lit
moved_by Up = moved_up
moved_by (Down fill) = λ k. moved_down k fill

-- one step of a product: the sum so far, and the word with each bit and-ed with this bit
abbrev pub part_made : ℕ → List Lit → List Lit → Lit → Made
part_made n sum xs b =
    let part = zip_gates And xs (replicate (length xs) b) in
    let added = adder (n + length part) false_lit sum (row_lits n part) in
    record { gates = part ++ added.gates; lits = added.lits }
