-- The least values of an obligation, and what shows that they are.
use Rattle.std.specs.Prelude.{◌≡◌, ◌==◌, ℕ, suc, zero, List, [], ◌∷◌, ◌++◌, length, map, take, All, IsSomeAnd, slice_get, slice_index, slice_index_or, if◌then◌else◌}
use Rattle.clause_check.specs.declared.literal.Lit.{Lit}
use Rattle.clause_check.specs.declared.formula.Cnf.{Cnf}
use Rattle.clause_check.specs.declared.formula.Step.{Step}
use Rattle.clause_check.specs.Derivations.{IsRefutation}
use Rattle.cnf_build.specs.Literals.{plus, minus}
use Rattle.word_dag.specs.declared.node.Node.{Node}
use Rattle.word_dag.specs.Nodes.{Parts}
use Rattle.word_dag.specs.Given.{AllFit, free_count}
use Rattle.cnf_build.specs.Lower.{netlist, ob_clauses, ob_bits}
use Rattle.cnf_build.specs.Meaning.{RootIs1}
use Rattle.cdcl.specs.Closed.{IsHonest}
use Rattle.least_trace.specs.declared.bits.Bit.{Bit}
use Rattle.least_trace.specs.declared.ends.Excluded.{Excluded}
use Rattle.least_trace.specs.declared.ends.LeastEnd.{LeastEnd}
use Rattle.least_trace.specs.declared.ends.LeastEnd.TheVariants.{Found, Stopped}
use Rattle.least_trace.specs.Bits.{InOrder, bit_in, Before}

-- one value for each free node in number order, each within its width, at which the root is 1
pub record Satisfy (ob : Parts) (us : List ℕ) : Type 0 where
  pub many : length us ≡ free_count ob.nodes
  pub fit : AllFit us ob.nodes
  pub root : RootIs1 ob.nodes ob.root us

-- no values at which the root is 1 come before these by these bits
abbrev pub NoneBefore : Parts → List Bit → List ℕ → Type 0
NoneBefore ob bits us = (vs : List ℕ) → Satisfy ob vs → Before bits vs us → ⊥

-- the variable of a bit
abbrev pub var_of : List Node → Bit → ℕ
var_of nodes b = slice_index (slice_index_or (ob_bits nodes) b.place []) b.height

-- the unit clause that a bit is as in the values
abbrev pub as_in : List Node → List ℕ → Bit → List Lit
as_in nodes us b = (if bit_in us b == 1 then plus (var_of nodes b) else minus (var_of nodes b)) ∷ []

-- the unit clause that a bit is 0
abbrev pub is_zero : List Node → Bit → List Lit
is_zero nodes b = minus (var_of nodes b) ∷ []

-- a unit clause for each bit before bit i as in the values, then the one that bit i is 0
abbrev pub units_below : List Node → List ℕ → List Bit → ℕ → List (List Lit)
units_below nodes us [] i = []
units_below nodes us (b ∷ bits) zero = is_zero nodes b ∷ []
units_below nodes us (b ∷ bits) (suc i) = as_in nodes us b ∷ units_below nodes us bits i

-- the clauses of the obligation, then those units: what holds for them has 0 at bit i and comes before the values there
pub record IsBelow (ob : Parts) (bits : List Bit) (us : List ℕ) (i : ℕ) (cnf : Cnf) : Type 0 where
  pub vars : cnf.vars ≡ length (netlist ob.nodes)
  pub clauses : cnf.clauses ≡ ob_clauses ob.nodes ob.root ++ units_below ob.nodes us bits i

-- the steps refute that the bit is 0
pub record Excludes (ob : Parts) (bits : List Bit) (us : List ℕ) (e : Excluded) : Type 0 where
  pub formula : Cnf
  pub below : IsBelow ob bits us e.bit formula
  pub refuted : IsRefutation formula e.steps.items

-- the numbers of the bits that are 1, the first of these bits having the number k
abbrev pub ones_from : ℕ → List ℕ → List Bit → List ℕ
ones_from k us [] = []
ones_from k us (b ∷ bits) = if bit_in us b == 1 then k ∷ ones_from (suc k) us bits else ones_from (suc k) us bits

abbrev pub number_of : Excluded → ℕ
number_of e = e.bit

-- the least values, and in order an entry for each bit that is 1
pub record IsFound (ob : Parts) (us : List ℕ) (excluded : List Excluded) : Type 0 where
  pub bits : List Bit
  pub order : InOrder ob.nodes bits
  pub witness : Satisfy ob us
  pub least : NoneBefore ob bits us
  pub entries : map number_of excluded ≡ ones_from 0 us bits
  pub each : All (Excludes ob bits us) excluded

-- an honest chain of so many steps, which leaves open whether bit i can be 0
pub record IsSpent (budget : ℕ) (ob : Parts) (bits : List Bit) (us : List ℕ) (i : ℕ) (chain : List Step) : Type 0 where
  pub formula : Cnf
  pub below : IsBelow ob bits us i formula
  pub count : length chain ≡ budget
  pub honest : IsHonest formula chain

-- values with 1 at bit i, where the chain is spent, and which no values come before at an earlier bit
pub record IsStopped (budget : ℕ) (ob : Parts) (us : List ℕ) (i : ℕ) (chain : List Step) : Type 0 where
  pub bits : List Bit
  pub order : InOrder ob.nodes bits
  pub witness : Satisfy ob us
  pub one : IsSomeAnd (slice_get bits i) (λ b. bit_in us b ≡ 1)
  pub none_before : NoneBefore ob (take i bits) us
  pub spent : IsSpent budget ob bits us i chain

-- what the search ends with, within a budget of steps for each bit
abbrev pub IsLeastEnd : ℕ → Parts → LeastEnd → Type 0
IsLeastEnd budget ob (Found values excluded) = IsFound ob values.items excluded.items
IsLeastEnd budget ob (Stopped values bit chain) = IsStopped budget ob values.items bit chain.items

-- an end that has the least values
abbrev pub IsFoundEnd : LeastEnd → Type 0
IsFoundEnd (Found values excluded) = Unit {0}
IsFoundEnd (Stopped values bit chain) = ⊥
