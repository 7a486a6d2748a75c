-- Where the search for the least values stands.
use Rattle.std.specs.Prelude.{◌≡◌, ◌<◌, ◌+◌, ℕ, Option, Some, None, suc, zero, List, [], ◌∷◌, ◌++◌, length, map, take, drop, All, IsSomeAnd, slice_get, slice_index, slice_index_or}
use Rattle.std.proofs.Common.{Vec, Global}
use Rattle.clause_check.specs.declared.formula.Cnf.{Cnf}
use Rattle.clause_check.specs.declared.formula.Step.{Step}
use Rattle.word_dag.specs.declared.node.Node.{Node}
use Rattle.word_dag.specs.Nodes.{Parts}
use Rattle.cnf_build.specs.Lower.{netlist, ob_clauses, ob_bits}
use Rattle.cnf_build.specs.Built.{IsBits, Carries}
use Rattle.least_trace.specs.declared.bits.Bit.{Bit}
use Rattle.least_trace.specs.declared.ends.Excluded.{Excluded}
use Rattle.least_trace.specs.declared.walk.Walk.{Walk}
use Rattle.least_trace.specs.Bits.{bit_in}
use Rattle.least_trace.specs.Least.{IsSpent, Satisfy, NoneBefore, as_in, Excludes, ones_from, number_of}

-- so many values, those that are missing being 0
abbrev pub padded : ℕ → List ℕ → List ℕ
padded zero us = []
padded (suc k) us = slice_index us 0 ∷ padded k (drop 1 us)

-- a bit of a free word
pub record IsBit (nodes : List Node) (b : Bit) : Type 0 where
  pub place : b.place < length (ob_bits nodes)
  pub height : b.height < length (slice_index_or (ob_bits nodes) b.place [])

-- the clauses of the obligation are there, and carry values to assignments and back
pub record IsCarried (ob : Parts) : Type 0 where
  pub formula : Cnf
  pub vars : formula.vars ≡ length (netlist ob.nodes)
  pub clauses : formula.clauses ≡ ob_clauses ob.nodes ob.root
  pub in_range : All (IsBits (length (netlist ob.nodes))) (ob_bits ob.nodes)
  pub carries : Carries ob.nodes ob.root formula (ob_bits ob.nodes)

-- the first i bits are decided: no values come before these by them, and unit clauses keep them as they are
pub record IsFixed (ob : Parts) (bits : List Bit) (i : ℕ) (cnf : Cnf) (us : List ℕ) (excluded : List Excluded) : Type 0 where
  pub vars : cnf.vars ≡ length (netlist ob.nodes)
  pub clauses : cnf.clauses ≡ ob_clauses ob.nodes ob.root ++ map (as_in ob.nodes us) (take i bits)
  pub witness : Satisfy ob us
  pub none_before : NoneBefore ob (take i bits) us
  pub entries : map number_of excluded ≡ ones_from 0 us (take i bits)
  pub before : All (λ e. e.bit < i) excluded
  pub each : All (Excludes ob bits us) excluded

-- a walk over these bits of the obligation, of which the first i are decided
pub record IsWalk (ob : Parts) (bits : List Bit) (i : ℕ) (w : Walk) : Type 0 where
  pub carried : IsCarried ob
  pub known : All (IsBit ob.nodes) bits
  pub vars_are : w.built.bits.items ≡ ob_bits ob.nodes
  pub fixed : IsFixed ob bits i w.built.cnf w.values.items w.excluded.items

-- the bit is 1 in the values of the walk, which no values come before at an earlier bit, and the chain is spent on it
pub record IsSpentWalk (budget : ℕ) (ob : Parts) (bits : List Bit) (i : ℕ) (w : Walk) (chain : List Step) : Type 0 where
  pub witness : Satisfy ob w.values.items
  pub one : IsSomeAnd (slice_get bits i) (λ b. bit_in w.values.items b ≡ 1)
  pub none_before : NoneBefore ob (take i bits) w.values.items
  pub spent : IsSpent budget ob bits w.values.items i chain

-- bit i is decided too, or the budget is spent on it
abbrev pub IsNext : ℕ → Parts → List Bit → ℕ → Walk → Option (Vec Step Global) → Type 0
IsNext budget ob bits i w None = IsWalk ob bits (i + 1) w
IsNext budget ob bits i w (Some chain) = IsSpentWalk budget ob bits i w chain.items
