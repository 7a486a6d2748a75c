-- Budgets that no obligation spends.
use Rattle.std.specs.Prelude.{ℕ, ◌^◌, ◌≤◌, length}
use Rattle.word_dag.specs.Nodes.{Parts}
use Rattle.cnf_build.specs.Lower.{netlist}
use Rattle.job_pool.specs.declared.evidence.Evidence.{Evidence}
use Rattle.job_pool.specs.declared.evidence.Evidence.TheVariants as e

-- the budget has as many steps as there are sets of signs of the variables of the obligation's clauses
abbrev pub IsAmple : ℕ → Parts → Type 0
IsAmple budget ob = 3 ^ length (netlist ob.nodes) ≤ budget

-- evidence that no values make the root 1, or that some do
abbrev pub IsVerdict : Evidence → Type 0
IsVerdict (e.Derivation steps) = Unit {0}
IsVerdict (e.Values us) = Unit {0}
IsVerdict (e.Chain steps) = ⊥

-- with an ample budget there is such evidence
abbrev pub DecidesIfAmple : ℕ → Parts → Evidence → Type 0
DecidesIfAmple budget ob evidence = IsAmple budget ob → IsVerdict evidence
