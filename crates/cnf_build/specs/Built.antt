-- What building gives.
use Rattle.std.specs.Prelude.{◌≡◌, ℕ, ◌<◌, ◌≤◌, Bool, false, List, length, slice_index_or}
use Rattle.std.specs.List.{All}
use Rattle.clause_check.specs.declared.formula.Cnf.{Cnf}
use Rattle.clause_check.specs.Derivations.{Holds}
use Rattle.word_dag.specs.declared.node.Node.{Node}
use Rattle.word_dag.specs.Given.{AllFit, free_count}
use Rattle.cnf_build.specs.Meaning.{read_words, RootIs1}

-- 1 to 64 variables of these many
abbrev pub IsBits : ℕ → List ℕ → Type 0
IsBits vars vs = (0 < length vs) × (length vs ≤ 64) × All (λ v. v < vars) vs

-- the value of a variable
abbrev pub at : List Bool → ℕ → Bool
at assignment v = slice_index_or assignment v false

-- an assignment that holds, and that has in bits the given values, where they are one for each free node and fit
pub record Shows (nodes : List Node) (cnf : Cnf) (bits : List (List ℕ)) (us : List ℕ) (assignment : List Bool) : Type 0 where
  pub holds : Holds cnf assignment
  pub reads : AllFit us nodes → length us ≡ free_count nodes → read_words (at assignment) bits ≡ us

-- The clauses are satisfiable exactly where values of the free nodes make the root 1: what an assignment that holds has in
-- bits are such values, and where there are such values an assignment holds that has them.
pub record Carries (nodes : List Node) (root : ℕ) (cnf : Cnf) (bits : List (List ℕ)) : Type 0 where
  pub to_values : (assignment : List Bool) → Holds cnf assignment → RootIs1 nodes root (read_words (at assignment) bits)
  pub values_fit : (assignment : List Bool) → AllFit (read_words (at assignment) bits) nodes
  pub from_values : (us : List ℕ) → RootIs1 nodes root us → (assignment : List Bool) × Shows nodes cnf bits us assignment
