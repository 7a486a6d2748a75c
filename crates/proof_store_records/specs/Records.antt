use Rattle.std.specs.Prelude.{◌≡◌, ◌<◌, ◌^◌, ℕ, List, ◌++◌, map, All, ◌⊎◌}
use Rattle.clause_check.specs.declared.literal.Lit.{Lit}
use Rattle.clause_check.specs.declared.formula.Step.{Step}
use Rattle.clause_check.specs.Clauses.{IsClause}
use Rattle.proof_store_records.specs.declared.version.Version.{Version}
use Rattle.proof_store_records.specs.declared.version.Version.TheVariants.{First, Second}
use Rattle.proof_store_records.specs.Layout.{mark, steps_bytes, count_limit, FitsList, FitsStep}

-- what a step says: its clause and its hints
abbrev pub content : Step → List Lit × List ℕ
content step = (step.clause, step.hints.items)

abbrev pub contents : List Step → List (List Lit × List ℕ)
contents steps = map content steps

abbrev pub record_bytes : Version → List Step → List ℕ
record_bytes version steps = mark version ++ steps_bytes version (contents steps)

-- the bytes of a record of each version
abbrev pub version_1 : List Step → List ℕ
version_1 steps = record_bytes First steps

abbrev pub version_2 : List Step → List ℕ
version_2 steps = record_bytes Second steps

abbrev pub FitsVersion : Version → List Step → Type 0
FitsVersion version steps = FitsList (count_limit version) (λ s. FitsStep version (content s)) steps

-- each number of steps, of literals and of hints is below 2^32
abbrev pub FitsVersion1 : List Step → Type 0
FitsVersion1 steps = FitsVersion First steps

-- each number of steps, of literals and of hints is below 2^64
abbrev pub Fits : List Step → Type 0
Fits steps = FitsVersion Second steps

-- no variable stands twice in the clause, and variables and hints have 32 bits
pub record HasClause (step : Step) : Type 0 where
  pub distinct : IsClause step.clause
  pub vars : All (λ l. l.var < 2 ^ 32) step.clause
  pub hints : All (λ h. h < 2 ^ 32) step.hints.items

abbrev pub HasClauses : List Step → Type 0
HasClauses steps = All HasClause steps

-- the bytes are a record of these steps, in one of the versions
abbrev pub IsRecord : List ℕ → List Step → Type 0
IsRecord bytes steps = HasClauses steps × ((FitsVersion1 steps × (bytes ≡ version_1 steps)) ⊎ (Fits steps × (bytes ≡ version_2 steps)))
