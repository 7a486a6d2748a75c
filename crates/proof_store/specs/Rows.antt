-- Rows of a keeper, as they are read and made.
use Rattle.std.specs.Prelude.{◌≡◌, ℕ, List, Option, Some, None, Vec, All}
use Rattle.std.specs.declared.alloc.Global.{Global}
use Rattle.clause_check.specs.declared.formula.Cnf.{Cnf}
use Rattle.clause_check.specs.declared.formula.Step.{Step}
use Rattle.clause_check.specs.Derivations.{IsRefutation}
use Rattle.proof_store_records.specs.Records.{IsRecord, version_2}
use Rattle.job_pool.specs.declared.evidence.Evidence.TheVariants.{Derivation}
use Rattle.proof_store.specs.Goals.{Ended}
use Rattle.proof_store.specs.Kept.{IsProof, key_of}
use Rattle.proof_store.specs.Stored.{MayBeKept}
use Rattle.proof_store.specs.declared.keeping.Row.{Row}

-- what is found in these bytes: steps that refute the formula, of which they are a record; or nothing, and they are a record of no such steps
abbrev pub IsAccepted : Cnf → List ℕ → Option (Vec Step Global) → Type 0
IsAccepted cnf bytes (Some steps) = IsRecord bytes steps.items × IsRefutation cnf steps.items
IsAccepted cnf bytes None = (steps : List Step) → IsRecord bytes steps → IsRefutation cnf steps → ⊥

-- the row of a derivation that may be kept, and none for anything else
abbrev pub IsRowOf : Ended → Option Row → Type 0
IsRowOf d (Some row) = (steps : Vec Step Global) × MayBeKept d steps × (row.key.items ≡ key_of d.ob) × (row.bytes.items ≡ version_2 steps.items) × IsRecord row.bytes.items steps.items
IsRowOf d None = (steps : Vec Step Global) → MayBeKept d steps → ⊥

-- each derivation is a proof of its obligation
abbrev pub HasProofs : List Ended → Type 0
HasProofs ends = All (λ d. (steps : Vec Step Global) → d.evidence ≡ Derivation steps → IsProof d.ob steps.items) ends
