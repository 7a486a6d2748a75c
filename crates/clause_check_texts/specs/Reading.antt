-- What one line does.
use Rattle.std.specs.Prelude.{◌≡◌, ◌↔◌, ◌⊎◌, ℕ, Bool, true, false, List, [], ◌∷◌, ◌++◌, Some}
use Rattle.clause_check.specs.declared.formula.Cnf.{Cnf}
use Rattle.clause_check.specs.declared.formula.Step.{Step}
use Rattle.clause_check_texts.specs.declared.words.Number.{Number}
use Rattle.clause_check_texts.specs.declared.fault.ProofFault.{ProofFault}
use Rattle.clause_check_texts.specs.declared.fault.ProofFault.TheVariants.{Syntax as SyntaxAt, Unimplied as UnimpliedAt, Memory as NoMemory}
use Rattle.clause_check_texts.specs.declared.read.LineFault.{LineFault}
use Rattle.clause_check_texts.specs.declared.read.LineFault.TheVariants.{Syntax, Unimplied, Memory}
use Rattle.clause_check_texts.specs.Lines.{content_of}
use Rattle.clause_check_texts.specs.Lines.Content.{nothing}
use Rattle.clause_check_texts.specs.Steps.{Follows}
use Rattle.clause_check_texts.specs.Faults.{Adds, IsOdd, IsUnimplied}

-- the line says nothing that matters
pub record Skips (ids : List ℕ) (steps : List Step) (line : List ℕ) (closed : Bool) (ids_after : List ℕ) (steps_after : List Step) : Type 0 where
  pub says : content_of line ≡ Some nothing
  pub closed_is : closed ≡ false
  pub ids_stay : ids_after ≡ ids
  pub steps_stay : steps_after ≡ steps

-- the line adds a step, which has the empty clause where it closes the derivation
pub record Takes (cnf : Cnf) (ids : List ℕ) (steps : List Step) (line : List ℕ) (closed : Bool) (ids_after : List ℕ) (steps_after : List Step) : Type 0 where
  pub id : ℕ
  pub lits : List Number
  pub hints : List Number
  pub step : Step
  pub adds : Adds cnf ids line id lits hints
  pub follows : Follows cnf ids steps lits hints step
  pub ids_more : ids_after ≡ ids ++ id ∷ []
  pub steps_more : steps_after ≡ steps ++ step ∷ []
  pub closes : (closed ≡ true) ↔ (step.clause ≡ [])

abbrev pub Comes : Cnf → List ℕ → List Step → List ℕ → Bool → List ℕ → List Step → Type 0
Comes cnf ids steps line closed ids_after steps_after = Skips ids steps line closed ids_after steps_after ⊎ Takes cnf ids steps line closed ids_after steps_after

-- what stands against a line behind others
abbrev pub StandsAt : Cnf → List ℕ → List Step → List ℕ → LineFault → Type 0
StandsAt cnf ids steps line Syntax = IsOdd cnf ids line
StandsAt cnf ids steps line Unimplied = IsUnimplied cnf ids steps line
StandsAt cnf ids steps line Memory = Unit {0}

-- the fault of the line of this number
abbrev pub fault_at : ℕ → LineFault → ProofFault
fault_at n Syntax = SyntaxAt n
fault_at n Unimplied = UnimpliedAt n
fault_at n Memory = NoMemory

-- what stands against the step of a line
abbrev pub RefusesStep : Cnf → List ℕ → List Step → List Number → List Number → LineFault → Type 0
RefusesStep cnf ids steps lits hints Syntax = ⊥
RefusesStep cnf ids steps lits hints Unimplied = (step : Step) → Follows cnf ids steps lits hints step → ⊥
RefusesStep cnf ids steps lits hints Memory = Unit {0}
