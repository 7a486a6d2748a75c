-- What the faults of a text of LRAT say.
use Rattle.std.specs.Prelude.{◌≡◌, ◌≢◌, ◌<◌, ◌≤◌, ◌⊎◌, ℕ, ◌+◌, ◌-◌, List, [], ◌∷◌, ◌++◌, All, length, take, None, Some, codes}
use Rattle.std.specs.Fmt.{decimal}
use Rattle.clause_check.specs.declared.formula.Cnf.{Cnf}
use Rattle.clause_check.specs.declared.formula.Step.{Step}
use Rattle.clause_check_texts.specs.declared.words.Number.{Number}
use Rattle.clause_check_texts.specs.declared.fault.ProofFault.{ProofFault}
use Rattle.clause_check_texts.specs.declared.fault.ProofFault.TheVariants.{Long, Syntax, Unimplied, Open, Memory}
use Rattle.clause_check_texts.specs.Words.{lines}
use Rattle.clause_check_texts.specs.Lines.{content_of}
use Rattle.clause_check_texts.specs.Lines.Content.{adds}
use Rattle.clause_check_texts.specs.Steps.{ComeTo, Follows, last_id}

-- no step has the empty clause
abbrev pub AreOpen : List Step → Type 0
AreOpen steps = All (λ s. s.clause ≢ []) steps

-- a line that adds a step, with an ID above all before it
pub record Adds (cnf : Cnf) (ids : List ℕ) (line : List ℕ) (id : ℕ) (lits hints : List Number) : Type 0 where
  pub says : content_of line ≡ Some (adds id lits hints)
  pub above : last_id (length cnf.clauses) ids < id

-- no line of LRAT, or an ID that isn't above all before it
abbrev pub IsOdd : Cnf → List ℕ → List ℕ → Type 0
IsOdd cnf ids line =
    (content_of line ≡ None)
    ⊎ ((id : ℕ) × (lits : List Number) × (hints : List Number) × (content_of line ≡ Some (adds id lits hints)) × (id ≤ last_id (length cnf.clauses) ids))

-- no step with the line's literals and the first of its hints follows
abbrev pub IsUnimplied : Cnf → List ℕ → List Step → List ℕ → Type 0
IsUnimplied cnf ids steps line =
    (id : ℕ) × (lits : List Number) × (hints : List Number) × Adds cnf ids line id lits hints × ((step : Step) → Follows cnf ids steps lits hints step → ⊥)

-- the line of number n, from 1, is such a one behind lines that come to steps, none of which has the empty clause
pub record IsAt (cnf : Cnf) (text : List ℕ) (n : ℕ) (Is : List ℕ → List Step → List ℕ → Type 0) : Type 0 where
  pub before : List (List ℕ)
  pub line : List ℕ
  pub after : List (List ℕ)
  pub split : lines text ≡ before ++ line ∷ after
  pub number : length before + 1 ≡ n
  pub ids : List ℕ
  pub steps : List Step
  pub come : ComeTo cnf before ids steps
  pub open_yet : AreOpen steps
  pub is : Is ids steps line

-- all lines come to steps, none of which has the empty clause
pub record EndsOpen (cnf : Cnf) (text : List ℕ) : Type 0 where
  pub ids : List ℕ
  pub steps : List Step
  pub come : ComeTo cnf (lines text) ids steps
  pub open_yet : AreOpen steps

-- the most bytes of a text
abbrev pub limit : ℕ
limit = 67108864

-- what stands against a text of at most so many bytes
abbrev pub Stands : Cnf → List ℕ → ProofFault → Type 0
Stands cnf text Long = limit < length text
Stands cnf text (Syntax n) = (length text ≤ limit) × IsAt cnf text n (λ ids steps line. IsOdd cnf ids line)
Stands cnf text (Unimplied n) = (length text ≤ limit) × IsAt cnf text n (IsUnimplied cnf)
Stands cnf text Open = (length text ≤ limit) × EndsOpen cnf text
Stands cnf text Memory = Unit {0}

-- the steps to which the first lines of a text come, and only the last may have the empty clause
pub record IsReadOf (cnf : Cnf) (text : List ℕ) (steps : List Step) : Type 0 where
  pub before : List (List ℕ)
  pub after : List (List ℕ)
  pub split : lines text ≡ before ++ after
  pub ids : List ℕ
  pub come : ComeTo cnf before ids steps
  pub open_before : AreOpen (take (length steps - 1) steps)

abbrev pub fault_text : ProofFault → List ℕ
fault_text Long = codes "Long"
fault_text (Syntax n) = codes "Syntax " ++ decimal n
fault_text (Unimplied n) = codes "Unimplied " ++ decimal n
fault_text Open = codes "Open"
fault_text Memory = codes "Memory"
