-- The steps that lines come to.
use Rattle.std.specs.Prelude.{◌≡◌, ◌<◌, ◌↔◌, ℕ, ◌+◌, ◌-◌, nat_eq, nat_le, List, [], ◌∷◌, ◌++◌, length, map, take, Contains, Some, slice_index_or, if◌then◌else◌}
use Rattle.std.specs.List.{position_or_len}
use Rattle.clause_check.specs.declared.literal.Lit.{Lit}
use Rattle.clause_check.specs.declared.formula.Cnf.{Cnf}
use Rattle.clause_check.specs.declared.formula.Step.{Step}
use Rattle.clause_check.specs.Clauses.{IsClause}
use Rattle.clause_check.specs.Derivations.{IsStep}
use Rattle.clause_check_texts.specs.declared.words.Number.{Number}
use Rattle.clause_check_texts.specs.Lines.{content_of}
use Rattle.clause_check_texts.specs.Lines.Content.{nothing, adds}

-- variable v is v + 1
abbrev pub lit_of : Number → Lit
lit_of n = record { var = n.size - 1; negative = n.negative }

-- the place of an ID, or else how many there are
abbrev pub place_of : List ℕ → ℕ → ℕ
place_of ids id = position_or_len (λ i. nat_eq i id) ids

-- the number of the clause that a hint names: the input clauses have the IDs from 1, and the steps follow; where there is none, how
-- many clauses there are
abbrev pub clause_number : ℕ → List ℕ → Number → ℕ
clause_number inputs ids hint =
    if hint.negative then inputs + length ids
    else (if nat_le hint.size inputs then hint.size - 1 else inputs + place_of ids hint.size)

-- the last ID: of the steps, or of the input clauses
abbrev pub last_id : ℕ → List ℕ → ℕ
last_id inputs ids = slice_index_or ids (length ids - 1) inputs

abbrev pub HasLits : List Number → List Lit → Type 0
HasLits numbers clause = (l : Lit) → Contains clause l ↔ Contains (map lit_of numbers) l

-- a clause with these literals, in which no variable stands twice
pub record IsClauseOf (numbers : List Number) (clause : List Lit) : Type 0 where
  pub distinct : IsClause clause
  pub lits : HasLits numbers clause

-- these are the first of the others
abbrev pub AreFirstOf : List ℕ → List ℕ → Type 0
AreFirstOf others hints = (k : ℕ) × (hints ≡ take k others)

-- a step with a line's literals and the first of its hints, which is implied by the clauses before it
pub record Follows (cnf : Cnf) (ids : List ℕ) (before : List Step) (lits hints : List Number) (step : Step) : Type 0 where
  pub clause : IsClauseOf lits step.clause
  pub first : AreFirstOf (map (clause_number (length cnf.clauses) ids) hints) step.hints.items
  pub implied : IsStep cnf before step

-- Lines come to steps with these IDs: each line says nothing, or adds a step whose ID is above all before it.
pub data ComeTo (cnf : Cnf) : List (List ℕ) → List ℕ → List Step → Type 0 where
  none : ComeTo cnf [] [] []
  skip : (before : List (List ℕ)) (line : List ℕ) (ids : List ℕ) (steps : List Step) → ComeTo cnf before ids steps
      → content_of line ≡ Some nothing → ComeTo cnf (before ++ line ∷ []) ids steps
  more : (before : List (List ℕ)) (line : List ℕ) (ids : List ℕ) (steps : List Step) (id : ℕ) (lits hints : List Number) (step : Step) → ComeTo cnf before ids steps
      → content_of line ≡ Some (adds id lits hints) → last_id (length cnf.clauses) ids < id → Follows cnf ids steps lits hints step → ComeTo cnf (before ++ line ∷ []) (ids ++ id ∷ []) (steps ++ step ∷ [])
