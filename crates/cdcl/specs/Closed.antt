use Rattle.std.specs.Prelude.{◌≢◌, ◌<◌, ℕ, List, [], length, All, Contains, ◌⊎◌, take, slice_index_or}
use Rattle.clause_check.specs.declared.literal.Lit.{Lit}
use Rattle.clause_check.specs.declared.formula.Step.{Step}
use Rattle.clause_check.specs.declared.formula.Cnf.{Cnf}
use Rattle.clause_check.specs.Clauses.{negated}
use Rattle.clause_check.specs.Derivations.{IsStep, clauses_of}

-- neither the literal nor its negation is in the set
pub record Avoids (set : List Lit) (l : Lit) : Type 0 where
  pub itself : Contains set l → ⊥
  pub negation : Contains set (negated l) → ⊥

-- two literals of the clause, whose variables aren't in the set
pub record LeavesTwo (set clause : List Lit) (l m : Lit) : Type 0 where
  pub first : Contains clause l
  pub second : Contains clause m
  pub apart : l.var ≢ m.var
  pub first_avoided : Avoids set l
  pub second_avoided : Avoids set m

-- the clause has a literal in the set, or at least two whose variables aren't in it
abbrev pub IsMet : List Lit → List Lit → Type 0
IsMet set clause =
    ((l : Lit) × Contains clause l × Contains set l) ⊎ ((l : Lit) × (m : Lit) × LeavesTwo set clause l m)

-- The set never has a literal and its negation, and meets each clause: propagation adds nothing to it.
pub record IsClosed (clauses : List (List Lit)) (set : List Lit) : Type 0 where
  pub consistent : (l : Lit) → Contains set l → Contains set (negated l) → ⊥
  pub each : All (IsMet set) clauses

-- From the negations of the clause's other literals, propagation reaches neither l nor a conflict.
pub record IsNewAt (clauses : List (List Lit)) (clause : List Lit) (l : Lit) (set : List Lit) : Type 0 where
  pub among : Contains clause l
  pub closed : IsClosed clauses set
  pub others : (m : Lit) → Contains clause m → m ≢ l → Contains set (negated m)
  pub avoided : Avoids set l

abbrev pub IsNew : List (List Lit) → List Lit → Type 0
IsNew clauses clause = (l : Lit) × (set : List Lit) × IsNewAt clauses clause l set

-- what a step of an honest chain is, after these steps
pub record IsHonestStep (cnf : Cnf) (before : List Step) (step : Step) : Type 0 where
  pub implied : IsStep cnf before step
  pub not_empty : step.clause ≢ []
  pub new : IsNew (clauses_of cnf.clauses before) step.clause

abbrev pub IsHonest : Cnf → List Step → Type 0
IsHonest cnf steps = (i : ℕ) (d : Step) → i < length steps → IsHonestStep cnf (take i steps) (slice_index_or steps i d)
