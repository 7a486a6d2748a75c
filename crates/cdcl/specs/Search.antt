use Rattle.std.specs.Prelude.{◌≡◌, ◌≢◌, ◌<◌, ◌≤◌, ◌+◌, ◌-◌, ℕ, List, length, take, None, All, Contains, ◌⊎◌, slice_index_or}
use Rattle.clause_check.specs.declared.literal.Lit.{Lit}
use Rattle.clause_check.specs.declared.formula.Step.{Step}
use Rattle.clause_check.specs.declared.formula.Cnf.{Cnf}
use Rattle.clause_check.specs.Clauses.{negated}
use Rattle.clause_check.specs.Derivations.{AllFalse, clause_at, clauses_of}
use Rattle.cdcl.specs.declared.trail.Entry.{Entry}
use Rattle.cdcl.specs.declared.learn.Learnt.{Learnt}
use Rattle.cdcl.specs.Closed.{Avoids, IsMet, IsHonest, IsHonestStep}
use Rattle.cdcl.specs.Trails.{lits_of, IsTrail}
use Rattle.cdcl.specs.Marking.{HasReasons, IsRising}

-- where a search stands: what is true and why, where each level begins, and the steps so far
pub record IsSearch (cnf : Cnf) (vars : ℕ) (entries : List Entry) (starts : List ℕ) (steps : List Step) : Type 0 where
  pub vars_are : vars ≡ cnf.vars
  pub trail : IsTrail vars entries
  pub honest : IsHonest cnf steps
  pub reasons : HasReasons (clauses_of cnf.clauses steps) entries
  pub chosen : (p : ℕ) (d : Entry) → p < length entries → (slice_index_or entries p d).reason ≡ None → Contains starts p
  pub rising : IsRising starts
  pub within : (i : ℕ) → i < length starts → slice_index_or starts i 0 < length entries
  pub closed : (i : ℕ) → i < length starts → All (IsMet (lits_of (take (slice_index_or starts i 0) entries))) (clauses_of cnf.clauses steps)

-- the clause of this number is one, and each literal of it is false
pub record IsConflict (clauses : List (List Lit)) (entries : List Entry) (number : ℕ) : Type 0 where
  pub known : number < length clauses
  pub all_false : AllFalse (lits_of entries) (clause_at clauses number)

-- What is learnt from a conflict: an honest step, whose literal is open before start, and whose others are false before the bound.
pub record IsLesson (cnf : Cnf) (steps : List Step) (entries : List Entry) (start : ℕ) (l : Learnt) : Type 0 where
  pub honest : IsHonestStep cnf steps l.step
  pub in_range : l.lit.var < cnf.vars
  pub among : Contains l.step.clause l.lit
  pub avoided : Avoids (lits_of (take start entries)) l.lit
  pub early : l.bound ≤ start
  pub others : (m : Lit) → Contains l.step.clause m → m ≢ l.lit → Contains (lits_of (take l.bound entries)) (negated m)
  pub last : (l.bound ≡ 0) ⊎ ((m : Lit) × Contains l.step.clause m × (m.var ≢ l.lit.var) × Avoids (lits_of (take (l.bound - 1) entries)) m)

-- what holds of the place where the last level begins
abbrev pub LastLevel : List ℕ → (ℕ → Type 0) → Type 0
LastLevel starts P = (i : ℕ) × (i + 1 ≡ length starts) × P (slice_index_or starts i 0)
