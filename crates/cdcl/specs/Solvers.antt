use Rattle.std.specs.Prelude.{◌≡◌, ◌<◌, ℕ, [], ◌∷◌, ◌++◌, Some, None, length, take, All, slice_index_or}
use Rattle.clause_check.specs.declared.literal.Lit.{Lit}
use Rattle.clause_check.specs.declared.formula.Cnf.{Cnf}
use Rattle.clause_check.specs.Derivations.{clauses_of}
use Rattle.cdcl.specs.declared.learn.Learnt.{Learnt}
use Rattle.cdcl.specs.declared.search.Search.{Search}
use Rattle.cdcl.specs.Closed.{IsMet}
use Rattle.cdcl.specs.Marking.{Splits}
use Rattle.cdcl.specs.Trails.{lits_of}
use Rattle.cdcl.specs.Search.{IsSearch, IsConflict}

abbrev pub Stands : Cnf → Search → Type 0
Stands cnf s = IsSearch cnf s.trail.vars s.trail.entries s.starts.items s.steps.items

abbrev pub IsConflictOf : Cnf → Search → ℕ → Type 0
IsConflictOf cnf s number = IsConflict (clauses_of cnf.clauses s.steps.items) s.trail.entries number

-- propagation adds nothing more
abbrev pub IsComplete : Cnf → Search → Type 0
IsComplete cnf s = All (IsMet (lits_of s.trail.entries)) (clauses_of cnf.clauses s.steps.items)

-- one more literal is true, by the clause of this number
pub record Forces (cnf : Cnf) (old new : Search) (lit : Lit) (number : ℕ) : Type 0 where
  pub stands : Stands cnf new
  pub starts : new.starts ≡ old.starts
  pub steps : new.steps ≡ old.steps
  pub entries : new.trail.entries ≡ old.trail.entries ++ record { lit = lit; reason = Some number } ∷ []

-- a new level with one chosen literal
pub record Chooses (cnf : Cnf) (old new : Search) : Type 0 where
  pub stands : Stands cnf new
  pub steps : new.steps ≡ old.steps
  pub starts : new.starts.items ≡ old.starts.items ++ length old.trail.entries ∷ []
  pub lit : Lit
  pub entries : new.trail.entries ≡ old.trail.entries ++ record { lit = lit; reason = None } ∷ []

-- the trail as it was before the first choice
pub record Restarts (cnf : Cnf) (old new : Search) : Type 0 where
  pub stands : Stands cnf new
  pub steps : new.steps ≡ old.steps
  pub starts : new.starts.items ≡ []
  pub entries : new.trail.entries ≡ take (slice_index_or old.starts.items 0 0) old.trail.entries

-- one more step, and the trail as it was where the level after the bound began, with the learnt literal
pub record Jumps (cnf : Cnf) (old new : Search) (l : Learnt) : Type 0 where
  pub stands : Stands cnf new
  pub steps : new.steps.items ≡ old.steps.items ++ l.step ∷ []
  pub keep : ℕ
  pub few : keep < length old.starts.items
  pub splits : Splits old.starts.items l.bound keep
  pub starts : new.starts.items ≡ take keep old.starts.items
  pub number : ℕ
  pub entries : new.trail.entries ≡ take (slice_index_or old.starts.items keep 0) old.trail.entries ++ record { lit = l.lit; reason = Some number } ∷ []
