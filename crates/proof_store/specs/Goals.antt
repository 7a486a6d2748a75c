-- Goals that are decided.
use Rattle.std.specs.Prelude.{◌≡◌, ℕ, Bool, true, false, IsTrue, Vec, ◌↔◌}
use Rattle.std.specs.declared.alloc.Global.{Global}
use Rattle.outside.specs.Tables.{Tables}
use Rattle.word_dag.specs.Nodes.{Parts}
use Rattle.clause_check.specs.declared.formula.Step.{Step}
use Rattle.proof_store_records.specs.Records.{IsRecord}
use Rattle.job_pool.specs.Ample.{DecidesIfAmple}
use Rattle.job_pool.specs.Shown.{IsShown}
use Rattle.job_pool.specs.declared.evidence.Evidence.{Evidence}
use Rattle.job_pool.specs.declared.evidence.Evidence.TheVariants.{Derivation}
use Rattle.proof_store.specs.Kept.{IsKept}
use Rattle.proof_store.specs.declared.goal.Decided.{Decided}
use Rattle.proof_store.specs.declared.goal.Goal.{Goal}
use Rattle.proof_store.specs.declared.goal.Source.{Source}
use Rattle.proof_store.specs.declared.goal.Source.TheVariants.{Kept, Helped, Solved}

abbrev pub ob_of : {L : Type 0} → Goal L → Parts
ob_of goal = goal.ob

-- the goal, and what shows how it ended
pub record IsDecided {L : Type 0} (budget : ℕ) (goal : Goal L) (d : Decided L) : Type 0 where
  pub goal_is : d.goal ≡ goal
  pub shown : IsShown budget goal.ob d.evidence

-- with an ample budget it isn't spent
abbrev pub IsDecidedIfAmple : {L : Type 0} → ℕ → Goal L → Decided L → Type 0
IsDecidedIfAmple budget goal d = DecidesIfAmple budget goal.ob d.evidence

-- an obligation, and what shows how it ended
pub record Ended : Type 0 where
  pub ob : Parts
  pub evidence : Evidence

abbrev pub ended : {L : Type 0} → Decided L → Ended
ended d = record { ob = d.goal.ob; evidence = d.evidence }

-- ---- where the evidence comes from

abbrev pub from_keeper : Source → Bool
from_keeper Kept = true
from_keeper Helped = false
from_keeper Solved = false

abbrev pub from_helper : Source → Bool
from_helper Kept = false
from_helper Helped = true
from_helper Solved = false

abbrev pub from_worker : Source → Bool
from_worker Kept = false
from_worker Helped = false
from_worker Solved = true

abbrev pub is_kept : {L : Type 0} → Decided L → Bool
is_kept d = from_keeper d.source

abbrev pub is_helped : {L : Type 0} → Decided L → Bool
is_helped d = from_helper d.source

abbrev pub is_solved : {L : Type 0} → Decided L → Bool
is_solved d = from_worker d.source

-- ---- goals of which a proof is kept

-- where these tables keep a proof of the obligation, the evidence is a derivation of which the kept row is a record
abbrev pub AsKept : Tables → Parts → Evidence → Type 0
AsKept t ob evidence = (kept : IsKept t ob) → (steps : Vec Step Global) × (evidence ≡ Derivation steps) × IsRecord kept.bytes steps.items

-- the goal is said to be kept exactly where these tables keep a proof of it, and is then decided by the derivation that is kept
pub record KeptDecides {L : Type 0} (t : Tables) (goal : Goal L) (d : Decided L) : Type 0 where
  pub source : IsTrue (is_kept d) ↔ IsKept t goal.ob
  pub evidence : AsKept t goal.ob d.evidence
