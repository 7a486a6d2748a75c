-- What contracts see of a prover.
use Rattle.std.specs.Prelude.{◌≡◌, ℕ, ◌≤◌, List, Option, map}
use Rattle.outside.specs.Faults.{Rose}
use Rattle.outside.specs.Tables.{Tables}
use Rattle.proof_store.specs.Counts.{NoneFalls}
use Rattle.proof_store.specs.declared.prover.Prover.{Prover}
use Rattle.proof_store.specs.declared.settings.Settings.{Settings}

-- how many steps the solver may learn for an obligation, and how many workers decide side by side
pub record Limits : Type 0 where
  pub budget : ℕ
  pub workers : ℕ

abbrev pub limits_of : Settings → Limits
limits_of s = record { budget = s.budget; workers = s.workers }

-- what its keeper holds, where the keeper tells it
abbrev pub kept_by : {R K H G : Type 0} → (K → Option Tables) → Prover R K H G → Option Tables
kept_by tables p = tables p.keeper.now

-- how many faults its keeper has counted, and how often each of its helpers was asked
pub record Counts : Type 0 where
  pub faults : ℕ
  pub asked : List ℕ

abbrev pub asked_by : {R K H G : Type 0} → (H → ℕ) → Prover R K H G → List ℕ
asked_by asked p = map asked p.helpers.now.items

abbrev pub counts : {R K H G : Type 0} → (K → ℕ) → (H → ℕ) → Prover R K H G → Counts
counts faults asked p = record { faults = faults p.keeper.now; asked = asked_by asked p }

-- A count of faults doesn't fall, and where the keeper is said to have failed it rose
pub record Rises (failed : Type 0) (before after : ℕ) : Type 0 where
  pub later : before ≤ after
  pub rose : failed → Rose before after

-- no count falls, the helpers are as many as before, and where the keeper is said to have failed its count rose
pub record Proceeds (failed : Type 0) (before after : Counts) : Type 0 where
  pub keeper : Rises failed before.faults after.faults
  pub helpers : NoneFalls before.asked after.asked

-- the same keeper and helpers, and as much to spend
abbrev pub IsSame : {R K H G : Type 0} → Prover R K H G → Prover R K H G → Type 0
IsSame p q = (q.keeper.ghost_name ≡ p.keeper.ghost_name) × (q.helpers.ghost_name ≡ p.helpers.ghost_name) × (q.settings ≡ p.settings)
