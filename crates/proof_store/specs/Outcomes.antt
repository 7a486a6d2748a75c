-- Obligations that ended, and the rows that are put for them.
use Rattle.std.specs.Prelude.{◌≡◌, true, false, Option, Some, None, IsTrue, ◌↔◌, ◌⊎◌, option_map}
use Rattle.outside.specs.Tables.{Tables, with_proof}
use Rattle.proof_store.specs.Goals.{Ended, is_kept}
use Rattle.proof_store.specs.Kept.{IsKept}
use Rattle.proof_store.specs.Rows.{IsRowOf}
use Rattle.proof_store.specs.declared.goal.Decided.{Decided}
use Rattle.proof_store.specs.declared.keeping.Row.{Row}
use Rattle.proof_store.specs.declared.putting.Outcome.{Outcome}

-- the obligation, and what shows how it ended
abbrev pub outcome_ended : Outcome → Ended
outcome_ended o = record { ob = o.ob.now; evidence = o.evidence.now }

-- how the goal's obligation ended, and whether its proof was kept
pub record IsOutcome {L : Type 0} (d : Decided L) (o : Outcome) : Type 0 where
  pub ob_is : o.ob.now ≡ d.goal.ob
  pub evidence_is : o.evidence.now ≡ d.evidence
  pub kept_is : o.kept ≡ is_kept d

-- a proof is said to be kept where these tables keep one
abbrev pub TellsOutcome : Tables → Outcome → Type 0
TellsOutcome t o = IsTrue o.kept ↔ IsKept t o.ob.now

-- no row where the proof was kept before, and else the row of the proof
abbrev pub IsNewRow : Outcome → Option Row → Type 0
IsNewRow o row = ((o.kept ≡ true) × (row ≡ None)) ⊎ ((o.kept ≡ false) × IsRowOf (outcome_ended o) row)

-- what the tables are once the row is put, where there is one
abbrev pub put_one : Option Row → Option Tables → Option Tables
put_one None tables = tables
put_one (Some row) tables = option_map (with_proof row.key.items row.bytes.items) tables
