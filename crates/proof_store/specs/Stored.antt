-- What a keeper holds after obligations were settled over it.
use Rattle.std.specs.Prelude.{◌≡◌, ℕ, ◌≤◌, List, Option, Some, None, Vec, Any, Contains, ◌⊎◌, length, map}
use Rattle.std.specs.declared.alloc.Global.{Global}
use Rattle.std.specs.FinMap.{get}
use Rattle.outside.specs.Tables.{Tables, with_proof}
use Rattle.word_dag.specs.Nodes.{Parts}
use Rattle.clause_check.specs.declared.formula.Step.{Step}
use Rattle.proof_store_records.specs.Records.{Fits, IsRecord, version_2}
use Rattle.job_pool.specs.declared.evidence.Evidence.TheVariants.{Derivation}
use Rattle.proof_store.specs.Goals.{Ended}
use Rattle.proof_store.specs.Kept.{IsKept, key_of}

abbrev pub ended_ob : Ended → Parts
ended_ob d = d.ob

-- the tables are told before and after, and stand so; or they are told neither before nor after
abbrev pub Told : (Tables → Tables → Type 0) → Option Tables → Option Tables → Type 0
Told R (Some before) (Some after) = R before after
Told R (Some before) None = ⊥
Told R None (Some after) = ⊥
Told R None None = Unit {0}

-- the obligation has this derivation, of which a record can be made; neither the record nor the text is longer than a row may be
pub record MayBeKept (d : Ended) (steps : Vec Step Global) : Type 0 where
  pub has : d.evidence ≡ Derivation steps
  pub fits : Fits steps.items
  pub short_key : length (key_of d.ob) ≤ 16777216
  pub short_record : length (version_2 steps.items) ≤ 16777216

-- it has one that may be kept
abbrev pub MayKeep : Ended → Type 0
MayKeep d = (steps : Vec Step Global) × MayBeKept d steps

-- an obligation with this text that wasn't kept, and has a derivation that may be
pub record IsNew (before : Tables) (key : List ℕ) (d : Ended) : Type 0 where
  pub text : key_of d.ob ≡ key
  pub fresh : IsKept before d.ob → ⊥
  pub steps : Vec Step Global
  pub may_be_kept : MayBeKept d steps

-- the row under this key is a record of a proof of one of these obligations, whose text the key is
pub record IsProved (obs : List Parts) (t : Tables) (key : List ℕ) : Type 0 where
  pub ob : Parts
  pub among : Contains obs ob
  pub text : key_of ob ≡ key
  pub kept : IsKept t ob

-- each row of the proofs that differs is a proof of one of these obligations, and all else is as before
pub record AddsProofs (obs : List Parts) (before after : Tables) : Type 0 where
  pub blocks : after.blocks ≡ before.blocks
  pub signs : after.signs ≡ before.signs
  pub proofs : (key : List ℕ) → (get after.proofs key ≡ get before.proofs key) ⊎ IsProved obs after key

-- the texts of the obligations that are new stand with proofs, and no other row is touched
pub record StoresNew (ends : List Ended) (before after : Tables) : Type 0 where
  pub adds : AddsProofs (map ended_ob ends) before after
  pub new : (key : List ℕ) → Any (IsNew before key) ends → IsProved (map ended_ob ends) after key
  pub others : (key : List ℕ) → (Any (IsNew before key) ends → ⊥) → get after.proofs key ≡ get before.proofs key

-- the derivation is put under the obligation's text where it may be kept
abbrev pub Puts : Ended → Tables → Tables → Type 0
Puts d before after =
    ((steps : Vec Step Global) × MayBeKept d steps × IsRecord (version_2 steps.items) steps.items × (after ≡ with_proof (key_of d.ob) (version_2 steps.items) before))
    ⊎ (((steps : Vec Step Global) → MayBeKept d steps → ⊥) × (after ≡ before))
