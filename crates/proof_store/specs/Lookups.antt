-- Rows of kept proofs that are fetched and checked.
use Rattle.std.specs.Prelude.{◌≡◌, ℕ, Bool, List, Option, Some, None, IfSome, Vec, is_some, option_map}
use Rattle.std.specs.Option.{is_none}
use Rattle.std.specs.declared.alloc.Global.{Global}
use Rattle.std.specs.FinMap.{get}
use Rattle.outside.specs.Tables.{Tables}
use Rattle.word_dag.specs.Nodes.{Parts}
use Rattle.clause_check.specs.declared.formula.Step.{Step}
use Rattle.proof_store_records.specs.Records.{IsRecord}
use Rattle.job_pool.specs.Shown.{IsShown}
use Rattle.job_pool.specs.declared.evidence.Evidence.TheVariants.{Derivation}
use Rattle.proof_store.specs.Goals.{AsKept}
use Rattle.proof_store.specs.Kept.{IsProof, key_of}
use Rattle.proof_store.specs.Places.{TellsKept}
use Rattle.proof_store.specs.declared.goal.Goal.{Goal}
use Rattle.proof_store.specs.declared.looking.Known.{Known}

-- an obligation alone, with its key, with the row under this, and with the steps of its kept proof
abbrev pub Sought : Type 0
Sought = Known (Unit {0})

abbrev pub Keyed : Type 0
Keyed = Known (Vec ℕ Global)

abbrev pub Lookup : Type 0
Lookup = Known (Option (Vec ℕ Global))

abbrev pub Checked : Type 0
Checked = Known (Option (Vec Step Global))

-- the row that these tables have under this key
abbrev pub IsRowAt : Option Tables → List ℕ → Option (Vec ℕ Global) → Type 0
IsRowAt tables key row = IfSome tables (λ t. option_map (λ bytes. bytes.items) row ≡ get t.proofs key)

-- the goal's obligation
abbrev pub IsObOf : {L : Type 0} → Goal L → Sought → Type 0
IsObOf goal sought = sought.ob.now ≡ goal.ob

-- the same obligation, and its text
pub record IsKeyed (sought : Sought) (keyed : Keyed) : Type 0 where
  pub ob_is : keyed.ob.now ≡ sought.ob.now
  pub key_is : keyed.known.items ≡ key_of sought.ob.now

-- the same obligation, and the row under its key
pub record HasRow (tables : Option Tables) (keyed : Keyed) (lookup : Lookup) : Type 0 where
  pub ob_is : lookup.ob.now ≡ keyed.ob.now
  pub row_is : IsRowAt tables keyed.known.items lookup.known

-- the same obligation, and the row under its text
pub record Looks (tables : Option Tables) (sought : Sought) (lookup : Lookup) : Type 0 where
  pub ob_is : lookup.ob.now ≡ sought.ob.now
  pub row_is : IsRowAt tables (key_of sought.ob.now) lookup.known

-- the goal's obligation, and the row under its text
pub record IsLookup {L : Type 0} (tables : Option Tables) (goal : Goal L) (lookup : Lookup) : Type 0 where
  pub ob_is : lookup.ob.now ≡ goal.ob
  pub row_is : IsRowAt tables (key_of goal.ob) lookup.known

-- what is found in a row: steps of which it is a record and which show how the obligation ended, whatever the budget; or nothing, and it is a record of no proof of it
abbrev pub ChecksRow : Parts → Option (Vec ℕ Global) → Option (Vec Step Global) → Type 0
ChecksRow ob row (Some steps) = (bytes : Vec ℕ Global) × (row ≡ Some bytes) × IsRecord bytes.items steps.items × ((budget : ℕ) → IsShown budget ob (Derivation steps))
ChecksRow ob row None = (bytes : Vec ℕ Global) → row ≡ Some bytes → (steps : List Step) → IsRecord bytes.items steps → IsProof ob steps → ⊥

-- the same obligation, and what is found in its row
pub record Checks (lookup : Lookup) (checked : Checked) : Type 0 where
  pub ob_is : checked.ob.now ≡ lookup.ob.now
  pub kept : ChecksRow lookup.ob.now lookup.known checked.known

-- the steps of the proof that these tables keep of an obligation, which show how it ended, whatever the budget; or nothing, and they keep none
pub record IsLookedUp (tables : Option Tables) (ob : Parts) (found : Option (Vec Step Global)) : Type 0 where
  pub shown : IfSome found (λ steps. (budget : ℕ) → IsShown budget ob (Derivation steps))
  pub kept : TellsKept tables ob (is_some found)
  pub recorded : IfSome found (λ steps. IfSome tables (λ t. AsKept t ob (Derivation steps)))

-- the goal's obligation, and its proof that these tables keep
pub record IsChecked {L : Type 0} (tables : Option Tables) (goal : Goal L) (checked : Checked) : Type 0 where
  pub ob_is : checked.ob.now ≡ goal.ob
  pub looked : IsLookedUp tables goal.ob checked.known

-- whether no proof of it is kept
abbrev pub lacks_proof : Checked → Bool
lacks_proof checked = is_none checked.known
