-- Helpers' claims of obligations of which no proof is kept.
use Rattle.std.specs.Prelude.{◌≡◌, ℕ, List, true, false, Option, Some, None, IfSome}
use Rattle.word_dag.specs.Nodes.{Parts}
use Rattle.job_pool.specs.Shown.{IsShown}
use Rattle.job_pool.specs.declared.evidence.Evidence.{Evidence}
use Rattle.helper_box.specs.Asked.{AreReady}
use Rattle.proof_store.specs.Kept.{IsBuilt}
use Rattle.proof_store.specs.Lookups.{Checked, lacks_proof}
use Rattle.proof_store.specs.declared.helping.Ready.{Ready}

-- it has the clauses of its obligation, with some variables for the bits of its free words, and claims of it that pass
pub record IsReady (ready : Ready) : Type 0 where
  pub bits : List (List ℕ)
  pub built : IsBuilt ready.ob.now ready.cnf bits
  pub pass : AreReady ready.ob.now ready.cnf ready.claims.items

abbrev pub IfReady : Option Ready → Type 0
IfReady ready = IfSome ready IsReady

-- the obligation is made ready for the helpers exactly where no proof of it is kept
abbrev pub Readies : Checked → Option Ready → Type 0
Readies checked None = lacks_proof checked ≡ false
Readies checked (Some ready) = (lacks_proof checked ≡ true) × (ready.ob.now ≡ checked.ob.now) × IsReady ready

-- it shows how the obligation ended, whatever the budget
abbrev pub ShowsEver : Parts → Option Evidence → Type 0
ShowsEver ob found = IfSome found (λ evidence. (budget : ℕ) → IsShown budget ob evidence)

-- what is shown of an obligation that stands ready
abbrev pub ShownOf : Option Ready → Option Evidence → Type 0
ShownOf None helped = helped ≡ None
ShownOf (Some ready) helped = ShowsEver ready.ob.now helped

-- what is shown of an obligation
abbrev pub Helps : Checked → Option Evidence → Type 0
Helps checked helped = ShowsEver checked.ob.now helped

-- how often the first helper is asked about it
abbrev pub turns_of : Option Ready → ℕ
turns_of None = 0
turns_of (Some ready) = 1
