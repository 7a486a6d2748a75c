-- How goals stand before any is solved.
use Rattle.std.specs.Prelude.{◌≡◌, ℕ, List, [], ◌∷◌, ◌++◌, Bool, true, false, Option, Some, None, IfSome, IsTrue, Vec, ◌↔◌}
use Rattle.std.specs.declared.alloc.Global.{Global}
use Rattle.outside.specs.Tables.{Tables}
use Rattle.word_dag.specs.Nodes.{Parts}
use Rattle.clause_check.specs.declared.formula.Step.{Step}
use Rattle.helper_box.specs.declared.claim.Claim.{Claim}
use Rattle.helper_box.specs.declared.claim.Claim.TheVariants as claim
use Rattle.job_pool.specs.Shown.{IsShown}
use Rattle.job_pool.specs.declared.evidence.Evidence.{Evidence}
use Rattle.job_pool.specs.declared.evidence.Evidence.TheVariants.{Derivation, Values}
use Rattle.proof_store.specs.Goals.{AsKept, IsDecided, from_keeper, is_kept}
use Rattle.proof_store.specs.Kept.{IsKept}
use Rattle.proof_store.specs.declared.goal.Decided.{Decided}
use Rattle.proof_store.specs.declared.goal.Goal.{Goal}
use Rattle.proof_store.specs.declared.goal.Source.{Source}
use Rattle.proof_store.specs.declared.goal.Source.TheVariants.{Kept, Helped, Solved}
use Rattle.proof_store.specs.declared.looking.Known.{Known}
use Rattle.proof_store.specs.declared.placing.Found.{Found}
use Rattle.proof_store.specs.declared.placing.Place.{Place}
use Rattle.proof_store.specs.declared.placing.Place.TheVariants.{Done, Open}

-- the evidence that a claim gives, and none where it claims nothing
abbrev pub Tells : Claim → Option Evidence → Type 0
Tells claim.Nothing evidence = evidence ≡ None
Tells (claim.Unsat steps) evidence = evidence ≡ Some (Derivation steps)
Tells (claim.Values values) evidence = evidence ≡ Some (Values values)

-- these tables keep a proof exactly where the flag says so
abbrev pub TellsKept : Option Tables → Parts → Bool → Type 0
TellsKept tables ob flag = IfSome tables (λ t. IsTrue flag ↔ IsKept t ob)

-- whether what was found of an obligation comes from the keeper
abbrev pub found_kept : Option Found → Bool
found_kept None = false
found_kept (Some found) = from_keeper found.source

-- what is found of an obligation without solving: it shows how it ended, whatever the budget, and comes from the keeper or from a helper
pub record Finds (tables : Option Tables) (ob : Parts) (found : Option Found) : Type 0 where
  pub shown : IfSome found (λ f. (budget : ℕ) → IsShown budget ob f.evidence)
  pub kept : TellsKept tables ob (found_kept found)
  pub recorded : IfSome found (λ f. IfSome tables (λ t. AsKept t ob f.evidence))
  pub unsolved : IfSome found (λ f. f.source ≡ Solved → ⊥)

abbrev pub FindsOf : {L : Type 0} → Option Tables → Goal L → Option Found → Type 0
FindsOf tables goal found = Finds tables goal.ob found

-- the steps that are kept, or else what a helper's claim shows
abbrev pub found_of : Option (Vec Step Global) → Option Evidence → Option Found
found_of (Some steps) helped = Some (record { evidence = Derivation steps; source = Kept })
found_of None None = None
found_of None (Some evidence) = Some (record { evidence = evidence; source = Helped })

abbrev pub found_each : List (Known (Option (Vec Step Global))) → List (Option Evidence) → List (Option Found)
found_each [] helped = []
found_each (c ∷ cs) [] = []
found_each (c ∷ cs) (h ∷ hs) = found_of c.known h ∷ found_each cs hs

-- how often the first helper is asked: once about what isn't kept
abbrev pub asked_of : Source → ℕ
asked_of Kept = 0
asked_of Helped = 1
asked_of Solved = 1

abbrev pub asked_about : Option Found → ℕ
asked_about None = 1
asked_about (Some found) = asked_of found.source

abbrev pub asked_for : {L : Type 0} → Place L → ℕ
asked_for (Done d) = asked_of d.source
asked_for (Open line) = 1

-- the place of a goal of which this is found
abbrev pub place_of : {L : Type 0} → Goal L → Option Found → Place L
place_of goal None = Open goal.line
place_of goal (Some found) = Done (record { goal = goal; evidence = found.evidence; source = found.source })

abbrev pub places_of : {L : Type 0} → List (Goal L) → List (Option Found) → List (Place L)
places_of [] found = []
places_of (g ∷ gs) [] = []
places_of (g ∷ gs) (f ∷ fs) = place_of g f ∷ places_of gs fs

-- a goal that is done is shown, whatever the budget; of an open one the line is left
abbrev pub Shows : {L : Type 0} → Goal L → Place L → Type 0
Shows goal (Done d) = ((budget : ℕ) → IsDecided budget goal d) × (d.source ≡ Solved → ⊥)
Shows goal (Open line) = line ≡ goal.line

abbrev pub place_kept : {L : Type 0} → Place L → Bool
place_kept (Done d) = is_kept d
place_kept (Open line) = false

-- a goal that is done, and of which these tables keep a proof, is decided by that one
abbrev pub PlaceAsKept : {L : Type 0} → Option Tables → Parts → Place L → Type 0
PlaceAsKept tables ob (Done d) = IfSome tables (λ t. AsKept t ob d.evidence)
PlaceAsKept tables ob (Open line) = Unit {0}

-- the goal's place, which is that of a kept proof exactly where these tables keep one
pub record IsPlaced {L : Type 0} (tables : Option Tables) (goal : Goal L) (place : Place L) : Type 0 where
  pub shows : Shows goal place
  pub kept : TellsKept tables goal.ob (place_kept place)
  pub recorded : PlaceAsKept tables goal.ob place

-- the obligation of an open goal goes to the end of those that are open
abbrev pub opened : {L : Type 0} → Place L → Parts → List Parts → List Parts
opened (Done d) ob obs = obs
opened (Open line) ob obs = obs ++ ob ∷ []

-- the obligations of the goals whose places are open, in order
abbrev pub open_of : {L : Type 0} → List (Goal L) → List (Place L) → List Parts
open_of [] ps = []
open_of (g ∷ gs) [] = []
open_of (g ∷ gs) (Done d ∷ ps) = open_of gs ps
open_of (g ∷ gs) (Open line ∷ ps) = g.ob ∷ open_of gs ps

-- a line with its obligation, which the workers decided
abbrev pub solved : {L : Type 0} → L → Parts → Evidence → Decided L
solved line ob evidence = record { goal = record { line = line; ob = ob }; evidence = evidence; source = Solved }

-- the open places filled in order
abbrev pub filled : {L : Type 0} → List (Place L) → List Parts → List Evidence → List (Decided L)
filled [] obs ends = []
filled (Done d ∷ ps) obs ends = d ∷ filled ps obs ends
filled (Open line ∷ ps) [] ends = []
filled (Open line ∷ ps) (ob ∷ obs) [] = []
filled (Open line ∷ ps) (ob ∷ obs) (e ∷ ends) = solved line ob e ∷ filled ps obs ends

-- a place takes its own, or where it is open the first of these
abbrev pub Takes : {L : Type 0} → Place L → Decided L → List Parts → List Evidence → List Parts → List Evidence → Type 0
Takes (Done e) d obs ends obs_after ends_after = (d ≡ e) × (obs_after ≡ obs) × (ends_after ≡ ends)
Takes (Open line) d obs ends obs_after ends_after =
    (ob : Parts) × (e : Evidence) × (d ≡ solved line ob e) × (obs ≡ ob ∷ obs_after) × (ends ≡ e ∷ ends_after)

abbrev pub is_open : {L : Type 0} → Place L → Bool
is_open (Done d) = false
is_open (Open line) = true
