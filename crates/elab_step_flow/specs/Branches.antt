-- What branches of a statement do, at the places that they assign.
use Rattle.std.specs.Prelude.{ℕ, ◌≡◌, ◌<◌, ◌⊎◌, ◌↔◌, List, ◌++◌, map}
use Rattle.std.specs.Int.{bit_at}
use Rattle.vlog_tree.specs.declared.stmt.CaseItem.{CaseItem}
use Rattle.vlog_tree.specs.declared.stmt.Stmt.{Stmt}
use Rattle.vlog_tree_runs.specs.declared.flat.Signal.{Signal}
use Rattle.vlog_tree_runs.specs.Places.{Among}
use Rattle.elab_step_flow.specs.declared.branches.Spot.{Spot}
use Rattle.elab_step_flow.specs.declared.branches.Branches.{Branches}
use Rattle.elab_step_flow.specs.Assigned.{IsAssigned}
use Rattle.elab_step_flow.specs.Sets.{Tables, HasBit, AnyOf, ChangesAt}

-- what tables have at a place
pub record IsSpotOf (s : Tables) (x : Spot) : Type 0 where
  pub word : x.word ≡ s.unset x.place
  pub row : x.row.items ≡ s.through x.place

-- some spot is at place i; bit b of its word is 1; its row has j
abbrev pub IsSpotted : List Spot → ℕ → Type 0
IsSpotted xs i = (x : Spot) × Among xs x × (x.place ≡ i)

abbrev pub SpotBit : List Spot → ℕ → ℕ → Type 0
SpotBit xs i b = (x : Spot) × Among xs x × (x.place ≡ i) × (bit_at x.word b ≡ 1)

abbrev pub SpotHas : List Spot → ℕ → ℕ → Type 0
SpotHas xs i j = (x : Spot) × Among xs x × (x.place ≡ i) × Among x.row.items j

-- the places of branches are below n
pub record AreInside (n : ℕ) (x : Branches) : Type 0 where
  pub common : (i : ℕ) → Among x.common.items i → i < n
  pub spots : (s : Spot) → Among x.spots.items s → s.place < n

-- spots of some places are added
pub record SpotsAdded (places : List ℕ) (s : Tables) (old new : List Spot) : Type 0 where
  pub kept : (x : Spot) → Among old x → Among new x
  pub only : (x : Spot) → Among new x → Among old x ⊎ (IsSpotOf s x × Among places x.place)
  pub there : (i : ℕ) → Among places i → (x : Spot) × Among new x × (x.place ≡ i) × IsSpotOf s x

-- the tables have again what spots have, and are the same elsewhere
abbrev pub PutTo : List Spot → Tables → Tables → Type 0
PutTo xs s t =
    (i : ℕ) → ((x : Spot) × Among xs x × (x.place ≡ i) × (t.unset i ≡ x.word) × (t.through i ≡ x.row.items))
    ⊎ ((IsSpotted xs i → ⊥) × (t.unset i ≡ s.unset i) × (t.through i ≡ s.through i))

-- the tables have nothing any more at some places
pub record BlankTo (places : List ℕ) (s t : Tables) : Type 0 where
  pub unset : (i b : ℕ) → HasBit t.unset i b ↔ ((Among places i → ⊥) × HasBit s.unset i b)
  pub through : (i j : ℕ) → Among (t.through i) j ↔ ((Among places i → ⊥) × Among (s.through i) j)
  pub same : (i : ℕ) → (Among places i → ⊥) → (t.unset i ≡ s.unset i) × (t.through i ≡ s.through i)

-- they have what spots have, too
pub record AddTo (xs : List Spot) (s t : Tables) : Type 0 where
  pub unset : (i b : ℕ) → HasBit t.unset i b ↔ (HasBit s.unset i b ⊎ SpotBit xs i b)
  pub through : (i j : ℕ) → Among (t.through i) j ↔ (Among (s.through i) j ⊎ SpotHas xs i j)
  pub same : (i : ℕ) → (IsSpotted xs i → ⊥) → (t.unset i ≡ s.unset i) × (t.through i ≡ s.through i)

-- one more branch leads from t to u
pub record BranchTo (gs : List Signal) (body : Stmt) (t u : Tables) (old new : Branches) : Type 0 where
  pub changes : ChangesAt (λ i. IsAssigned gs body i) t u
  pub unset : (i b : ℕ) → SpotBit new.spots.items i b ↔ (SpotBit old.spots.items i b ⊎ (IsAssigned gs body i × HasBit u.unset i b))
  pub through : (i j : ℕ) → SpotHas new.spots.items i j ↔ (SpotHas old.spots.items i j ⊎ (IsAssigned gs body i × Among (u.through i) j))
  pub spotted : (i : ℕ) → IsSpotted new.spots.items i → IsSpotted old.spots.items i ⊎ IsAssigned gs body i
  pub common : (i : ℕ) → Among new.common.items i ↔ (Among old.common.items i × IsAssigned gs body i)
  pub outside : (more : List ℕ) × (u.outside ≡ t.outside ++ more) × (new.outside.items ≡ old.outside.items ++ more)

-- some statements assign the signal at place i; some statement doesn't
abbrev pub AnyAssigned : List Signal → List Stmt → ℕ → Type 0
AnyAssigned gs bodies i = (a : Stmt) × Among bodies a × IsAssigned gs a i

abbrev pub Spares : List Signal → List Stmt → ℕ → Type 0
Spares gs bodies i = (a : Stmt) × Among bodies a × (IsAssigned gs a i → ⊥)

-- the bodies of items
abbrev pub bodies_of : List CaseItem → List Stmt
bodies_of items = map (λ (i : CaseItem). i.body) items

-- branches that lead from t to each of us
pub record Gathered (gs : List Signal) (bodies : List Stmt) (t : Tables) (us : List Tables) (start : List ℕ) (x : Branches) : Type 0 where
  pub unset : (i b : ℕ) → AnyOf us (λ u. HasBit u.unset i b) ↔ ((Spares gs bodies i × HasBit t.unset i b) ⊎ SpotBit x.spots.items i b)
  pub through : (i j : ℕ) → AnyOf us (λ u. Among (u.through i) j) ↔ ((Spares gs bodies i × Among (t.through i) j) ⊎ SpotHas x.spots.items i j)
  pub outside : (i : ℕ) → AnyOf us (λ u. Among u.outside i) ↔ ((((a : Stmt) × Among bodies a) × Among t.outside i) ⊎ Among x.outside.items i)
  pub common : (i : ℕ) → Among x.common.items i ↔ (Among start i × ((a : Stmt) → Among bodies a → IsAssigned gs a i))
  pub spotted : (i : ℕ) → IsSpotted x.spots.items i → AnyAssigned gs bodies i

-- where branches end: what they have, and what was there before, except at the places that all of them assign
pub record EndTo (x : Branches) (s t : Tables) : Type 0 where
  pub unset : (i b : ℕ) → HasBit t.unset i b ↔ (((Among x.common.items i → ⊥) × HasBit s.unset i b) ⊎ SpotBit x.spots.items i b)
  pub through : (i j : ℕ) → Among (t.through i) j ↔ (((Among x.common.items i → ⊥) × Among (s.through i) j) ⊎ SpotHas x.spots.items i j)
  pub same : (i : ℕ) → (Among x.common.items i → ⊥) → (IsSpotted x.spots.items i → ⊥) → (t.unset i ≡ s.unset i) × (t.through i ≡ s.through i)
  pub outside : t.outside ≡ s.outside ++ x.outside.items
