use Rattle.std.specs.Prelude.{◌≡◌, ◌≢◌, ◌<◌, ◌≤◌, ◌+◌, ℕ, Bool, true, false, List, length, take, drop, count_by, None, IfSome, Contains, ◌⊎◌, slice_index_or}
use Rattle.clause_check.specs.declared.literal.Lit.{Lit}
use Rattle.clause_check.specs.Clauses.{negated}
use Rattle.clause_check.specs.Derivations.{clause_at, Refutes}
use Rattle.cdcl.specs.declared.trail.Entry.{Entry}
use Rattle.cdcl.specs.Trails.{lits_of, IsPlaceOf}

-- The clause of this number forced the literal: each other literal of it was false before.
pub record IsForcedBy (clauses : List (List Lit)) (before : List Entry) (lit : Lit) (reason : ℕ) : Type 0 where
  pub known : reason < length clauses
  pub among : Contains (clause_at clauses reason) lit
  pub others : (m : Lit) → Contains (clause_at clauses reason) m → m ≢ lit → Contains (lits_of before) (negated m)

abbrev pub HasReasons : List (List Lit) → List Entry → Type 0
HasReasons clauses entries =
    (p : ℕ) (d : Entry) → p < length entries
    → IfSome (slice_index_or entries p d).reason (λ r. IsForcedBy clauses (take p entries) (slice_index_or entries p d).lit r)

abbrev pub IsSeen : List Bool → ℕ → Type 0
IsSeen seen p = slice_index_or seen p false ≡ true

-- how many places from start on are seen
abbrev pub open_count : ℕ → List Bool → ℕ
open_count start seen = count_by (λ b. b) (drop start seen)

-- the places of the clause's variables are seen too, and no others
pub record Marks (entries : List Entry) (clause : List Lit) (old new : List Bool) : Type 0 where
  pub kept : (q : ℕ) → IsSeen old q → IsSeen new q
  pub marked : (l : Lit) (q : ℕ) → Contains clause l → IsPlaceOf entries l.var q → IsSeen new q
  pub only : (q : ℕ) → IsSeen new q → IsSeen old q ⊎ ((l : Lit) × Contains clause l × IsPlaceOf entries l.var q)

-- Any literals of the first p entries, with all the seen ones among them, are refuted by the hints.
abbrev pub Explains : List (List Lit) → List Entry → ℕ → List Bool → List ℕ → Type 0
Explains clauses entries p seen hints =
    (known : List Lit) → ((m : Lit) → Contains known m → Contains (lits_of (take p entries)) m)
    → ((q : ℕ) (d : Entry) → q < p → IsSeen seen q → Contains known (slice_index_or entries q d).lit)
    → Refutes clauses known hints

-- the literal stands before p, or at a seen place
abbrev pub IsAllowed : List Entry → ℕ → List Bool → Lit → Type 0
IsAllowed entries p seen m = (q : ℕ) × (q < length entries) × ((q < p) ⊎ IsSeen seen q) × ((d : Entry) → (slice_index_or entries q d).lit ≡ m)

-- Any literals before p or at seen places, with all those at seen places among them, are refuted by the hints.
abbrev pub ExplainsFrom : List (List Lit) → List Entry → ℕ → List Bool → List ℕ → Type 0
ExplainsFrom clauses entries p seen hints =
    (known : List Lit) → ((m : Lit) → Contains known m → IsAllowed entries p seen m)
    → ((q : ℕ) (d : Entry) → IsSeen seen q → Contains known (slice_index_or entries q d).lit)
    → Refutes clauses known hints

-- each literal past this place was forced
abbrev pub IsForcedPast : List Entry → ℕ → Type 0
IsForcedPast entries start = (p : ℕ) (d : Entry) → start < p → p < length entries → (slice_index_or entries p d).reason ≡ None → ⊥

abbrev pub AllForced : List Entry → Type 0
AllForced entries = (p : ℕ) (d : Entry) → p < length entries → (slice_index_or entries p d).reason ≡ None → ⊥

-- The clause has the negations of the literal at the cut and of the seen ones below start, and no others.
-- The bound is past the last of the latter.
pub record IsLearnt (entries : List Entry) (start cut : ℕ) (seen : List Bool) (lits : List Lit) (bound : ℕ) : Type 0 where
  pub head : (d : Entry) → Contains lits (negated (slice_index_or entries cut d).lit)
  pub rest : (q : ℕ) (d : Entry) → q < start → IsSeen seen q → Contains lits (negated (slice_index_or entries q d).lit)
  pub only : (m : Lit) → Contains lits m → (q : ℕ) × ((q ≡ cut) ⊎ ((q < start) × IsSeen seen q)) × ((d : Entry) → m ≡ negated (slice_index_or entries q d).lit)
  pub below : (q : ℕ) → q < start → IsSeen seen q → q < bound
  pub last : (bound ≡ 0) ⊎ ((b : ℕ) × (bound ≡ b + 1) × (b < start) × IsSeen seen b)

-- starts below the bound come first
pub record Splits (starts : List ℕ) (bound keep : ℕ) : Type 0 where
  pub few : keep ≤ length starts
  pub below : (i : ℕ) → i < keep → slice_index_or starts i 0 < bound
  pub above : (i : ℕ) → keep ≤ i → i < length starts → bound ≤ slice_index_or starts i 0

abbrev pub IsRising : List ℕ → Type 0
IsRising starts = (i j : ℕ) → i < j → j < length starts → slice_index_or starts i 0 < slice_index_or starts j 0
