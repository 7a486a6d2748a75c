-- Sets that lack one premise of completeness alone, and aren't complete. Each has an output o and a state s of one bit,
-- the reset property, and one operation `go` that follows reset and itself.
use Rattle.std.specs.Prelude.{◌≡◌, ℕ, ◌+◌, ◌≤◌, nat_eq, true, List, [], ◌∷◌, Some, None, codes, length, drop}
use Rattle.std.specs.List.{Contains, count_by}
use Rattle.vlog_tree.specs.declared.expr.Expr.{Expr}
use Rattle.set_tree.specs.declared.set.Cover.{Cover}
use Rattle.set_tree.specs.declared.set.Length.{Length}
use Rattle.set_tree.specs.declared.set.Name.{Name}
use Rattle.set_tree.specs.declared.set.Property.{Property}
use Rattle.set_tree.specs.declared.set.Role.TheVariants.{Output, State}
use Rattle.set_tree.specs.declared.set.Set.{Set}
use Rattle.set_tree.specs.declared.set.To.TheVariants.{AfterEnd}
use Rattle.set_tree.specs.Meaning.{Row, Meaning}
use Rattle.set_tree.specs.Parts.{property_at, IsPosition, IsOperation, IsOutput, HasUntil, cover_end, largest_window}
use Rattle.set_tree.specs.Structure.{IsLength, IsCover, KeepsOffsets}
use Rattle.set_tree.specs.Traces.{IsConstrained, IsDetermined, SameInputs, Satisfies}
use Rattle.set_tree.specs.Lines.{ViolatesEnd, ViolatesSplit, ViolatesSameEnd, ViolatesChoose, ViolatesHand, ViolatesDetermine}
use Rattle.set_tree_completeness.specs.Terms.{name_at, negated, equals, or_else, declared, fixed, cover_to}

-- `output o; state s;`
abbrev pub bits : List Name
bits = declared (codes "o") Output 1 ∷ declared (codes "s") State 1 ∷ []

abbrev pub o : ℕ → Expr
o = name_at (codes "o")

abbrev pub s : ℕ → Expr
s = name_at (codes "s")

-- a property with one cover, which `go` follows
abbrev pub part : List ℕ → Length → ℕ → List Expr → List Expr → List Expr → Cover → Property
part name length window assumed committed hand cover = record { name = name; length = length; window = window; assume = assumed; commit = committed; hand = hand; covers = cover ∷ []; next = 1 ∷ [] }

-- a set of a reset property and of `go`
abbrev pub set_of : Property → Property → Set
set_of first go = record { block = codes "bits"; clock = codes "clk"; reset = codes "rst"; high = true; cycles = 1; names = bits; constraints = []; invariants = []; first = first; operations = go ∷ [] }

-- `length low to high until s@0;`
abbrev pub until_s : ℕ → ℕ → Length
until_s low high = record { low = low; high = high; until = Some (s 0) }

-- `property reset { length 0; commit !o@0; cover o from 0 to 1; next go; }`
abbrev pub low_reset : Property
low_reset = part (codes "reset") (fixed 0) 0 [] (negated (o 0) ∷ []) [] (cover_to 0 0 1)

-- `operation go { length 1; commit o@1 == s@0; commit s@1 == s@0; hand s@0; cover o from 1 to 2; next go; }`
-- It copies s to o, keeps s, and hands it over. Nothing says what s is after reset.
abbrev pub copy : Property
copy = part (codes "go") (fixed 1) 1 [] (equals (o 1) (s 0) ∷ equals (s 1) (s 0) ∷ []) (s 0 ∷ []) (cover_to 0 1 2)

abbrev pub unhanded : Set
unhanded = set_of low_reset copy

-- nothing violates any line but those of the kind `hand`
pub record AreValidButHand (m : Meaning) (set : Set) : Type 0 where
  pub end : (p : ℕ) (rows : List Row) → HasUntil set p → ¬ ViolatesEnd m set p rows
  pub split : (p n : ℕ) (rows : List Row) → IsPosition set p → ¬ ViolatesSplit m set p n rows
  pub same_end : (p : ℕ) (xs ys : List Row) → HasUntil set p → ¬ ViolatesSameEnd m set p xs ys
  pub choose : (p q n : ℕ) (xs ys : List Row) → IsPosition set p → Contains (property_at set p).next q → ¬ ViolatesChoose m set p q n xs ys
  pub determine : (p n : ℕ) (cover : Cover) (at : ℕ) (xs ys : List Row) → IsPosition set p → ¬ ViolatesDetermine m set p n cover at xs ys

-- `operation go { length 1 to 2 until s; commit o@1 == s@1; commit s@1 || o@2 == s@2; commit s@1 || s@2;
--   cover o from 1 to end + 1; next go; }`
-- It ends where s holds, and o tells where that is. Nothing says when.
abbrev pub wait : Property
wait = part (codes "go") (until_s 1 2) 2 [] (equals (o 1) (s 1) ∷ or_else (s 1) (equals (o 2) (s 2)) ∷ or_else (s 1) (s 2) ∷ []) [] (record { output = 0; from = 1; to = AfterEnd 1 })

abbrev pub untimed : Set
untimed = set_of low_reset wait

-- nothing violates any line but those of the kind `same-end`
pub record AreValidButSameEnd (m : Meaning) (set : Set) : Type 0 where
  pub end : (p : ℕ) (rows : List Row) → HasUntil set p → ¬ ViolatesEnd m set p rows
  pub split : (p n : ℕ) (rows : List Row) → IsPosition set p → ¬ ViolatesSplit m set p n rows
  pub choose : (p q n : ℕ) (xs ys : List Row) → IsPosition set p → Contains (property_at set p).next q → ¬ ViolatesChoose m set p q n xs ys
  pub hand : (p q n : ℕ) (xs ys : List Row) → IsPosition set p → Contains (property_at set p).next q → ¬ ViolatesHand m set p q n xs ys
  pub determine : (p n : ℕ) (cover : Cover) (at : ℕ) (xs ys : List Row) → IsPosition set p → ¬ ViolatesDetermine m set p n cover at xs ys

-- `property reset { length 0 to 1 until s; commit s@0 || s@1; commit s@0 || !o@0; cover o from 0 to end; next go; }`
-- It ends where s holds, and o is 0 before.
abbrev pub reset_until : Property
reset_until = part (codes "reset") (until_s 0 1) 1 [] (or_else (s 0) (s 1) ∷ or_else (s 0) (negated (o 0)) ∷ []) [] (record { output = 0; from = 0; to = AfterEnd 0 })

-- `operation go { length 1; assume s@0; commit o@0; commit s@1; cover o from 0 to 1; next go; }`
abbrev pub keep : Property
keep = part (codes "go") (fixed 1) 1 (s 0 ∷ []) (o 0 ∷ s 1 ∷ []) [] (cover_to 0 0 1)

abbrev pub unfixed : Set
unfixed = set_of reset_until keep

-- sound, but for that the reset property may end where a condition holds
pub record IsSoundButResetFixed (m : Meaning) (set : Set) : Type 0 where
  pub lengths : (p : ℕ) → IsPosition set p → let property = property_at set p in IsLength property.length property.window
  pub advances : (p : ℕ) → IsOperation set p → 1 ≤ (property_at set p).length.low
  pub covered : (p i : ℕ) → IsPosition set p → IsOutput set i → count_by (λ c. nat_eq c.output i) (property_at set p).covers ≡ 1
  pub covers : (p : ℕ) (cover : Cover) → IsPosition set p → Contains (property_at set p).covers cover → IsCover (property_at set p) cover
  pub from_the_start : (cover : Cover) → Contains set.first.covers cover → cover.from ≡ 0
  pub edges : (p q : ℕ) → IsPosition set p → Contains (property_at set p).next q → IsOperation set q
  pub tiled : (p q n : ℕ) (cover next : Cover) → IsPosition set p → Contains (property_at set p).next q → Contains (property_at set p).covers cover → Contains (property_at set q).covers next → cover.output ≡ next.output → (property_at set p).length.low ≤ n → n ≤ (property_at set p).length.high → cover_end cover.to n ≡ n + next.from
  pub reset_hands_nothing : set.first.hand ≡ []
  pub offsets : KeepsOffsets m set

-- `operation go { length 1; cover o from 1 to 1; next go; }`
-- No cycle after reset has a cover.
abbrev pub idle : Property
idle = part (codes "go") (fixed 1) 1 [] [] [] (cover_to 0 1 1)

abbrev pub uncovered : Set
uncovered = set_of low_reset idle

-- sound, but for that on an edge a cover need not end where the successor's begins
pub record IsSoundButTiled (m : Meaning) (set : Set) : Type 0 where
  pub lengths : (p : ℕ) → IsPosition set p → let property = property_at set p in IsLength property.length property.window
  pub reset_fixed : set.first.length.until ≡ None
  pub advances : (p : ℕ) → IsOperation set p → 1 ≤ (property_at set p).length.low
  pub covered : (p i : ℕ) → IsPosition set p → IsOutput set i → count_by (λ c. nat_eq c.output i) (property_at set p).covers ≡ 1
  pub covers : (p : ℕ) (cover : Cover) → IsPosition set p → Contains (property_at set p).covers cover → IsCover (property_at set p) cover
  pub from_the_start : (cover : Cover) → Contains set.first.covers cover → cover.from ≡ 0
  pub edges : (p q : ℕ) → IsPosition set p → Contains (property_at set p).next q → IsOperation set q
  pub reset_hands_nothing : set.first.hand ≡ []
  pub offsets : KeepsOffsets m set

-- `length 1; commit !o@0; cover o from 0 to 1; next go;`
abbrev pub low : List ℕ → Property
low name = part name (fixed 1) 1 [] (negated (o 0) ∷ []) [] (cover_to 0 0 1)

-- both properties say that o is 0 at their start
abbrev pub always_low : Set
always_low = set_of (low (codes "reset")) (low (codes "go"))

-- completeness asked for also where one row is missing for the largest window
abbrev pub IsCompletePastWindow : Meaning → Set → Type 0
IsCompletePastWindow m set = (xs ys : List Row) → IsConstrained m set xs → IsConstrained m set ys → Satisfies m set xs → Satisfies m set ys → SameInputs set xs ys → (i t : ℕ) → IsOutput set i → t + largest_window set ≡ length xs → IsDetermined m set i (drop t xs) (drop t ys)
