use Rattle.std.specs.Prelude.{◌≡◌, ℕ, zero, suc, ◌+◌, ◌-◌, ◌<◌, ◌≤◌, Bool, true, false, cond, max, length, List, [], ◌∷◌, drop, slice_get, slice_index, slice_index_or, Some, None, Option, IsSome}
use Rattle.set_tree.specs.declared.set.Set.{Set}
use Rattle.set_tree.specs.declared.set.Property.{Property}
use Rattle.set_tree.specs.declared.set.Name.{Name}
use Rattle.set_tree.specs.declared.set.Role.{Role}
use Rattle.set_tree.specs.declared.set.Role.TheVariants.{Input, Output, State}
use Rattle.set_tree.specs.declared.set.Length.{Length}
use Rattle.vlog_tree.specs.declared.expr.Expr.{Expr}
use Rattle.set_tree.specs.declared.set.To.{To}
use Rattle.set_tree.specs.declared.set.To.TheVariants.{At, AfterEnd}
use Rattle.set_tree.specs.Meaning.{Row, Meaning, holds, all_hold}

-- position 0 is the reset property, and i is operation i - 1
abbrev pub property_at : Set → ℕ → Property
property_at set zero = set.first
property_at set (suc i) = slice_index_or set.operations i set.first

abbrev pub IsPosition : Set → ℕ → Type 0
IsPosition set p = p ≤ length set.operations

abbrev pub IsOperation : Set → ℕ → Type 0
IsOperation set p = (0 < p) × (p ≤ length set.operations)

-- an operation that ends where a condition holds
abbrev pub HasUntil : Set → ℕ → Type 0
HasUntil set p = IsOperation set p × IsSome (property_at set p).length.until

abbrev pub window_of : Set → ℕ → ℕ
window_of set p = (property_at set p).window

-- the largest window of the properties, and w if that is larger
abbrev pub largest_of : List Property → ℕ → ℕ
largest_of [] w = w
largest_of (p ∷ ps) w = max p.window (largest_of ps w)

-- the largest window of the reset property and the operations
abbrev pub largest_window : Set → ℕ
largest_window set = largest_of set.operations set.first.window

-- the assumption of a property that starts in the first row; that of reset is true
abbrev pub assumed : Meaning → Set → ℕ → List Row → Bool
assumed m set zero rows = true
assumed m set (suc i) rows = all_hold m (property_at set (suc i)).assume rows

abbrev pub committed : Meaning → Set → ℕ → List Row → Bool
committed m set p rows = all_hold m (property_at set p).commit rows

-- the first of the k offsets from n on at which the formula holds
abbrev pub first_offset : Meaning → Expr → List Row → ℕ → ℕ → Option ℕ
first_offset m e rows n zero = None
first_offset m e rows n (suc k) = cond (holds m e (drop n rows)) (Some n) (first_offset m e rows (suc n) k)

abbrev pub end_until : Meaning → Length → Option Expr → List Row → Option ℕ
end_until m span None rows = Some span.low
end_until m span (Some e) rows = first_offset m e rows span.low (suc span.high - span.low)

-- the end of a property that starts in the first row: the offset at which its successor starts
abbrev pub end_of : Meaning → Set → ℕ → List Row → Option ℕ
end_of m set p rows = let span = (property_at set p).length in end_until m span span.until rows

-- the offset at which a cover ends, if its property ends at n
abbrev pub cover_end : To → ℕ → ℕ
cover_end (At r) n = r
cover_end (AfterEnd d) n = n + d

abbrev pub is_input : Role → Bool
is_input Input = true
is_input Output = false
is_input State = false

-- the values of the inputs in a row
abbrev pub input_values : List Name → Row → List ℕ
input_values [] row = []
input_values (name ∷ names) [] = []
input_values (name ∷ names) (v ∷ row) = cond (is_input name.role) (v ∷ input_values names row) (input_values names row)

abbrev pub IsOutput : Set → ℕ → Type 0
IsOutput set o = (name : Name) × (slice_get set.names o ≡ Some name) × (name.role ≡ Output)

abbrev pub domain_of : Option Name → Option Expr
domain_of None = None
domain_of (Some name) = name.domain

abbrev pub domain_holds : Meaning → Option Expr → List Row → Bool
domain_holds m None rows = true
domain_holds m (Some e) rows = holds m e rows

-- whether the output at position o is in its domain in the first row; without `when` it always is
abbrev pub in_domain : Meaning → Set → ℕ → List Row → Bool
in_domain m set o rows = domain_holds m (domain_of (slice_get set.names o)) rows

-- the value of the name at position o in the first row
abbrev pub value_of : ℕ → List Row → ℕ
value_of o [] = 0
value_of o (row ∷ rows) = slice_index row o
