-- The clock of all blocks, where it is read, and the asynchronous resets.
use Rattle.std.specs.Prelude.{ℕ, ◌≡◌, ◌↔◌, ◌⊎◌, Bool, not, List, [], ◌∷◌, Option, Some, None, map, slice_get, if◌then◌else◌}
use Rattle.std.specs.List.{flat_map}
use Rattle.vlog_tree.specs.declared.expr.Expr.{Expr}
use Rattle.vlog_tree.specs.declared.module.Module.{Module}
use Rattle.vlog_tree_runs.specs.declared.flat.Async.{Async}
use Rattle.vlog_tree_runs.specs.Places.{Name, Among}
use Rattle.vlog_tree_runs.specs.Contents.{is_among}
use Rattle.vlog_tree_runs.specs.Scopes.{Scope}
use Rattle.elab_flat_faults.specs.declared.flattening.FlatFault.{FlatFault}
use Rattle.elab_flat_faults.specs.declared.flattening.FlatFault.TheVariants as f
use Rattle.elab_flat_faults.specs.Clocks.{Reset}
use Rattle.elab_flat_faults.specs.FlatStands.{full}
use Rattle.elab_flat_faults.specs.Texts.{own_exprs, names_in}
use Rattle.elab_flat_clocks.specs.Tables.{Link, input_at}
use Rattle.elab_flat_clocks.specs.Driving.{Timed}

-- ---- one clock

-- all wait for this clock, and none where there is none
abbrev pub IsClockAmong : List Timed → Option Name → Type 0
IsClockAmong us o = (y : Name) → (o ≡ Some y) ↔ ((u : Timed) × Among us u × (u.clock ≡ y))

abbrev pub HasTwoClocks : List Timed → FlatFault → Type 0
HasTwoClocks us (f.Clock n) = (u w : Timed) × Among us u × Among us w × (u.clock ≡ w.clock → ⊥) × (n ≡ u.clock)
HasTwoClocks us fault = ⊥

-- ---- reads

-- a name that the clock reaches stands in one of some expressions
abbrev pub IsReadAmong : List Expr → List Link → Name → Name → Type 0
IsReadAmong as' t clock x = (a : Expr) × Among as' a × Among (names_in a) x × (input_at t x ≡ Some clock)

-- in one of a text outside its instances, or in one that its connections don't pass on
abbrev pub IsClockRead : Module → List Expr → List Link → Name → Name → Type 0
IsClockRead m kept t clock x = IsReadAmong (own_exprs m) t clock x ⊎ IsReadAmong kept t clock x

-- a scope with its table and the expressions that its connections don't pass on
pub record IsAt (ss : List Scope) (ts : List (List Link)) (kept : List (List Expr)) (j : ℕ) (s : Scope) (t : List Link) (as' : List Expr) : Type 0 where
  pub scope : slice_get ss j ≡ Some s
  pub table : slice_get ts j ≡ Some t
  pub exprs : slice_get kept j ≡ Some as'

abbrev pub NoneReads : List Scope → List (List Link) → List (List Expr) → Name → Type 0
NoneReads ss ts kept clock =
    (j : ℕ) (s : Scope) (t : List Link) (as' : List Expr) → IsAt ss ts kept j s t as' → (x : Name) → IsClockRead s.module' as' t clock x → ⊥

abbrev pub SomeReads : List Scope → List (List Link) → List (List Expr) → Name → FlatFault → Type 0
SomeReads ss ts kept clock (f.Clock n) =
    (j : ℕ) × (s : Scope) × (t : List Link) × (as' : List Expr) × IsAt ss ts kept j s t as' × (x : Name) × IsClockRead s.module' as' t clock x × (n ≡ full s x)
SomeReads ss ts kept clock fault = ⊥

-- ---- resets

abbrev pub is_at : Bool → Reset → Bool
is_at high r = if high then r.high else not r.high

-- the names of the resets that are active at a level
abbrev pub name_at : Bool → Option Reset → List Name
name_at high None = []
name_at high (Some r) = if is_at high r then r.name ∷ [] else []

abbrev pub reset_at : Bool → Timed → List Name
reset_at high u = name_at high u.reset

abbrev pub resets_at : Bool → List Timed → List Name
resets_at high us = flat_map (reset_at high) us

-- names, each once: those that aren't among the ones before
abbrev pub fresh : List Name → List Name → List Name
fresh before [] = []
fresh before (x ∷ xs) = if is_among before x then fresh before xs else x ∷ fresh (x ∷ before) xs

abbrev pub async_at : Bool → Name → Async
async_at high x = record { name = x; high = high }

abbrev pub asyncs_at : Bool → List Timed → List Async
asyncs_at high us = map (async_at high) (fresh [] (resets_at high us))
