use Rattle.std.specs.Prelude.{◌≡◌, ℕ, ◌+◌, ◌≤◌, nat_eq, [], Some, None, slice_get}
use Rattle.std.specs.List.{Contains, All, count_by}
use Rattle.set_tree.specs.declared.set.Set.{Set}
use Rattle.set_tree.specs.declared.set.Property.{Property}
use Rattle.set_tree.specs.declared.set.Length.{Length}
use Rattle.set_tree.specs.declared.set.Name.{Name}
use Rattle.set_tree.specs.declared.set.Rule.{Rule}
use Rattle.set_tree.specs.declared.set.Cover.{Cover}
use Rattle.vlog_tree.specs.declared.expr.Expr.{Expr}
use Rattle.set_tree.specs.declared.set.To.TheVariants.{At}
use Rattle.set_tree.specs.Meaning.{Meaning}
use Rattle.set_tree.specs.Parts.{property_at, IsPosition, IsOperation, IsOutput, window_of, cover_end}

-- low ≤ high ≤ window, and without a condition the length is fixed
pub record IsLength (span : Length) (window : ℕ) : Type 0 where
  pub order : span.low ≤ span.high
  pub fits : span.high ≤ window
  pub fixed : span.until ≡ None → span.low ≡ span.high

-- a cover begins before it ends, within the window; where the length isn't fixed it ends by the property's end
pub record IsCover (p : Property) (cover : Cover) : Type 0 where
  pub begins : cover.from ≤ cover_end cover.to p.length.low
  pub fits : cover_end cover.to p.length.high ≤ p.window + 1
  pub by_end : (e : Expr) (r : ℕ) → p.length.until ≡ Some e → cover.to ≡ At r → ⊥

-- no offset of the formula is above the window
abbrev pub StaysWithin : Meaning → ℕ → Expr → Type 0
StaysWithin m window e = m.largest e ≤ window

-- no offset of a property lies above its window, and conditions, domains and invariants have offset 0 alone
pub record KeepsOffsets (m : Meaning) (set : Set) : Type 0 where
  pub assumptions : (p : ℕ) → IsPosition set p → All (StaysWithin m (window_of set p)) (property_at set p).assume
  pub commitments : (p : ℕ) → IsPosition set p → All (StaysWithin m (window_of set p)) (property_at set p).commit
  pub hands : (p : ℕ) → IsPosition set p → All (StaysWithin m (window_of set p)) (property_at set p).hand
  pub untils : (p : ℕ) (e : Expr) → IsPosition set p → (property_at set p).length.until ≡ Some e → m.largest e ≡ 0
  pub domains : (o : ℕ) (name : Name) (e : Expr) → slice_get set.names o ≡ Some name → name.domain ≡ Some e → m.largest e ≡ 0
  pub invariants : (rule : Rule) → Contains set.invariants rule → m.largest rule.formula ≡ 0

pub record IsSound (m : Meaning) (set : Set) : Type 0 where
  pub lengths : (p : ℕ) → IsPosition set p → let property = property_at set p in IsLength property.length property.window
  pub reset_fixed : set.first.length.until ≡ None
  pub advances : (p : ℕ) → IsOperation set p → 1 ≤ (property_at set p).length.low
  -- one cover per output and property
  pub covered : (p o : ℕ) → IsPosition set p → IsOutput set o → count_by (λ c. nat_eq c.output o) (property_at set p).covers ≡ 1
  pub covers : (p : ℕ) (cover : Cover) → IsPosition set p → Contains (property_at set p).covers cover → IsCover (property_at set p) cover
  pub from_the_start : (cover : Cover) → Contains set.first.covers cover → cover.from ≡ 0
  -- no edge leads into reset
  pub edges : (p q : ℕ) → IsPosition set p → Contains (property_at set p).next q → IsOperation set q
  -- on an edge a cover ends where the successor's begins, wherever the property ends
  pub tiled : (p q n : ℕ) (cover next : Cover) → IsPosition set p → Contains (property_at set p).next q → Contains (property_at set p).covers cover → Contains (property_at set q).covers next → cover.output ≡ next.output → (property_at set p).length.low ≤ n → n ≤ (property_at set p).length.high → cover_end cover.to n ≡ n + next.from
  pub reset_hands_nothing : set.first.hand ≡ []
  pub offsets : KeepsOffsets m set
