-- What a declaration declares over the parameters of its scope (IEEE 1364-2005, sections 3.2, 4.3.1 and 4.9).
use Rattle.std.specs.Prelude.{◌≡◌, ℕ, ◌≤◌, List, Option, Some, None, ℤ, pos, ◌≤ℤ◌, ◌+ℤ◌}
use Rattle.vlog_tree.specs.declared.item.Range.{Range}
use Rattle.vlog_tree.specs.declared.valuation.Entry.{Entry}
use Rattle.vlog_tree.specs.Value.{width_of, natural}
use Rattle.vlog_tree_runs.specs.Contents.{Decl}
use Rattle.elab_flat_params.specs.declared.range.Vector.{Vector}
use Rattle.elab_flat_params.specs.declared.unfit.BadSignal.{BadSignal}
use Rattle.elab_flat_params.specs.declared.unfit.BadSignal.TheVariants as g
use Rattle.elab_flat_params.specs.declared.unfit.BadWords.{BadWords}
use Rattle.elab_flat_params.specs.declared.unfit.BadWords.TheVariants as w
use Rattle.elab_flat_params.specs.Constants.{IsConstant, IsUnfit, HasConstantBounds, IsBadRange, high_of, low_of}
use Rattle.elab_flat_params.specs.Values.{HasBits}

-- words are numbered from 0 on
abbrev pub IsFromZero : ℤ → ℤ → Type 0
IsFromZero first last = (first ≡ pos 0) × (pos 0 ≤ℤ last)

pub record Counts (first last : ℤ) (n : ℕ) : Type 0 where
  pub order : IsFromZero first last
  pub words : n ≡ natural (last +ℤ pos 1)
  pub most : n ≤ 64

abbrev pub Miscounts : ℤ → ℤ → BadWords → Type 0
Miscounts first last w.Order = IsFromZero first last → ⊥
Miscounts first last w.Many = IsFromZero first last × (pos 64 ≤ℤ last)
Miscounts first last (w.First cause) = ⊥
Miscounts first last (w.Last cause) = ⊥

-- a range declares so many words
pub record IsWords (v : List Entry) (x : Range) (n : ℕ) : Type 0 where
  pub first : IsConstant v x.high (width_of v x.high)
  pub last : IsConstant v x.low (width_of v x.low)
  pub counts : Counts (high_of v x) (low_of v x) n

-- why it declares none
abbrev pub IsBadWords : List Entry → Range → BadWords → Type 0
IsBadWords v x (w.First cause) = IsUnfit v x.high (width_of v x.high) cause
IsBadWords v x (w.Last cause) = IsUnfit v x.low (width_of v x.low) cause
IsBadWords v x w.Order = HasConstantBounds v x × Miscounts (high_of v x) (low_of v x) w.Order
IsBadWords v x w.Many = HasConstantBounds v x × Miscounts (high_of v x) (low_of v x) w.Many

-- a name without a range of words is no memory
abbrev pub HasWords : List Entry → Option Range → ℕ → Type 0
HasWords v None n = n ≡ 0
HasWords v (Some x) n = IsWords v x n

-- the ranges of a declaration declare bits and words
pub record IsDeclared (v : List Entry) (d : Decl) : Type 0 where
  pub bits : (o : Option Vector) × HasBits v d.shape.range o
  pub words : (n : ℕ) × HasWords v d.words n

-- why they don't
abbrev pub IsBadSignal : List Entry → Decl → BadSignal → Type 0
IsBadSignal v d (g.Bits cause) = (x : Range) × (d.shape.range ≡ Some x) × IsBadRange v x cause
IsBadSignal v d (g.Words cause) = (x : Range) × (d.words ≡ Some x) × IsBadWords v x cause
IsBadSignal v d g.Memory = Unit {0}
