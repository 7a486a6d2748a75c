-- Constants and ranges over parameters (IEEE 1364-2005, sections 4.3.1, 4.10, 5.2 and 5.4).
use Rattle.std.specs.Prelude.{◌≡◌, ℕ, ◌^◌, max, Bool, not, List, is_some, ℤ, pos, negsuc, ◌≤ℤ◌, ◌<ℤ◌, ◌-ℤ◌, ◌+ℤ◌}
use Rattle.vlog_tree.specs.declared.expr.Expr.{Expr}
use Rattle.vlog_tree.specs.declared.item.Range.{Range}
use Rattle.vlog_tree.specs.declared.valuation.Entry.{Entry}
use Rattle.vlog_tree.specs.Valuation.{IsLength, entry_at}
use Rattle.vlog_tree.specs.Value.{operand_of, width_of, sign_of, value_of, own_integer, natural, IsFormed, IsDefined, NamesOnly}
use Rattle.vlog_tree_runs.specs.Places.{Name}
use Rattle.elab_flat_faults.specs.Constants.{Taken, HasNonzeroDivisors, IsMissized}
use Rattle.elab_flat_params.specs.declared.constant.Number.{Number}
use Rattle.elab_flat_params.specs.declared.range.Vector.{Vector}
use Rattle.elab_flat_params.specs.declared.unfit.BadRange.{BadRange}
use Rattle.elab_flat_params.specs.declared.unfit.BadRange.TheVariants as r
use Rattle.elab_flat_params.specs.declared.unfit.Unfit.{Unfit}
use Rattle.elab_flat_params.specs.declared.unfit.Unfit.TheVariants as u

-- ---- constants

-- a name of these parameters, and one of something else
abbrev pub is_known : List Entry → Name → Bool
is_known v x = is_some (entry_at v x 0)

abbrev pub is_strange : List Entry → Name → Bool
is_strange v x = not (is_known v x)

-- an expression over parameters is a constant where it is taken at n bits
pub record IsConstant (v : List Entry) (a : Expr) (n : ℕ) : Type 0 where
  pub names : NamesOnly (is_known v) a
  pub formed : IsFormed v a
  pub defined : IsDefined v a n (sign_of v a)

-- an expression where it is taken at n bits
abbrev pub taken_at : List Entry → Expr → ℕ → Taken
taken_at v a n = record { value = a; width = n; signed = sign_of v a }

-- why it isn't one
abbrev pub IsUnfit : List Entry → Expr → ℕ → Unfit → Type 0
IsUnfit v a n u.Name = NamesOnly (is_known v) a → ⊥
IsUnfit v a n u.Length = IsMissized (is_known v) v (taken_at v a n)
IsUnfit v a n u.Divisor = NamesOnly (is_known v) a × (HasNonzeroDivisors v (taken_at v a n) → ⊥)

-- it is well formed over parameters, and has this length and this sign
pub record HasKnownShape (v : List Entry) (a : Expr) (n : ℕ) (signed : Bool) : Type 0 where
  pub names : NamesOnly (is_known v) a
  pub formed : IsFormed v a
  pub width : n ≡ width_of v a
  pub sign : signed ≡ sign_of v a
  pub length : IsLength n

-- its value in a place of so many bits
pub record IsNumber (v : List Entry) (a : Expr) (least : ℕ) (k : Number) : Type 0 where
  pub constant : IsConstant v a (max (width_of v a) least)
  pub width : k.width ≡ width_of v a
  pub sign : k.signed ≡ sign_of v a
  pub length : IsLength k.width
  pub word : k.word ≡ record { width = max (width_of v a) least; value = value_of v a (max (width_of v a) least) (sign_of v a) }

-- ---- ranges

-- an expression is a constant by itself and stands for this integer
pub record IsBound (v : List Entry) (a : Expr) (i : ℤ) : Type 0 where
  pub constant : IsConstant v a (width_of v a)
  pub value : i ≡ own_integer (operand_of v a)
  pub low : negsuc (2 ^ 64) ≤ℤ i
  pub high : i <ℤ pos (2 ^ 64)

-- the numbers of bits from a highest to a lowest one
abbrev pub IsOrdered : ℤ → ℤ → Type 0
IsOrdered high low = (pos 0 ≤ℤ low) × (low ≤ℤ high)

abbrev pub bits_between : ℤ → ℤ → ℕ
bits_between high low = natural ((high -ℤ low) +ℤ pos 1)

pub record Spans (high low : ℤ) (d : Vector) : Type 0 where
  pub order : IsOrdered high low
  pub width : d.width ≡ bits_between high low
  pub length : IsLength d.width
  pub lowest : d.low ≡ natural low

abbrev pub Misspans : ℤ → ℤ → BadRange → Type 0
Misspans high low r.Order = IsOrdered high low → ⊥
Misspans high low r.Long = IsOrdered high low × (IsLength (bits_between high low) → ⊥)
Misspans high low (r.High unfit) = ⊥
Misspans high low (r.Low unfit) = ⊥

abbrev pub high_of : List Entry → Range → ℤ
high_of v x = own_integer (operand_of v x.high)

abbrev pub low_of : List Entry → Range → ℤ
low_of v x = own_integer (operand_of v x.low)

-- a range declares these bits
pub record IsVector (v : List Entry) (x : Range) (d : Vector) : Type 0 where
  pub high : IsConstant v x.high (width_of v x.high)
  pub low : IsConstant v x.low (width_of v x.low)
  pub spans : Spans (high_of v x) (low_of v x) d

-- both bounds are constants
pub record HasConstantBounds (v : List Entry) (x : Range) : Type 0 where
  pub high : IsConstant v x.high (width_of v x.high)
  pub low : IsConstant v x.low (width_of v x.low)

-- why it declares none
abbrev pub IsBadRange : List Entry → Range → BadRange → Type 0
IsBadRange v x (r.High unfit) = IsUnfit v x.high (width_of v x.high) unfit
IsBadRange v x (r.Low unfit) = IsUnfit v x.low (width_of v x.low) unfit
IsBadRange v x r.Order = HasConstantBounds v x × Misspans (high_of v x) (low_of v x) r.Order
IsBadRange v x r.Long = HasConstantBounds v x × Misspans (high_of v x) (low_of v x) r.Long
