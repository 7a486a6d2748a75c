-- What a parameter stands for (IEEE 1364-2005, section 4.10).
use Rattle.std.specs.Prelude.{◌≡◌, ℕ, ◌^◌, ◌<◌, max, Bool, true, false, List, Option, Some, None, if◌then◌else◌}
use Rattle.vlog_tree.specs.declared.expr.Constant.{Constant}
use Rattle.vlog_tree.specs.declared.expr.Expr.{Expr}
use Rattle.vlog_tree.specs.declared.item.Range.{Range}
use Rattle.vlog_tree.specs.declared.valuation.Entry.{Entry}
use Rattle.vlog_tree.specs.Valuation.{IsLength, meant}
use Rattle.vlog_tree.specs.Value.{width_of, sign_of, assigned}
use Rattle.vlog_tree_runs.specs.Contents.{Param}
use Rattle.vlog_tree_runs.specs.Scopes.{width_in, converted}
use Rattle.elab_flat_params.specs.declared.range.Vector.{Vector}
use Rattle.elab_flat_params.specs.declared.unfit.BadParam.{BadParam}
use Rattle.elab_flat_params.specs.declared.unfit.BadParam.TheVariants as b
use Rattle.elab_flat_params.specs.declared.unfit.Unfit.{Unfit}
use Rattle.elab_flat_params.specs.Constants.{IsConstant, IsUnfit, IsVector, IsBadRange}

-- ---- declared bits

-- a range declares these bits; where there is no range there are none
abbrev pub HasBits : List Entry → Option Range → Option Vector → Type 0
HasBits v None None = Unit {0}
HasBits v (Some x) (Some d) = IsVector v x d
HasBits v None (Some d) = ⊥
HasBits v (Some x) None = ⊥

-- the length, the lowest bit and the sign that they give a parameter: without them it has the length and the sign of its value
abbrev pub width_with : Option Vector → ℕ → ℕ
width_with None n = n
width_with (Some d) n = d.width

abbrev pub low_with : Option Vector → ℕ
low_with None = 0
low_with (Some d) = d.low

abbrev pub sign_with : Option Vector → Bool → Bool → Bool
sign_with None declared own = if declared then true else own
sign_with (Some d) declared own = declared

-- the value of an expression as a parameter of these bits has it
pub record Converts (v : List Entry) (a : Expr) (signed : Bool) (d : Option Vector) (k : Constant) : Type 0 where
  pub constant : IsConstant v a (max (width_of v a) (width_with d 0))
  pub width : k.width ≡ width_with d (width_of v a)
  pub low : k.low ≡ low_with d
  pub sign : k.signed ≡ sign_with d signed (sign_of v a)
  pub value : k.value ≡ assigned v a (width_with d (width_of v a))
  pub length : IsLength k.width
  pub fits : k.value < 2 ^ k.width

-- ---- parameters in their places

-- an expression over v is a constant in the place of a parameter whose range is read over `done`
abbrev pub IsValue : List Entry → Expr → Param → List Entry → Type 0
IsValue v a p done = IsConstant v a (max (width_of v a) (width_in p.shape.range 0 done))

abbrev pub IsUnfitValue : List Entry → Expr → Param → List Entry → Unfit → Type 0
IsUnfitValue v a p done cause = IsUnfit v a (max (width_of v a) (width_in p.shape.range 0 done)) cause

-- what overrides a parameter, if it can be overridden
abbrev pub override_of : Bool → Option Expr → Option Expr
override_of true o = o
override_of false o = None

abbrev pub IfGiven : (Expr → Type 0) → Option Expr → Type 0
IfGiven P None = Unit {0}
IfGiven P (Some a) = P a

-- a parameter's entry: what overrides it, read over the outer parameters, or its own value
abbrev pub entry_with : Param → Option Expr → List Entry → List Entry → Entry
entry_with p None outer done = converted p done p.value done
entry_with p (Some a) outer done = converted p outer a done

-- a parameter has a value: its range declares bits, and the value of its declaration and what overrides it are constants
pub record IsSound (p : Param) (o : Option Expr) (outer done : List Entry) : Type 0 where
  pub bits : (d : Option Vector) × HasBits done p.shape.range d
  pub value : IsValue done p.value p done
  pub given : IfGiven (λ a. IsValue outer a p done) o

-- why it has none
abbrev pub IsBad : Param → Option Expr → List Entry → List Entry → BadParam → Type 0
IsBad p o outer done (b.Range cause) = (x : Range) × (p.shape.range ≡ Some x) × IsBadRange done x cause
IsBad p o outer done (b.Value cause) = IsUnfitValue done p.value p done cause
IsBad p o outer done (b.Given cause) = (a : Expr) × (o ≡ Some a) × IsUnfitValue outer a p done cause

-- what an entry stands for, with a length from 1 to 64 and a value of that length
pub record StandsFor (e : Entry) (k : Constant) : Type 0 where
  pub meaning : k ≡ meant e
  pub length : IsLength k.width
  pub fits : k.value < 2 ^ k.width
