-- Expressions in their places, and the rules that they break (IEEE 1364-2005, sections 4.3, 5.1, 5.2 and 5.4).
use Rattle.std.specs.Prelude.{◌≡◌, ℕ, Bool, List, [], ◌∷◌}
use Rattle.vlog_tree.specs.declared.expr.Expr.{Expr}
use Rattle.vlog_tree.specs.declared.valuation.Entry.{Entry}
use Rattle.vlog_tree.specs.Valuation.{IsLength}
use Rattle.vlog_tree.specs.Value.{IsFormed, IsDefined, width_of, sign_of, HasConstantParts}
use Rattle.vlog_tree_runs.specs.Places.{Name, Among}
use Rattle.elab_flat_faults.specs.Constants.{Taken, BreaksConstants, BreaksLengths}
use Rattle.elab_flat_widths.specs.declared.violation.Violation.{Violation}
use Rattle.elab_flat_widths.specs.declared.violation.Violation.TheVariants as b

-- each of some expressions has its constant parts
abbrev pub EachHasConstantParts : (Name → Bool) → List Expr → Type 0
EachHasConstantParts test [] = Unit {0}
EachHasConstantParts test (a ∷ as') = HasConstantParts test a × EachHasConstantParts test as'

-- an expression keeps the rules in its place
pub record IsSound (test : Name → Bool) (v : List Entry) (t : Taken) : Type 0 where
  pub parts : HasConstantParts test t.value
  pub formed : IsFormed v t.value
  pub defined : IsDefined v t.value t.width t.signed

abbrev pub AllSound : (Name → Bool) → List Entry → List Taken → Type 0
AllSound test v ts = (t : Taken) → Among ts t → IsSound test v t

-- an expression breaks a rule in its place
abbrev pub Breaks : (Name → Bool) → List Entry → Taken → Violation → Type 0
Breaks test v t b.Constant = BreaksConstants test v t
Breaks test v t b.Length = BreaksLengths test v t
Breaks test v t b.Memory = ⊥

abbrev pub SomeBreaks : (Name → Bool) → List Entry → List Taken → Violation → Type 0
SomeBreaks test v ts w = (t : Taken) × Among ts t × Breaks test v t w

-- an expression that is well formed, with its constant parts, and has this length, from 1 to 64, and this sign
pub record HasSoundShape (test : Name → Bool) (v : List Entry) (a : Expr) (n : ℕ) (signed : Bool) : Type 0 where
  pub parts : HasConstantParts test a
  pub formed : IsFormed v a
  pub width : n ≡ width_of v a
  pub sign : signed ≡ sign_of v a
  pub length : IsLength n

-- an expression at a length and a sign
abbrev pub taken_at : Expr → ℕ → Bool → Taken
taken_at a n s = record { value = a; width = n; signed = s }

-- a refusal has a violation that is there, want of memory apart
abbrev pub Fails : (Violation → Type 0) → Violation → Type 0
Fails IsViolation b.Memory = Unit {0}
Fails IsViolation b.Constant = IsViolation b.Constant
Fails IsViolation b.Length = IsViolation b.Length
