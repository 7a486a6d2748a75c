-- Assignments, and the left sides of continuous assignments and blocks, that keep the rules or break one (IEEE 1364-2005, sections 6.1 and 9.2).
use Rattle.std.specs.Prelude.{ℕ, ◌≡◌, ◌⊎◌, Bool, true, List, map}
use Rattle.vlog_tree.specs.declared.expr.Expr.{Expr}
use Rattle.vlog_tree.specs.declared.item.Assign.{Assign}
use Rattle.vlog_tree.specs.declared.stmt.Lval.{Lval}
use Rattle.vlog_tree.specs.declared.valuation.Entry.{Entry}
use Rattle.vlog_tree.specs.Valuation.{IsLength}
use Rattle.vlog_tree_runs.specs.Places.{Name, Among, Place, pieces, total}
use Rattle.vlog_tree_runs.specs.Blocks.{is_parameter, left_names}
use Rattle.elab_flat_laws.specs.Uses.{has_signal}
use Rattle.elab_flat_faults.specs.Constants.{at_rest, alone, stored, assigned_to, HasConstantSpans, AreSpansDefined, IsLeftFormed}
use Rattle.elab_flat_faults.specs.Texts.{numbers_in}
use Rattle.elab_flat_widths.specs.declared.violation.Violation.{Violation}
use Rattle.elab_flat_widths.specs.declared.violation.Violation.TheVariants as b
use Rattle.elab_flat_widths.specs.declared.side.Side.{Side}
use Rattle.elab_flat_widths.specs.Taken.{IsSound, AllSound, Breaks, SomeBreaks}
use Rattle.elab_flat_widths.specs.Lefts.{IsConstantAs, PartHasLegalNumbers, BreaksNumbers, HasSize, IsMissized}

-- ---- by parts

abbrev pub PartsHaveLegalNumbers : Side → (Name → Bool) → List Entry → List Lval → Type 0
PartsHaveLegalNumbers side test v qs = (q : Lval) → Among qs q → PartHasLegalNumbers side test v q

abbrev pub SomeBreaksNumbers : Side → (Name → Bool) → List Entry → List Lval → Violation → Type 0
SomeBreaksNumbers side test v qs w = (q : Lval) × Among qs q × BreaksNumbers side test v q w

-- the parts of a left side keep the rules, and have together so many bits
pub record AreSoundParts (side : Side) (test : Name → Bool) (v : List Entry) (qs : List Lval) (n : ℕ) : Type 0 where
  pub numbers : PartsHaveLegalNumbers side test v qs
  pub size : HasSize v qs n

-- a part breaks a rule, or the parts don't have from 1 to 64 bits together
abbrev pub BreaksParts : Side → (Name → Bool) → List Entry → List Lval → Violation → Type 0
BreaksParts side test v qs b.Constant = SomeBreaksNumbers side test v qs b.Constant
BreaksParts side test v qs b.Length = SomeBreaksNumbers side test v qs b.Length ⊎ (PartsHaveLegalNumbers side test v qs × IsMissized v qs)
BreaksParts side test v qs b.Memory = ⊥

-- an assignment of an expression to parts keeps the rules
abbrev pub IsSoundTo : Side → (Name → Bool) → List Entry → List Lval → Expr → Type 0
IsSoundTo side test v qs a = (n : ℕ) × AreSoundParts side test v qs n × IsSound test v (stored v n a)

-- an assignment of an expression to parts breaks a rule
abbrev pub BreaksTo : Side → (Name → Bool) → List Entry → List Lval → Expr → Violation → Type 0
BreaksTo side test v qs a w = BreaksParts side test v qs w ⊎ ((n : ℕ) × AreSoundParts side test v qs n × Breaks test v (stored v n a) w)

-- ---- left sides in their places

-- the numbers of a left side keep the rules
pub record HasLegalNumbers (side : Side) (p : Place) (left : Lval) : Type 0 where
  pub numbers : AllSound (is_parameter p) (at_rest p) (map (alone (at_rest p)) (numbers_in left))
  pub constant : IsConstantAs side (is_parameter p) left

-- a left side has from 1 to 64 bits, and so have its parts
pub record HasLegalSize (p : Place) (left : Lval) : Type 0 where
  pub formed : IsLeftFormed (at_rest p) left
  pub length : IsLength (total (pieces p (λ x. 0) left))

abbrev pub NamesSignals : Place → Lval → Type 0
NamesSignals p left = (x : Name) → Among (left_names left) x → has_signal p.signals x ≡ true

-- a left side keeps the rules; its length is judged where it names signals alone
pub record IsSoundLeft (side : Side) (p : Place) (left : Lval) : Type 0 where
  pub good : HasLegalNumbers side p left
  pub size : NamesSignals p left → HasLegalSize p left

-- a left side, or a part of it, doesn't have from 1 to 64 bits; what says so is constant and divides by no 0
abbrev pub BreaksSize : Place → Lval → Type 0
BreaksSize p left =
    HasConstantSpans (is_parameter p) left × AreSpansDefined (at_rest p) left
    × ((IsLeftFormed (at_rest p) left → ⊥) ⊎ (IsLength (total (pieces p (λ x. 0) left)) → ⊥))

-- a left side breaks a rule
abbrev pub BreaksLeft : Side → Place → Lval → Violation → Type 0
BreaksLeft side p left b.Constant = SomeBreaks (is_parameter p) (at_rest p) (map (alone (at_rest p)) (numbers_in left)) b.Constant ⊎ (IsConstantAs side (is_parameter p) left → ⊥)
BreaksLeft side p left b.Length =
    SomeBreaks (is_parameter p) (at_rest p) (map (alone (at_rest p)) (numbers_in left)) b.Length ⊎ (NamesSignals p left × BreaksSize p left)
BreaksLeft side p left b.Memory = ⊥

-- ---- assignments

-- an assignment keeps the rules
pub record IsSoundStore (side : Side) (p : Place) (a : Assign) : Type 0 where
  pub left : IsSoundLeft side p a.left
  pub right : IsSound (is_parameter p) (at_rest p) (assigned_to p a)

-- an assignment breaks a rule
abbrev pub BreaksStore : Side → Place → Assign → Violation → Type 0
BreaksStore side p a w = BreaksLeft side p a.left w ⊎ Breaks (is_parameter p) (at_rest p) (assigned_to p a) w
