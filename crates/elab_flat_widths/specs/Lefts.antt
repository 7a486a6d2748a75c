-- Left sides by their parts (IEEE 1364-2005, sections 5.2.1 and 6.1).
use Rattle.std.specs.Prelude.{◌≡◌, ◌⊎◌, ◌+◌, ℕ, nat_eq, Bool, List, [], ◌∷◌, map, IsTrue, if◌then◌else◌}
use Rattle.vlog_tree.specs.declared.expr.Expr.{Expr}
use Rattle.vlog_tree.specs.declared.stmt.Lval.{Lval}
use Rattle.vlog_tree.specs.declared.stmt.Lval.TheVariants as l
use Rattle.vlog_tree.specs.declared.valuation.Entry.{Entry}
use Rattle.vlog_tree.specs.Valuation.{IsLength, named, depth_of}
use Rattle.vlog_tree.specs.Value.{IsFormed, operand_of, own_defined, own_integer, part_width}
use Rattle.vlog_tree_runs.specs.Places.{Name, Among, read}
use Rattle.elab_flat_faults.specs.Constants.{alone, HasConstantNumbers, HasConstantSpans, IsLeftFormed}
use Rattle.elab_flat_faults.specs.Texts.{numbers_in}
use Rattle.elab_flat_widths.specs.declared.violation.Violation.{Violation}
use Rattle.elab_flat_widths.specs.declared.violation.Violation.TheVariants as b
use Rattle.elab_flat_widths.specs.declared.side.Side.{Side}
use Rattle.elab_flat_widths.specs.declared.side.Side.TheVariants as d
use Rattle.elab_flat_widths.specs.Taken.{AllSound, SomeBreaks}

-- the numbers of a part are well formed, and no divisor is 0 in them
abbrev pub HasDefinedNumbers : List Entry → Lval → Type 0
HasDefinedNumbers v q = (a : Expr) → Among (numbers_in q) a → IsFormed v a × IsTrue (own_defined (operand_of v a))

-- how many bits a part has: a name, a bit of a vector or a word of a memory, or a part-select
abbrev pub part_count : List Entry → Lval → ℕ
part_count v (l.Name x) = (named v (read x)).width
part_count v (l.Select x a) = if nat_eq (depth_of v (read x)) 0 then 1 else (named v (read x)).width
part_count v (l.Part x span a c) = part_width span (own_integer (operand_of v a)) (own_integer (operand_of v c))
part_count v (l.Concat' h row) = 0

abbrev pub bits_in : List Entry → List Lval → ℕ
bits_in v [] = 0
bits_in v (q ∷ qs) = part_count v q + bits_in v qs

-- the numbers of a left side are as constant as its place asks: all of a continuous assignment's, and in a block those that say a length
abbrev pub IsConstantAs : Side → (Name → Bool) → Lval → Type 0
IsConstantAs d.Continuous test left = HasConstantNumbers test left
IsConstantAs d.Procedural test left = HasConstantSpans test left

-- the numbers of a part keep the rules by themselves, and are as constant as they must be
pub record PartHasLegalNumbers (side : Side) (test : Name → Bool) (v : List Entry) (q : Lval) : Type 0 where
  pub numbers : AllSound test v (map (alone v) (numbers_in q))
  pub constant : IsConstantAs side test q

-- a number of a part breaks a rule by itself, or isn't as constant as it must be
abbrev pub BreaksNumbers : Side → (Name → Bool) → List Entry → Lval → Violation → Type 0
BreaksNumbers side test v q b.Constant = SomeBreaks test v (map (alone v) (numbers_in q)) b.Constant ⊎ (IsConstantAs side test q → ⊥)
BreaksNumbers side test v q b.Length = SomeBreaks test v (map (alone v) (numbers_in q)) b.Length
BreaksNumbers side test v q b.Memory = ⊥

-- parts are well formed, and have together so many bits, from 1 to 64
pub record HasSize (v : List Entry) (qs : List Lval) (n : ℕ) : Type 0 where
  pub formed : (q : Lval) → Among qs q → IsLeftFormed v q
  pub size : n ≡ bits_in v qs
  pub length : IsLength n

-- a part isn't well formed, or the parts don't have from 1 to 64 bits together
abbrev pub IsMissized : List Entry → List Lval → Type 0
IsMissized v qs = ((q : Lval) × Among qs q × (IsLeftFormed v q → ⊥)) ⊎ (IsLength (bits_in v qs) → ⊥)
