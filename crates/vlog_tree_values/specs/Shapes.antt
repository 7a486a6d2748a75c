-- What the calls say of expressions.
use Rattle.std.specs.Prelude.{◌≡◌, ℕ, zero, suc, ◌+◌, ◌*◌, ◌^◌, ◌%◌, ◌≤◌, nat_eq, nat_lt, if◌then◌else◌, Bool, true, List, [], ◌∷◌, IsTrue, ℤ, pos, ◌≤ℤ◌, ◌<ℤ◌}
use Rattle.vlog_tree.specs.declared.expr.Constant.{Constant}
use Rattle.vlog_tree.specs.declared.expr.Expr.{Expr}
use Rattle.vlog_tree.specs.declared.expr.Name.{Name}
use Rattle.vlog_tree.specs.declared.expr.Span.{Span}
use Rattle.vlog_tree.specs.declared.expr.Span.TheVariants as w
use Rattle.vlog_tree.specs.declared.valuation.Entry.{Entry}
use Rattle.vlog_tree.specs.Valuation.{IsLength, named, depth_of, word_name}
use Rattle.vlog_tree.specs.Value.{IsFormed, IsDefined, width_of, sign_of, value_of, own_value, part_width, own_defined, own_integer, operand_of, Operand, plain, joined, own, part_low, bits_of}
use Rattle.word_core.specs.Words.{Bits}

-- an expression is well formed and has by itself this length, from 1 to 64, and this sign
pub record HasShape (v : List Entry) (a : Expr) (n : ℕ) (signed : Bool) : Type 0 where
  pub formed : IsFormed v a
  pub width : n ≡ width_of v a
  pub sign : signed ≡ sign_of v a
  pub length : IsLength n

-- no divisor is 0 where it is taken at this length and sign, and this is its value there
pub record HasValue (v : List Entry) (a : Expr) (L : ℕ) (signed : Bool) (r : Bits) : Type 0 where
  pub defined : IsDefined v a L signed
  pub word : r ≡ record { width = L; value = value_of v a L signed }

-- both, by itself
pub record HasOwn (v : List Entry) (a : Expr) (r : Bits) (signed : Bool) : Type 0 where
  pub shape : HasShape v a r.width signed
  pub defined : IsDefined v a (width_of v a) (sign_of v a)
  pub value : r.value ≡ own_value v a

-- it may be taken at this length
pub record IsReady (v : List Entry) (a : Expr) (L : ℕ) : Type 0 where
  pub formed : IsFormed v a
  pub some : 1 ≤ L
  pub long : width_of v a ≤ L
  pub most : L ≤ 64

-- the two numbers of a part-select give from 1 to 64 bits, and `[a:b]` stays in its vector
abbrev pub FitsPart : Constant → Span → ℤ → ℤ → Type 0
FitsPart k w.Fixed a b = (pos k.low ≤ℤ b) × (a <ℤ pos (k.low + k.width)) × IsLength (part_width w.Fixed a b)
FitsPart k w.Up a b = IsLength (part_width w.Up a b)
FitsPart k w.Down a b = IsLength (part_width w.Down a b)

-- what a number of a part-select needs, and what it gives: the numbers of `[a:b]` are taken, a base's only has to be well formed
abbrev pub NeedsBound : List Entry → Expr → Span → Type 0
NeedsBound v a w.Fixed = IsFormed v a × IsTrue (own_defined (operand_of v a))
NeedsBound v a w.Up = IsFormed v a
NeedsBound v a w.Down = IsFormed v a

abbrev pub HasBound : List Entry → Expr → Span → ℤ → Type 0
HasBound v a w.Fixed i = IsFormed v a × IsTrue (own_defined (operand_of v a)) × (i ≡ own_integer (operand_of v a))
HasBound v a w.Up i = IsFormed v a
HasBound v a w.Down i = IsFormed v a

-- the parts of a concatenation, joined
abbrev pub each_row : List Entry → List Expr → Operand
each_row v [] = plain 0 0 true
each_row v (a ∷ rest) = joined (operand_of v a) (each_row v rest)

abbrev pub each_formed : List Entry → List Expr → Type 0
each_formed v [] = Unit {0}
each_formed v (a ∷ rest) = IsFormed v a × each_formed v rest

-- they are well formed and have together so many bits
pub record HasRow (v : List Entry) (row : List Expr) (n : ℕ) : Type 0 where
  pub formed : each_formed v row
  pub width : n ≡ (each_row v row).width
  pub most : n ≤ 64

-- n copies of a number of k bits, one after another
abbrev pub copy_number : ℕ → ℕ → ℕ → ℕ
copy_number zero k x = 0
copy_number (suc n) k x = x * 2 ^ (n * k) + copy_number n k x

-- the word of a row
pub record HasRowWord (v : List Entry) (row : List Expr) (r : Bits) : Type 0 where
  pub defined : IsTrue (own_defined (each_row v row))
  pub width : r.width ≡ (each_row v row).width
  pub value : r.value ≡ own (each_row v row)

-- the word of a part-select
abbrev pub part_word : Constant → Span → ℤ → ℤ → Bits
part_word k span a b = record { width = part_width span a b; value = bits_of k (part_low span a b) (part_width span a b) }

-- the word of a select: a bit of a vector, or a word of a memory
abbrev pub select_word : List Entry → Name → Constant → ℤ → ℕ → Bits
select_word v x k i j =
    if nat_eq (depth_of v x) 0 then record { width = 1; value = bits_of k i 1 }
    else record { width = k.width; value = if nat_lt j (depth_of v x) then (named v (word_name x j)).value % 2 ^ k.width else 0 }

-- the row of a concatenation that may be taken
pub record IsRow (v : List Entry) (row : List Expr) : Type 0 where
  pub formed : each_formed v row
  pub length : IsLength (each_row v row).width
