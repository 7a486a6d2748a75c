-- Nodes, their widths and their values.
use Rattle.std.specs.Prelude.{◌≡◌, ℕ, zero, suc, ◌+◌, ◌^◌, ◌<◌, ◌≤◌, ℤ, List, [], ◌∷◌, ◌++◌, length, drop, slice_index, if◌then◌else◌, ◌==◌}
use lib.Signed.{mag}
use Rattle.word_core.specs.Words.{Bits, IsWord, word, add_of, sub_of, mul_of, and_of, or_of, xor_of, not_of, shl_of, shr_of, sar_of, ult_of, slt_of, eq_of, slice_of, concat_of, zext_of, sext_of}
use Rattle.word_dag.specs.declared.node.Op.{Op}
use Rattle.word_dag.specs.declared.node.Op.TheVariants.{Add, Sub, Mul, And, Or, Xor, Shl, Shr, Sar, Ult, Slt, Eq, Concat}
use Rattle.word_dag.specs.declared.node.Node.{Node}
use Rattle.word_dag.specs.declared.node.Node.TheVariants.{Free, Const, Two, Not, Slice, Zext, Sext, Mux}

abbrev pub width_of : Node → ℕ
width_of (Free name width side cycle) = width
width_of (Const w) = w.width
width_of (Two op width a b) = width
width_of (Not width a) = width
width_of (Slice width a lo) = width
width_of (Zext width a) = width
width_of (Sext width a) = width
width_of (Mux width c a b) = width

abbrev pub width_at : List Node → ℕ → ℕ
width_at [] i = 0
width_at (n ∷ ns) zero = width_of n
width_at (n ∷ ns) (suc i) = width_at ns i

-- the operands of an operation fit it and its width
abbrev pub FitsOp : Op → ℕ → ℕ → ℕ → Type 0
FitsOp Add w a b = (a ≡ w) × (b ≡ w)
FitsOp Sub w a b = (a ≡ w) × (b ≡ w)
FitsOp Mul w a b = (a ≡ w) × (b ≡ w)
FitsOp And w a b = (a ≡ w) × (b ≡ w)
FitsOp Or w a b = (a ≡ w) × (b ≡ w)
FitsOp Xor w a b = (a ≡ w) × (b ≡ w)
FitsOp Shl w a b = a ≡ w
FitsOp Shr w a b = a ≡ w
FitsOp Sar w a b = a ≡ w
FitsOp Ult w a b = (w ≡ 1) × (a ≡ b)
FitsOp Slt w a b = (w ≡ 1) × (a ≡ b)
FitsOp Eq w a b = (w ≡ 1) × (a ≡ b)
FitsOp Concat w a b = (w ≡ a + b) × (w ≤ 64)

-- a node fits the widths of the nodes before it
abbrev pub FitsNode : List ℕ → Node → Type 0
FitsNode ws (Free name width side cycle) = (0 < width) × (width ≤ 64)
FitsNode ws (Const w) = IsWord w
FitsNode ws (Two op width a b) =
    (a < length ws) × (b < length ws) × FitsOp op width (slice_index ws a) (slice_index ws b)
FitsNode ws (Not width a) = (a < length ws) × (slice_index ws a ≡ width)
FitsNode ws (Slice width a lo) = (a < length ws) × (0 < width) × (lo + width ≤ slice_index ws a)
FitsNode ws (Zext width a) = (a < length ws) × (slice_index ws a ≤ width) × (width ≤ 64)
FitsNode ws (Sext width a) = (a < length ws) × (slice_index ws a ≤ width) × (width ≤ 64)
FitsNode ws (Mux width c a b) =
    (c < length ws) × (a < length ws) × (b < length ws) × (slice_index ws c ≡ 1) × (slice_index ws a ≡ width) × (slice_index ws b ≡ width)

-- each of the further nodes fits the ones before it
abbrev pub FitFrom : List ℕ → List Node → Type 0
FitFrom ws [] = Unit {0}
FitFrom ws (n ∷ ns) = FitsNode ws n × FitFrom (ws ++ width_of n ∷ []) ns

-- a word that no list has
abbrev pub no_word : Bits
no_word = record { width = 0; value = 0 }

abbrev pub word_at : List Bits → ℕ → Bits
word_at [] i = no_word
word_at (v ∷ vs) zero = v
word_at (v ∷ vs) (suc i) = word_at vs i

abbrev pub op_value : Op → Bits → Bits → Bits
op_value Add a b = add_of a b
op_value Sub a b = sub_of a b
op_value Mul a b = mul_of a b
op_value And a b = and_of a b
op_value Or a b = or_of a b
op_value Xor a b = xor_of a b
op_value Shl a b = shl_of a b
op_value Shr a b = shr_of a b
op_value Sar a b = sar_of a b
op_value Ult a b = ult_of a b
op_value Slt a b = slt_of a b
op_value Eq a b = eq_of a b
op_value Concat a b = concat_of a b

-- the value of a node from those of the nodes before it; u is that of a free word
abbrev pub node_value : ℕ → List Bits → Node → Bits
node_value u vs (Free name width side cycle) = word width u
node_value u vs (Const w) = w
node_value u vs (Two op width a b) = op_value op (word_at vs a) (word_at vs b)
node_value u vs (Not width a) = not_of (word_at vs a)
node_value u vs (Slice width a lo) = slice_of (word_at vs a) lo width
node_value u vs (Zext width a) = zext_of (word_at vs a) width
node_value u vs (Sext width a) = sext_of (word_at vs a) width
node_value u vs (Mux width c a b) =
    if (word_at vs c).value == 1 then word_at vs a else word_at vs b

-- values by name, side and cycle
abbrev pub Naming : Type 0
Naming = List ℕ → ℕ → ℤ → ℕ

abbrev pub named : Naming → Node → ℕ
named e (Free name width side cycle) = e name side cycle
named e (Const w) = 0
named e (Two op width a b) = 0
named e (Not width a) = 0
named e (Slice width a lo) = 0
named e (Zext width a) = 0
named e (Sext width a) = 0
named e (Mux width c a b) = 0

-- the values of the further nodes of a dag, where free words have values by name
abbrev pub dag_values : Naming → List Bits → List Node → List Bits
dag_values e vs [] = vs
dag_values e vs (n ∷ ns) = dag_values e (vs ++ node_value (named e n) vs n ∷ []) ns

-- the values that are left after a node has taken its own
abbrev pub left_after : Node → List ℕ → List ℕ
left_after (Free name width side cycle) us = drop 1 us
left_after (Const w) us = us
left_after (Two op width a b) us = us
left_after (Not width a) us = us
left_after (Slice width a lo) us = us
left_after (Zext width a) us = us
left_after (Sext width a) us = us
left_after (Mux width c a b) us = us

-- the values of the further nodes of an obligation, where free nodes take the given values in turn
abbrev pub ob_values : List ℕ → List Bits → List Node → List Bits
ob_values us vs [] = vs
ob_values us vs (n ∷ ns) = ob_values (left_after n us) (vs ++ node_value (slice_index us 0) vs n ∷ []) ns

-- the value of the root
abbrev pub root_value : List ℕ → List Node → ℕ → Bits
root_value us nodes root = word_at (ob_values us [] nodes) root

-- the node's numbers are of 64 bits, and its cycle too
abbrev pub IsSmall : Node → Type 0
IsSmall (Free name width side cycle) = (width < 2 ^ 64) × (side < 2 ^ 64) × (mag cycle < 2 ^ 63)
IsSmall (Const w) = IsWord w
IsSmall (Two op width a b) = (width < 2 ^ 64) × (a < 2 ^ 64) × (b < 2 ^ 64)
IsSmall (Not width a) = (width < 2 ^ 64) × (a < 2 ^ 64)
IsSmall (Slice width a lo) = (width < 2 ^ 64) × (a < 2 ^ 64) × (lo < 2 ^ 64)
IsSmall (Zext width a) = (width < 2 ^ 64) × (a < 2 ^ 64)
IsSmall (Sext width a) = (width < 2 ^ 64) × (a < 2 ^ 64)
IsSmall (Mux width c a b) = (width < 2 ^ 64) × (c < 2 ^ 64) × (a < 2 ^ 64) × (b < 2 ^ 64)

abbrev pub AreSmall : List Node → Type 0
AreSmall [] = Unit {0}
AreSmall (n ∷ ns) = IsSmall n × AreSmall ns

-- the nodes fit, the root is a node of one bit, and all numbers are of 64 bits
pub record IsOb (nodes : List Node) (root : ℕ) : Type 0 where
  pub fit : FitFrom [] nodes
  pub root_in : root < length nodes
  pub one_bit : width_at nodes root ≡ 1
  pub small : AreSmall nodes
  pub count : length nodes < 2 ^ 64

-- an obligation: its nodes and its root
pub record Parts : Type 0 where
  pub nodes : List Node
  pub root : ℕ
