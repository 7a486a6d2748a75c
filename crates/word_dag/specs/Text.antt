-- The text of an obligation: a line for each node, and one for the root.
use Rattle.std.specs.Prelude.{◌≡◌, ◌≢◌, ℕ, suc, List, [], ◌∷◌, ◌++◌, codes}
use Rattle.std.specs.Fmt.{decimal, signed_decimal}
use Rattle.word_dag.specs.declared.node.Op.{Op}
use Rattle.word_dag.specs.declared.node.Op.TheVariants.{Add, Sub, Mul, And, Or, Xor, Shl, Shr, Sar, Ult, Slt, Eq, Concat}
use Rattle.word_dag.specs.declared.node.Node.{Node}
use Rattle.word_dag.specs.declared.node.Node.TheVariants.{Free, Const, Two, Not, Slice, Zext, Sext, Mux}
use Rattle.word_dag.specs.Nodes.{width_of, Parts, IsOb}

-- words, each behind a space
abbrev pub spaced : List (List ℕ) → List ℕ
spaced [] = []
spaced (w ∷ ws) = 32 ∷ (w ++ spaced ws)

-- a line of words, with single spaces between them
abbrev pub line : List ℕ → List (List ℕ) → List ℕ
line w ws = w ++ (spaced ws ++ 10 ∷ [])

abbrev pub op_word : Op → List ℕ
op_word Add = codes "add"
op_word Sub = codes "sub"
op_word Mul = codes "mul"
op_word And = codes "and"
op_word Or = codes "or"
op_word Xor = codes "xor"
op_word Shl = codes "shl"
op_word Shr = codes "shr"
op_word Sar = codes "sar"
op_word Ult = codes "ult"
op_word Slt = codes "slt"
op_word Eq = codes "eq"
op_word Concat = codes "concat"

abbrev pub kind_word : Node → List ℕ
kind_word (Free name width side cycle) = codes "free"
kind_word (Const w) = codes "const"
kind_word (Two op width a b) = op_word op
kind_word (Not width a) = codes "not"
kind_word (Slice width a lo) = codes "slice"
kind_word (Zext width a) = codes "zext"
kind_word (Sext width a) = codes "sext"
kind_word (Mux width c a b) = codes "mux"

abbrev pub operand_words : Node → List (List ℕ)
operand_words (Free name width side cycle) = name ∷ decimal side ∷ signed_decimal cycle ∷ []
operand_words (Const w) = decimal w.value ∷ []
operand_words (Two op width a b) = decimal a ∷ decimal b ∷ []
operand_words (Not width a) = decimal a ∷ []
operand_words (Slice width a lo) = decimal a ∷ decimal lo ∷ []
operand_words (Zext width a) = decimal a ∷ []
operand_words (Sext width a) = decimal a ∷ []
operand_words (Mux width c a b) = decimal c ∷ decimal a ∷ decimal b ∷ []

abbrev pub node_line : ℕ → Node → List ℕ
node_line i n = line (decimal i) (kind_word n ∷ decimal (width_of n) ∷ operand_words n)

abbrev pub lines_from : ℕ → List Node → List ℕ
lines_from i [] = []
lines_from i (n ∷ ns) = node_line i n ++ lines_from (suc i) ns

abbrev pub ob_text : List Node → ℕ → List ℕ
ob_text nodes root = lines_from 0 nodes ++ line (codes "root") (decimal root ∷ [])

-- no space and no line feed
abbrev pub IsClean : List ℕ → Type 0
IsClean [] = Unit {0}
IsClean (c ∷ cs) = ((c ≢ 32) × (c ≢ 10)) × IsClean cs

-- the name of a free word is clean
abbrev pub HasCleanName : Node → Type 0
HasCleanName (Free name width side cycle) = IsClean name
HasCleanName (Const w) = Unit {0}
HasCleanName (Two op width a b) = Unit {0}
HasCleanName (Not width a) = Unit {0}
HasCleanName (Slice width a lo) = Unit {0}
HasCleanName (Zext width a) = Unit {0}
HasCleanName (Sext width a) = Unit {0}
HasCleanName (Mux width c a b) = Unit {0}

abbrev pub HaveCleanNames : List Node → Type 0
HaveCleanNames [] = Unit {0}
HaveCleanNames (n ∷ ns) = HasCleanName n × HaveCleanNames ns

-- no other obligation has this text, where no name has a space or a line feed
abbrev pub Tells : List ℕ → Parts → Type 0
Tells bytes ob =
    HaveCleanNames ob.nodes → (other : Parts) → IsOb other.nodes other.root → HaveCleanNames other.nodes → ob_text other.nodes other.root ≡ bytes → other ≡ ob
