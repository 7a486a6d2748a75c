-- The bits of an obligation in their order, and the order of values.
use Rattle.std.specs.Prelude.{◌≡◌, ℕ, ℤ, zero, suc, List, [], ◌∷◌, ◌⊎◌, IsPermutation, IsSorted, slice_index}
use Rattle.std.specs.Int.{bit_at}
use Rattle.std.specs.List.{flat_map}
use Rattle.std.specs.declared.cmp.Ordering.{Ordering}
use Rattle.std.specs.Ordering.{on, then_cmp, int_cmp, nat_cmp}
use Rattle.std.specs.Cmp.Lexicographic.{slice_cmp}
use Rattle.word_dag.specs.declared.node.Node.{Node}
use Rattle.word_dag.specs.declared.node.Node.TheVariants.{Free, Const, Two, Not, Slice, Zext, Sext, Mux}
use Rattle.least_trace.specs.declared.words.Word.{Word}
use Rattle.least_trace.specs.declared.bits.Bit.{Bit}

-- the free words of nodes, the first of which has this place among the values
abbrev pub words_from : ℕ → List Node → List Word
words_from k [] = []
words_from k (Free name width side cycle ∷ ns) =
    record { cycle = cycle; side = side; name = name; place = k; width = width } ∷ words_from (suc k) ns
words_from k (Const w ∷ ns) = words_from k ns
words_from k (Two op width a b ∷ ns) = words_from k ns
words_from k (Not width a ∷ ns) = words_from k ns
words_from k (Slice width a lo ∷ ns) = words_from k ns
words_from k (Zext width a ∷ ns) = words_from k ns
words_from k (Sext width a ∷ ns) = words_from k ns
words_from k (Mux width c a b ∷ ns) = words_from k ns

abbrev pub cycle_of : Word → ℤ
cycle_of w = w.cycle

abbrev pub side_of : Word → ℕ
side_of w = w.side

abbrev pub name_of : Word → List ℕ
name_of w = w.name

abbrev pub place_of : Word → ℕ
place_of w = w.place

-- by cycle, then side, then name in byte order, then node
abbrev pub word_cmp : Word → Word → Ordering
word_cmp =
    then_cmp (then_cmp (then_cmp (on cycle_of int_cmp) (on side_of nat_cmp)) (on name_of (slice_cmp nat_cmp))) (on place_of nat_cmp)

-- so many of the lowest bits of a word, the highest of them first
abbrev pub bits_down : ℕ → ℕ → List Bit
bits_down place zero = []
bits_down place (suc h) = record { place = place; height = h } ∷ bits_down place h

abbrev pub bits_of : Word → List Bit
bits_of w = bits_down w.place w.width

-- the bits of the free words: by cycle, side, name and node, and within a word the highest first
pub record InOrder (nodes : List Node) (bits : List Bit) : Type 0 where
  pub words : List Word
  pub all : IsPermutation (words_from 0 nodes) words
  pub sorted : IsSorted word_cmp words
  pub are : bits ≡ flat_map bits_of words

-- a bit of the values, 0 or 1
abbrev pub bit_in : List ℕ → Bit → ℕ
bit_in us b = bit_at (slice_index us b.place) b.height

-- us come before vs: at the first of these bits in which they differ us has 0
abbrev pub Before : List Bit → List ℕ → List ℕ → Type 0
Before [] us vs = ⊥
Before (b ∷ bits) us vs =
    ((bit_in us b ≡ 0) × (bit_in vs b ≡ 1)) ⊎ ((bit_in us b ≡ bit_in vs b) × Before bits us vs)
