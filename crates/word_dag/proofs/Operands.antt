-- The operands of a node among the words of the nodes before it.
use Rattle.std.proofs.Common.{◌≡◌, ℕ, zero, suc, ◌^◌, ◌<◌, true, false, take, drop, List, [], ◌∷◌, length, get_or, refl, sym, ap, arith}
use Rattle.std.specs.Prelude.{slice_index}
use Rattle.std.proofs.Math.Nat.{mod-eq_of_lt}
use Rattle.word_core.specs.Words.{Bits, word}
use Rattle.word_dag.specs.declared.node.Node.{Node}
use Rattle.word_dag.specs.declared.node.Node.TheVariants.{Free, Const, Two, Not, Slice, Zext, Sext, Mux}
use Rattle.word_dag.specs.Nodes.{word_at, left_after}
use Rattle.word_dag.specs.Given.{widths_of, is_free}

pub length-widths_of : (ws : List Bits) → length (widths_of ws) ≡ length ws
length-widths_of [] = refl
length-widths_of (w ∷ ws) = ap suc (length-widths_of ws)

pub width_at-words : (ws : List Bits) (i : ℕ) → slice_index (widths_of ws) i ≡ (word_at ws i).width
width_at-words [] i = refl
width_at-words (w ∷ ws) zero = refl
width_at-words (w ∷ ws) (suc i) = width_at-words ws i

pub word_at-get_or : (ws : List Bits) (i : ℕ) (d : Bits) → i < length ws → get_or ws i d ≡ word_at ws i
word_at-get_or [] i d lt = absurd (omega arith)
word_at-get_or (w ∷ ws) zero d lt = refl
word_at-get_or (w ∷ ws) (suc i) d lt = word_at-get_or ws i d (omega arith)

-- a given number that fits
pub word_fits : (w u : ℕ) → u < 2 ^ w → (let b : Bits = record { width = w; value = u } in b) ≡ word w u
word_fits w u lt = let e = sym (mod-eq_of_lt lt) in ap (λ v. let b : Bits = record { width = w; value = v } in b) e

pub ruleset operands = (length-widths_of, width_at-words, word_at-get_or, word_fits)

-- a node takes a value where it is free
pub left-free : (n : Node) (us : List ℕ) → is_free n ≡ true → left_after n us ≡ drop 1 us
left-free (Free name width side cycle) us e = refl
left-free (Const w) us e = cc
left-free (Two op width a b) us e = cc
left-free (Not width a) us e = cc
left-free (Slice width a lo) us e = cc
left-free (Zext width a) us e = cc
left-free (Sext width a) us e = cc
left-free (Mux width c a b) us e = cc

pub left-other : (n : Node) (us : List ℕ) → is_free n ≡ false → left_after n us ≡ us
left-other (Free name width side cycle) us e = cc
left-other (Const w) us e = refl
left-other (Two op width a b) us e = refl
left-other (Not width a) us e = refl
left-other (Slice width a lo) us e = refl
left-other (Zext width a) us e = refl
left-other (Sext width a) us e = refl
left-other (Mux width c a b) us e = refl

pub left-none : (n : Node) → left_after n [] ≡ []
left-none (Free name width side cycle) = refl
left-none (Const w) = refl
left-none (Two op width a b) = refl
left-none (Not width a) = refl
left-none (Slice width a lo) = refl
left-none (Zext width a) = refl
left-none (Sext width a) = refl
left-none (Mux width c a b) = refl

pub left-empty : (n : Node) (us : List ℕ) → length us ≡ 0 → left_after n us ≡ us
left-empty n [] e = left-none n
left-empty n (u ∷ us) e = absurd (omega arith)

pub ruleset lefts = (left-free, left-other, left-empty)

pub word_at-take : (ws : List Bits) (n i : ℕ) → i < n → word_at (take n ws) i ≡ word_at ws i
word_at-take ws zero i lt = absurd (omega arith)
word_at-take [] (suc n) i lt = refl
word_at-take (w ∷ ws) (suc n) zero lt = refl
word_at-take (w ∷ ws) (suc n) (suc i) lt = word_at-take ws n i (omega arith)
