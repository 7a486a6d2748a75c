-- Least values are one.
use Rattle.std.proofs.Common.{◌≡◌, ℕ, zero, suc, ◌<◌, ◌^◌, List, [], ◌∷◌, length, drop, slice_index, refl, sym, ap, ap₂, ◌∙◌, subst, arith, inl, inr, ◌⊎◌, add-one, add-zero, get_or-drop, drop-drop, drop-cons, length-drop}
use Rattle.std.proofs.lemmas.Bool.{cases_eq}
use Rattle.std.specs.Int.{bit_at}
use Rattle.std.specs.List.{All, flat_map}
use Rattle.std.proofs.lemmas.Nat.Bits.{bit_at-lt, same_from_bits_below}
use Rattle.std.proofs.lemmas.List.Elements.{All-nil, All-cons, All-head, All-tail}
use Rattle.std.proofs.lemmas.List.Sorted.{All-permutation, IsPermutation-sym}
use Rattle.word_dag.specs.declared.node.Node.{Node}
use Rattle.word_dag.specs.declared.node.Node.TheVariants.{Free, Const, Two, Not, Slice, Zext, Sext, Mux}
use Rattle.word_dag.specs.Given.{AllFit, free_count}
use Rattle.least_trace.specs.declared.words.Word.{Word}
use Rattle.least_trace.specs.declared.bits.Bit.{Bit}
use Rattle.least_trace.specs.Bits.{words_from, bits_down, bits_of, InOrder, bit_in, Before}
use Rattle.word_dag.specs.Nodes.{Parts}
use Rattle.least_trace.specs.Least.{Satisfy, NoneBefore}
use Rattle.least_trace.specs.Laws.{LeastIsOne}
use Rattle.least_trace.proofs.Reading.{two_cases}
use Rattle.least_trace.proofs.Ordered.{one_order}
use Rattle.least_trace.proofs.Agreeing.{Same, Agree}
use Rattle.least_trace.proofs.Carried.{All-left, All-right}

abbrev Compared : List Bit → List ℕ → List ℕ → Type 0
Compared bits us vs = Before bits us vs ⊎ (Before bits vs us ⊎ Agree bits us vs)

further : (b : Bit) (bits : List Bit) (us vs : List ℕ) → Same us vs b → Compared bits us vs → Compared (b ∷ bits) us vs
further b bits us vs e h = elim h [
  | inl x ↦ inl (inr (e, x))
  | inr y ↦ elim y [ inl x ↦ inr (inl (inr (sym e, x))) | inr a ↦ inr (inr (All-cons (Same us vs) b bits e a)) ]
]

bit_cases : (us : List ℕ) (b : Bit) → (bit_in us b ≡ 0) ⊎ (bit_in us b ≡ 1)
bit_cases us b = two_cases (bit_in us b) (bit_at-lt (slice_index us b.place) b.height)

-- of two lists of values one comes first by these bits, or they agree in them
compared : (bits : List Bit) (us vs : List ℕ) → Compared bits us vs
compared [] us vs = inr (inr (All-nil (Same us vs)))
compared (b ∷ bits) us vs = elim (bit_cases us b) [
  | inl u ↦ elim (bit_cases vs b) [ inl v ↦ further b bits us vs (u ∙ sym v) (compared bits us vs) | inr v ↦ inl (inl (u, v)) ]
  | inr u ↦ elim (bit_cases vs b) [ inl v ↦ inr (inl (inl (v, u))) | inr v ↦ further b bits us vs (u ∙ sym v) (compared bits us vs) ]
]

-- the bits of a word are the same
abbrev SameWord : List ℕ → List ℕ → Word → Type 0
SameWord us vs w = (h : ℕ) → h < w.width → bit_at (slice_index us w.place) h ≡ bit_at (slice_index vs w.place) h

down_same : (us vs : List ℕ) (place n : ℕ) → Agree (bits_down place n) us vs → (h : ℕ) → h < n → bit_at (slice_index us place) h ≡ bit_at (slice_index vs place) h
down_same us vs place zero a h lt = absurd (omega arith)
down_same us vs place (suc n) a h lt = elim (cases_eq h n) [
  | inl e ↦ subst (λ k. bit_at (slice_index us place) k ≡ bit_at (slice_index vs place) k) (sym e) (All-head (Same us vs) (record { place = place; height = n }) (bits_down place n) a)
  | inr ne ↦ down_same us vs place n (All-tail (Same us vs) (record { place = place; height = n }) (bits_down place n) a) h (omega (arith, ne))
]

words_same : (us vs : List ℕ) (words : List Word) → Agree (flat_map bits_of words) us vs → All (SameWord us vs) words
words_same us vs [] a = All-nil (SameWord us vs)
words_same us vs (w ∷ words) a =
    All-cons (SameWord us vs) w words (down_same us vs w.place w.width (All-left (Same us vs) (bits_of w) (flat_map bits_of words) a)) (words_same us vs words (All-right (Same us vs) (bits_of w) (flat_map bits_of words) a))

both_empty : (us vs : List ℕ) → length us ≡ 0 → length vs ≡ 0 → us ≡ vs
both_empty [] [] e f = refl
both_empty [] (v ∷ vs) e f = absurd (omega arith)
both_empty (u ∷ us) vs e f = absurd (omega arith)

-- what values have from a place on
first_is : (us : List ℕ) (k : ℕ) → slice_index (drop k us) 0 ≡ slice_index us k
first_is us k = get_or-drop k us 0 0 ∙ ap (slice_index us) (add-zero k)

rest_is : (us : List ℕ) (k : ℕ) → drop 1 (drop k us) ≡ drop (suc k) us
rest_is us k = drop-drop 1 k us ∙ ap (λ j. drop j us) (add-one k)

lists_same : (us vs : List ℕ) (k : ℕ) (nodes : List Node) → All (SameWord us vs) (words_from k nodes) → AllFit (drop k us) nodes → AllFit (drop k vs) nodes → length (drop k us) ≡ free_count nodes → length (drop k vs) ≡ free_count nodes → drop k us ≡ drop k vs
lists_same us vs k [] a f g e d = both_empty (drop k us) (drop k vs) e d
lists_same us vs k (Free name w side cycle ∷ nodes) a f g e d =
    let word : Word = record { cycle = cycle; side = side; name = name; place = k; width = w } in
    let more = words_from (suc k) nodes in
    let here : slice_index us k ≡ slice_index vs k = same_from_bits_below w (slice_index us k) (slice_index vs k) (subst (λ u. u < 2 ^ w) (first_is us k) f.0) (subst (λ u. u < 2 ^ w) (first_is vs k) g.0) (All-head (SameWord us vs) word more a) in
    let lu : k < length us = omega (arith, e, length-drop k us) in
    let lv : k < length vs = omega (arith, d, length-drop k vs) in
    let eu : length (drop (suc k) us) ≡ free_count nodes = omega (arith, e, length-drop k us, length-drop (suc k) us) in
    let ev : length (drop (suc k) vs) ≡ free_count nodes = omega (arith, d, length-drop k vs, length-drop (suc k) vs) in
    let fu = subst (λ xs. AllFit xs nodes) (rest_is us k) f.1 in
    let gv = subst (λ xs. AllFit xs nodes) (rest_is vs k) g.1 in
    drop-cons us k 0 lu ∙ ap₂ ◌∷◌ here (lists_same us vs (suc k) nodes (All-tail (SameWord us vs) word more a) fu gv eu ev) ∙ sym (drop-cons vs k 0 lv)
lists_same us vs k (Const w ∷ nodes) a f g e d = lists_same us vs k nodes a f.1 g.1 e d
lists_same us vs k (Two op w x y ∷ nodes) a f g e d = lists_same us vs k nodes a f.1 g.1 e d
lists_same us vs k (Not w x ∷ nodes) a f g e d = lists_same us vs k nodes a f.1 g.1 e d
lists_same us vs k (Slice w x lo ∷ nodes) a f g e d = lists_same us vs k nodes a f.1 g.1 e d
lists_same us vs k (Zext w x ∷ nodes) a f g e d = lists_same us vs k nodes a f.1 g.1 e d
lists_same us vs k (Sext w x ∷ nodes) a f g e d = lists_same us vs k nodes a f.1 g.1 e d
lists_same us vs k (Mux w c x y ∷ nodes) a f g e d = lists_same us vs k nodes a f.1 g.1 e d

one_least : (ob : Parts) (bits : List Bit) (us vs : List ℕ) → InOrder ob.nodes bits → Satisfy ob us → NoneBefore ob bits us → Satisfy ob vs → NoneBefore ob bits vs → us ≡ vs
one_least ob bits us vs order su nu sv nv = elim (compared bits us vs) [
  | inl x ↦ absurd (nv us su x)
  | inr y ↦ elim y [
    | inl x ↦ absurd (nu vs sv x)
    | inr a ↦
        let words = words_same us vs order.words (subst (λ bs. Agree bs us vs) order.are a) in
        let all = All-permutation (SameWord us vs) order.words (words_from 0 ob.nodes) (IsPermutation-sym (words_from 0 ob.nodes) order.words order.all) words in
        lists_same us vs 0 ob.nodes all su.fit sv.fit su.many sv.many
  ]
]

pub found_one : LeastIsOne
found_one ob us vs es fs f g =
    one_least ob f.bits us vs f.order f.witness f.least g.witness (subst (λ bs. NoneBefore ob bs vs) (one_order ob.nodes g.bits f.bits g.order f.order) g.least)
