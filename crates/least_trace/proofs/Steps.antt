-- Free words and their bits, one after another.
use Rattle.std.proofs.Common.{◌≡◌, ℕ, suc, ◌+◌, ◌-◌, ◌<◌, ◌≤◌, List, [], ◌∷◌, ◌++◌, length, take, drop, get_or, slice_index, sym, ap, ◌∙◌, arith, append_assoc, append-nil, get_or-drop, drop-drop, zero-add}
use Rattle.std.proofs.lemmas.List.{take_more}
use Rattle.word_dag.specs.declared.node.Node.{Node}
use Rattle.word_dag.specs.declared.node.Node.TheVariants.{Free, Const, Two, Not, Slice, Zext, Sext, Mux}
use Rattle.least_trace.specs.declared.words.Word.{Word}
use Rattle.least_trace.specs.declared.bits.Bit.{Bit}
use Rattle.least_trace.specs.Bits.{words_from, bits_down}
use Rattle.least_trace.specs.Walks.{padded}

words_push : (k : ℕ) (ns : List Node) (n : Node) → words_from k (ns ++ n ∷ []) ≡ words_from k ns ++ words_from (k + length (words_from k ns)) (n ∷ [])
words_push k [] n = let none : k ≡ k + 0 = omega arith in ap (λ j. words_from j (n ∷ [])) none
words_push k (Free name width side cycle ∷ ns) n =
    let w : Word = record { cycle = cycle; side = side; name = name; place = k; width = width } in
    let same : suc k + length (words_from (suc k) ns) ≡ k + suc (length (words_from (suc k) ns)) = omega arith in
    ap (λ r. w ∷ r) (words_push (suc k) ns n ∙ ap (λ j. words_from (suc k) ns ++ words_from j (n ∷ [])) same)
words_push k (Const w ∷ ns) n = words_push k ns n
words_push k (Two op width a b ∷ ns) n = words_push k ns n
words_push k (Not width a ∷ ns) n = words_push k ns n
words_push k (Slice width a lo ∷ ns) n = words_push k ns n
words_push k (Zext width a ∷ ns) n = words_push k ns n
words_push k (Sext width a ∷ ns) n = words_push k ns n
words_push k (Mux width c a b ∷ ns) n = words_push k ns n

-- one more node
pub words_step : (ns : List Node) (i : ℕ) (n : Node) (before after : List Word) → i < length ns → n ≡ get_or ns i n → before ≡ words_from 0 (take i ns) → after ≡ before ++ words_from (length before) (n ∷ []) → after ≡ words_from 0 (take (i + 1) ns)
words_step ns i n before after lt is be af =
    let more : take (i + 1) ns ≡ take i ns ++ n ∷ [] = take_more ns i n lt ∙ ap (λ k. take i ns ++ k ∷ []) (sym is) in
    af ∙ ap (λ ws. ws ++ words_from (length ws) (n ∷ [])) be ∙ sym (ap (words_from 0) more ∙ words_push 0 (take i ns) n ∙ ap (λ j. words_from 0 (take i ns) ++ words_from j (n ∷ [])) (zero-add (length (words_from 0 (take i ns)))))

-- one more bit of a word
pub bits_step : (before after old : List Bit) (place width above : ℕ) → above < width → after ≡ before ++ record { place = place; height = width - 1 - above } ∷ [] → before ++ bits_down place (width - above) ≡ old ++ bits_down place width → after ++ bits_down place (width - (above + 1)) ≡ old ++ bits_down place width
bits_step before after old place width above lt af be =
    let left : width - above ≡ suc (width - (above + 1)) = omega arith in
    let here : width - 1 - above ≡ width - (above + 1) = omega arith in
    let b : Bit = record { place = place; height = width - (above + 1) } in
    let rest = bits_down place (width - (above + 1)) in
    ap (λ bs. bs ++ rest) (af ∙ ap (λ h. before ++ record { place = place; height = h } ∷ []) here) ∙ append_assoc before (b ∷ []) rest ∙ sym (ap (λ k. before ++ bits_down place k) left) ∙ be

pub bits_end : (bits old : List Bit) (place width above : ℕ) → width ≤ above → bits ++ bits_down place (width - above) ≡ old ++ bits_down place width → bits ≡ old ++ bits_down place width
bits_end bits old place width above le be =
    let none : width - above ≡ 0 = omega arith in
    sym (append-nil bits) ∙ sym (ap (λ k. bits ++ bits_down place k) none) ∙ be

-- one more value
pub padded_step : (before after us : List ℕ) (u count i : ℕ) → i < count → u ≡ slice_index us i → after ≡ before ++ u ∷ [] → before ++ padded (count - i) (drop i us) ≡ padded count us → after ++ padded (count - (i + 1)) (drop (i + 1) us) ≡ padded count us
padded_step before after us u count i lt is af be =
    let left : count - i ≡ suc (count - (i + 1)) = omega arith in
    let rest = padded (count - (i + 1)) (drop (i + 1) us) in
    let head : slice_index (drop i us) 0 ≡ u = get_or-drop i us 0 0 ∙ ap (slice_index us) (omega arith) ∙ sym is in
    let next : drop 1 (drop i us) ≡ drop (i + 1) us = drop-drop 1 i us in
    ap (λ vs. vs ++ rest) af ∙ append_assoc before (u ∷ []) rest ∙ sym (ap (λ k. before ++ padded k (drop i us)) left ∙ ap (λ k. before ++ k ∷ padded (count - (i + 1)) (drop 1 (drop i us))) head ∙ ap (λ vs. before ++ u ∷ padded (count - (i + 1)) vs) next) ∙ be

pub padded_end : (all us : List ℕ) (count i : ℕ) → count ≤ i → all ++ padded (count - i) (drop i us) ≡ padded count us → all ≡ padded count us
padded_end all us count i le be =
    let none : count - i ≡ 0 = omega arith in
    sym (append-nil all) ∙ sym (ap (λ k. all ++ padded k (drop i us)) none) ∙ be
