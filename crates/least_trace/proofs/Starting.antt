-- Where the search begins: the bits in order are bits of free words, and values that are padded say the same.
use Rattle.std.proofs.Common.{◌≡◌, ℕ, zero, suc, ◌+◌, ◌<◌, ◌≤◌, List, [], ◌∷◌, ◌++◌, length, drop, slice_index, slice_index_or, refl, sym, ap, ◌∙◌, subst, arith, append_assoc, length-append}
use Rattle.std.specs.List.{All, flat_map}
use Rattle.std.proofs.lemmas.List.Elements.{All-nil, All-cons, All-append, All-head, All-tail}
use Rattle.std.proofs.lemmas.List.Sorted.{All-permutation}
use Rattle.clause_check.specs.declared.literal.Lit.{Lit}
use Rattle.word_core.specs.Words.{Bits}
use Rattle.word_dag.specs.declared.node.Node.{Node}
use Rattle.word_dag.specs.declared.node.Node.TheVariants.{Free, Const, Two, Not, Slice, Zext, Sext, Mux}
use Rattle.word_dag.specs.Nodes.{Parts, node_value, ob_values, word_at}
use Rattle.word_dag.specs.Given.{AllFit, free_count}
use Rattle.cnf_build.specs.Lower.{node_made, lower, vars, ob_bits}
use Rattle.cnf_build.specs.Meaning.{RootIs1}
use Rattle.cnf_build.proofs.Nodes.{length-vars}
use Rattle.least_trace.specs.declared.words.Word.{Word}
use Rattle.least_trace.specs.declared.bits.Bit.{Bit}
use Rattle.least_trace.specs.Bits.{words_from, bits_down, bits_of, InOrder}
use Rattle.least_trace.specs.Least.{Satisfy}
use Rattle.least_trace.specs.Walks.{IsBit, padded}

-- the word's place is that of its variables, one for each of its bits
record IsPlaced (fs : List (List ℕ)) (w : Word) : Type 0 where
  within : w.place < length fs
  wide : length (slice_index_or fs w.place []) ≡ w.width

seam : (xs ys : List (List ℕ)) (y : List ℕ) → slice_index_or (xs ++ y ∷ ys) (length xs) [] ≡ y
seam [] ys y = refl
seam (x ∷ xs) ys y = seam xs ys y

all_placed : (before : List (List ℕ)) (k n : ℕ) (t : List (List Lit)) (nodes : List Node) → k ≡ length before → All (IsPlaced (before ++ (lower n t nodes).frees)) (words_from k nodes)
all_placed before k n t [] e = All-nil (IsPlaced (before ++ []))
all_placed before k n t (Free name width side cycle ∷ nodes) e =
    let m = node_made n t (Free name width side cycle) in
    let fs = (lower (n + length m.gates) (t ++ m.lits ∷ []) nodes).frees in
    let own = vars n width in
    let w : Word = record { cycle = cycle; side = side; name = name; place = k; width = width } in
    let long = length-append before (own ∷ fs) in
    let here : IsPlaced (before ++ own ∷ fs) w = record {
      within = omega (arith, long, e);
      wide = ap (λ j. length (slice_index_or (before ++ own ∷ fs) j [])) e ∙ ap length (seam before fs own) ∙ length-vars n width;
    } in
    let next : suc k ≡ length (before ++ own ∷ []) = omega (arith, e, length-append before (own ∷ [])) in
    All-cons (IsPlaced (before ++ own ∷ fs)) w (words_from (suc k) nodes) here
    (subst (λ gs. All (IsPlaced gs) (words_from (suc k) nodes)) (append_assoc before (own ∷ []) fs) (all_placed (before ++ own ∷ []) (suc k) (n + length m.gates) (t ++ m.lits ∷ []) nodes next))
all_placed before k n t (Const w ∷ nodes) e =
    let m = node_made n t (Const w) in all_placed before k (n + length m.gates) (t ++ m.lits ∷ []) nodes e
all_placed before k n t (Two op w x y ∷ nodes) e =
    let m = node_made n t (Two op w x y) in all_placed before k (n + length m.gates) (t ++ m.lits ∷ []) nodes e
all_placed before k n t (Not w x ∷ nodes) e =
    let m = node_made n t (Not w x) in all_placed before k (n + length m.gates) (t ++ m.lits ∷ []) nodes e
all_placed before k n t (Slice w x lo ∷ nodes) e =
    let m = node_made n t (Slice w x lo) in all_placed before k (n + length m.gates) (t ++ m.lits ∷ []) nodes e
all_placed before k n t (Zext w x ∷ nodes) e =
    let m = node_made n t (Zext w x) in all_placed before k (n + length m.gates) (t ++ m.lits ∷ []) nodes e
all_placed before k n t (Sext w x ∷ nodes) e =
    let m = node_made n t (Sext w x) in all_placed before k (n + length m.gates) (t ++ m.lits ∷ []) nodes e
all_placed before k n t (Mux w c x y ∷ nodes) e =
    let m = node_made n t (Mux w c x y) in all_placed before k (n + length m.gates) (t ++ m.lits ∷ []) nodes e

all_down : (nodes : List Node) (w : Word) → IsPlaced (ob_bits nodes) w → (h : ℕ) → h ≤ w.width → All (IsBit nodes) (bits_down w.place h)
all_down nodes w is zero le = All-nil (IsBit nodes)
all_down nodes w is (suc h) le =
    All-cons (IsBit nodes) (record { place = w.place; height = h }) (bits_down w.place h) (record { place = is.within; height = omega (arith, is.wide) }) (all_down nodes w is h (omega arith))

all_bits : (nodes : List Node) (words : List Word) → All (IsPlaced (ob_bits nodes)) words → All (IsBit nodes) (flat_map bits_of words)
all_bits nodes [] h = All-nil (IsBit nodes)
all_bits nodes (w ∷ words) h =
    All-append (IsBit nodes) (bits_of w) (flat_map bits_of words) (all_down nodes w (All-head (IsPlaced (ob_bits nodes)) w words h) w.width (omega arith)) (all_bits nodes words (All-tail (IsPlaced (ob_bits nodes)) w words h))

pub all_known : (nodes : List Node) (bits : List Bit) → InOrder nodes bits → All (IsBit nodes) bits
all_known nodes bits order =
    let placed = All-permutation (IsPlaced (ob_bits nodes)) (words_from 0 nodes) order.words order.all (all_placed [] 0 1 [] nodes refl) in
    subst (All (IsBit nodes)) (sym order.are) (all_bits nodes order.words placed)

length-padded : (k : ℕ) (us : List ℕ) → length (padded k us) ≡ k
length-padded zero us = refl
length-padded (suc k) us = ap suc (length-padded k (drop 1 us))

padded_fit : (us : List ℕ) (nodes : List Node) → AllFit us nodes → AllFit (padded (free_count nodes) us) nodes
padded_fit us [] f = tt
padded_fit us (Free name w side cycle ∷ nodes) f = (f.0, padded_fit (drop 1 us) nodes f.1)
padded_fit us (Const w ∷ nodes) f = (tt, padded_fit us nodes f.1)
padded_fit us (Two op w x y ∷ nodes) f = (tt, padded_fit us nodes f.1)
padded_fit us (Not w x ∷ nodes) f = (tt, padded_fit us nodes f.1)
padded_fit us (Slice w x lo ∷ nodes) f = (tt, padded_fit us nodes f.1)
padded_fit us (Zext w x ∷ nodes) f = (tt, padded_fit us nodes f.1)
padded_fit us (Sext w x ∷ nodes) f = (tt, padded_fit us nodes f.1)
padded_fit us (Mux w c x y ∷ nodes) f = (tt, padded_fit us nodes f.1)

padded_values : (us : List ℕ) (vs : List Bits) (nodes : List Node) → ob_values (padded (free_count nodes) us) vs nodes ≡ ob_values us vs nodes
padded_values us vs [] = refl
padded_values us vs (Free name w side cycle ∷ nodes) = padded_values (drop 1 us) (vs ++ node_value (slice_index us 0) vs (Free name w side cycle) ∷ []) nodes
padded_values us vs (Const w ∷ nodes) = padded_values us (vs ++ node_value (slice_index us 0) vs (Const w) ∷ []) nodes
padded_values us vs (Two op w x y ∷ nodes) = padded_values us (vs ++ node_value (slice_index us 0) vs (Two op w x y) ∷ []) nodes
padded_values us vs (Not w x ∷ nodes) = padded_values us (vs ++ node_value (slice_index us 0) vs (Not w x) ∷ []) nodes
padded_values us vs (Slice w x lo ∷ nodes) = padded_values us (vs ++ node_value (slice_index us 0) vs (Slice w x lo) ∷ []) nodes
padded_values us vs (Zext w x ∷ nodes) = padded_values us (vs ++ node_value (slice_index us 0) vs (Zext w x) ∷ []) nodes
padded_values us vs (Sext w x ∷ nodes) = padded_values us (vs ++ node_value (slice_index us 0) vs (Sext w x) ∷ []) nodes
padded_values us vs (Mux w c x y ∷ nodes) = padded_values us (vs ++ node_value (slice_index us 0) vs (Mux w c x y) ∷ []) nodes

-- as many values as there are free words are a witness
pub padded_witness : (ob : Parts) (us vs : List ℕ) (count : ℕ) → AllFit us ob.nodes → RootIs1 ob.nodes ob.root us → count ≡ free_count ob.nodes → vs ≡ padded count us → Satisfy ob vs
padded_witness ob us vs count fit root many is =
    let same : vs ≡ padded (free_count ob.nodes) us = is ∙ ap (λ k. padded k us) many in
    record {
      many = ap length same ∙ length-padded (free_count ob.nodes) us;
      fit = subst (λ ws. AllFit ws ob.nodes) (sym same) (padded_fit us ob.nodes fit);
      root = ap (λ ws. (word_at (ob_values ws [] ob.nodes) ob.root).value) same ∙ ap (λ (ws : List Bits). (word_at ws ob.root).value) (padded_values us [] ob.nodes) ∙ root;
    }
