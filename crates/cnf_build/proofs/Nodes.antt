-- The circuits of nodes give the nodes' words, one node after the other.
use Rattle.std.proofs.Common.{◌≡◌, ℕ, zero, suc, ◌+◌, ◌-◌, ◌*◌, ◌/◌, ◌%◌, ◌^◌, ◌<◌, ◌≤◌, Bool, true, false, List, [], ◌∷◌, ◌++◌, length, drop, refl, sym, ap, ◌∙◌, subst, arith, length-append, length-take-le, length-drop}
use Rattle.std.specs.Prelude.{map, replicate, slice_index, if◌then◌else◌, ◌==◌}
use Rattle.std.proofs.Math.Nat.{mod-eq_of_lt}
use Rattle.std.proofs.lemmas.List.{length-replicate}
use Rattle.clause_check.specs.declared.literal.Lit.{Lit}
use Rattle.cnf_build.specs.Literals.{holds}
use Rattle.cnf_build.specs.declared.gates.Gate.TheVariants as Gates
use Rattle.cnf_build.specs.Gates.{Runs}
use Rattle.cnf_build.specs.Circuits.{bit, number, false_lit, row_lits, zip_gates, top_of}
use Rattle.cnf_build.proofs.Numbers.{number-negated}
use Rattle.cnf_build.proofs.Rows.{length-row_lits, length-zip_gates, mux_picks}
use Rattle.cnf_build.proofs.Comparisons.{length-negated}
use Rattle.cnf_build.proofs.Wires.{number-const_lits, length-const_lits, number-slice, number-zext, number-sext}
use Rattle.word_core.specs.Words.{zext_of, sext_of, not_of, slice_of}
use Rattle.word_dag.specs.declared.node.Op.{Op}
use Rattle.word_dag.specs.declared.node.Op.TheVariants.{Add, Sub, Mul, And, Or, Xor, Shl, Shr, Sar, Ult, Slt, Eq, Concat}
use Rattle.word_dag.specs.declared.node.Node.{Node}
use Rattle.word_dag.specs.declared.node.Node.TheVariants.{Free, Const, Two, Not, Slice, Zext, Sext, Mux}
use Rattle.word_dag.specs.Nodes.{FitsNode, FitsOp, width_of, node_value, word_at, op_value}
use Rattle.cnf_build.specs.Lower.{node_made, lits_at, low_of, free_vars, vars}
use Rattle.cnf_build.specs.Meaning.{denoted, read_word}
use Rattle.cnf_build.proofs.Ops.{same_word, op_denotes, length-op_made}

-- a table of literals beside the words and the widths
pub word_at-map : (s : ℕ → Bool) (t : List (List Lit)) (i : ℕ) → word_at (map (denoted s) t) i ≡ denoted s (lits_at t i)
word_at-map s [] i = refl
word_at-map s (ls ∷ t) zero = refl
word_at-map s (ls ∷ t) (suc i) = word_at-map s t i

pub width_at-map : (t : List (List Lit)) (i : ℕ) → slice_index (map length t) i ≡ length (lits_at t i)
width_at-map [] i = refl
width_at-map (ls ∷ t) zero = refl
width_at-map (ls ∷ t) (suc i) = width_at-map t i

-- no node is without bits
abbrev pub Filled : List (List Lit) → Type 0
Filled [] = Unit {0}
Filled (ls ∷ t) = (0 < length ls) × Filled t

filled_at : (t : List (List Lit)) (i : ℕ) → Filled t → i < length t → 0 < length (lits_at t i)
filled_at [] i f lt = absurd (omega arith)
filled_at (ls ∷ t) zero f lt = f.0
filled_at (ls ∷ t) (suc i) f lt = filled_at t i f.1 (omega arith)

pub filled_push : (t : List (List Lit)) (ls : List Lit) → Filled t → 0 < length ls → Filled (t ++ ls ∷ [])
filled_push [] ls f p = (p, tt)
filled_push (m ∷ t) ls f p = (f.0, filled_push t ls f.1 p)

length-widths : (t : List (List Lit)) → length (map length t) ≡ length t
length-widths [] = refl
length-widths (ls ∷ t) = ap suc (length-widths t)

pub map_push : {A B : Type 0} (f : A → B) (xs : List A) (y : A) → map f (xs ++ y ∷ []) ≡ map f xs ++ f y ∷ []
map_push f [] y = refl
map_push f (x ∷ xs) y = ap (λ r. f x ∷ r) (map_push f xs y)

-- what the free nodes' variables read is what they are given
abbrev pub Agree : (ℕ → Bool) → List (List ℕ) → List ℕ → Type 0
Agree s [] us = Unit {0}
Agree s (vs ∷ fs) us = (read_word s vs ≡ slice_index us 0 % 2 ^ length vs) × Agree s fs (drop 1 us)

pub number-free : (s : ℕ → Bool) (n w : ℕ) → number s (row_lits n (replicate w Gates.Free)) ≡ read_word s (vars n w)
number-free s n zero = refl
number-free s n (suc w) = ap (λ k. bit (s n) + 2 * k) (number-free s (suc n) w)

pub length-vars : (n w : ℕ) → length (vars n w) ≡ w
length-vars n zero = refl
length-vars n (suc w) = ap suc (length-vars (suc n) w)

-- an operand within the nodes so far, with bits
module _ (s : ℕ → Bool) (h : s 0 ≡ true) (t : List (List Lit)) (filled : Filled t) where
  operand : (i : ℕ) → i < length (map length t) → 0 < length (lits_at t i)
  operand i lt = filled_at t i filled (omega (arith, length-widths t))

  width_is : (i w : ℕ) → slice_index (map length t) i ≡ w → length (lits_at t i) ≡ w
  width_is i w e = sym (width_at-map t i) ∙ e

  pub length-node_made : (n : ℕ) (node : Node) → FitsNode (map length t) node → (length (node_made n t node).lits ≡ width_of node) × (0 < width_of node)
  length-node_made n (Free name w side cycle) f =
      (length-row_lits n (replicate w Gates.Free) ∙ length-replicate w Gates.Free, f.0)
  length-node_made n (Const w) f = (length-const_lits w.width w.value, f.some)
  length-node_made n (Two op w a b) f =
      let fit = subst (λ k. FitsOp op w (length (lits_at t a)) k) (width_at-map t b) (subst (λ k. FitsOp op w k (slice_index (map length t) b)) (width_at-map t a) f.2) in
      (length-op_made n op w (lits_at t a) (lits_at t b) fit, some_bits op w (length (lits_at t a)) (length (lits_at t b)) (operand a f.0) fit)
    where
      some_bits : (o : Op) (v x y : ℕ) → 0 < x → FitsOp o v x y → 0 < v
      some_bits Add v x y p g = omega (arith, g.0)
      some_bits Sub v x y p g = omega (arith, g.0)
      some_bits Mul v x y p g = omega (arith, g.0)
      some_bits And v x y p g = omega (arith, g.0)
      some_bits Or v x y p g = omega (arith, g.0)
      some_bits Xor v x y p g = omega (arith, g.0)
      some_bits Shl v x y p g = omega (arith, g)
      some_bits Shr v x y p g = omega (arith, g)
      some_bits Sar v x y p g = omega (arith, g)
      some_bits Ult v x y p g = omega (arith, g.0)
      some_bits Slt v x y p g = omega (arith, g.0)
      some_bits Eq v x y p g = omega (arith, g.0)
      some_bits Concat v x y p g = omega (arith, g.0)
  length-node_made n (Not w a) f =
      (length-negated (lits_at t a) ∙ width_is a w f.1, omega (arith, operand a f.0, width_is a w f.1))
  length-node_made n (Slice w a lo) f =
      let e = width_at-map t a in
      let long : w ≤ length (drop lo (lits_at t a)) = omega (arith, length-drop lo (lits_at t a), f.2, e) in
      (length-take-le w (drop lo (lits_at t a)) long, f.1)
  length-node_made n (Zext w a) f =
      let xs = lits_at t a in
      let e = width_at-map t a in
      (omega (arith, length-append xs (replicate (w - length xs) false_lit), length-replicate (w - length xs) false_lit, f.1, e), omega (arith, operand a f.0, f.1, e))
  length-node_made n (Sext w a) f =
      let xs = lits_at t a in
      let e = width_at-map t a in
      (omega (arith, length-append xs (replicate (w - length xs) (top_of xs)), length-replicate (w - length xs) (top_of xs), f.1, e), omega (arith, operand a f.0, f.1, e))
  length-node_made n (Mux w c a b) f =
      let same = width_is a w f.4 ∙ sym (width_is b w f.5) in
      (length-row_lits n (zip_gates (Gates.Mux (low_of (lits_at t c))) (lits_at t a) (lits_at t b)) ∙ length-zip_gates (Gates.Mux (low_of (lits_at t c))) (lits_at t a) (lits_at t b) same ∙ width_is a w f.4, omega (arith, operand a f.1, width_is a w f.4))

  -- the condition of a choice
  one_bit : (ls : List Lit) → length ls ≡ 1 → number s ls ≡ bit (holds s (low_of ls))
  one_bit [] e = absurd (omega arith)
  one_bit (l ∷ []) e = omega arith
  one_bit (l ∷ m ∷ ls) e = absurd (omega arith)

  pub node_denotes : (n u : ℕ) (node : Node) → FitsNode (map length t) node → Agree s (free_vars n node) (u ∷ []) → Runs s n (node_made n t node).gates → denoted s (node_made n t node).lits ≡ node_value u (map (denoted s) t) node
  node_denotes n u (Free name w side cycle) f agree r =
      let read = agree.0 ∙ ap (λ k. u % 2 ^ k) (length-vars n w) in
      same_word _ _ _ _ (length-row_lits n (replicate w Gates.Free) ∙ length-replicate w Gates.Free) (number-free s n w ∙ read)
  node_denotes n u (Const w) f agree r =
      same_word _ _ _ _ (length-const_lits w.width w.value) (number-const_lits s w.width w.value h ∙ mod-eq_of_lt f.fits)
  node_denotes n u (Two op w a b) f agree r =
      let fit = subst (λ k. FitsOp op w (length (lits_at t a)) k) (width_at-map t b) (subst (λ k. FitsOp op w k (slice_index (map length t) b)) (width_at-map t a) f.2) in
      op_denotes s h n op w (lits_at t a) (lits_at t b) (operand a f.0) fit r ∙ sym (ap (λ k. op_value op k (word_at (map (denoted s) t) b)) (word_at-map s t a) ∙ ap (λ k. op_value op (denoted s (lits_at t a)) k) (word_at-map s t b))
  node_denotes n u (Not w a) f agree r =
      let xs = lits_at t a in
      same_word _ _ _ _ (length-negated xs) (omega (arith, number-negated s xs)) ∙ ap not_of (sym (word_at-map s t a))
  node_denotes n u (Slice w a lo) f agree r =
      let xs = lits_at t a in
      let fits : lo + w ≤ length xs = omega (arith, f.2, width_at-map t a) in
      let long : w ≤ length (drop lo xs) = omega (arith, length-drop lo xs) in
      same_word _ _ _ _ (length-take-le w (drop lo xs) long) (number-slice s lo w xs fits) ∙ ap (λ k. slice_of k lo w) (sym (word_at-map s t a))
  node_denotes n u (Zext w a) f agree r =
      let xs = lits_at t a in
      same_word _ _ _ _ (length-node_made n (Zext w a) f).0 (number-zext s (w - length xs) xs h) ∙ ap (λ k. zext_of k w) (sym (word_at-map s t a))
  node_denotes n u (Sext w a) f agree r =
      let xs = lits_at t a in
      let all : length xs + (w - length xs) ≡ w = omega (arith, f.1, width_at-map t a) in
      same_word _ _ _ _ (length-node_made n (Sext w a) f).0 (number-sext s (w - length xs) xs (operand a f.0) ∙ ap (λ k. number s xs + number s xs / 2 ^ (length xs - 1) * (2 ^ k - 2 ^ length xs)) all) ∙ ap (λ k. sext_of k w) (sym (word_at-map s t a))
  node_denotes n u (Mux w c a b) f agree r =
      let same = width_is a w f.4 ∙ sym (width_is b w f.5) in
      let cs = lits_at t c in
      let picks = mux_picks s n (low_of cs) (lits_at t a) (lits_at t b) same r in
      let long = length-row_lits n (zip_gates (Gates.Mux (low_of cs)) (lits_at t a) (lits_at t b)) ∙ length-zip_gates (Gates.Mux (low_of cs)) (lits_at t a) (lits_at t b) same in
      let pick = by_bit (holds s (low_of cs)) (lits_at t a) (lits_at t b) _ same long picks in
      pick ∙ ap (λ k. if k then denoted s (lits_at t a) else denoted s (lits_at t b)) (sym (tested (holds s (low_of cs)) (number s cs) (one_bit cs (width_is c 1 f.3)))) ∙ sym (ap (λ k. if k.value == 1 then word_at (map (denoted s) t) a else word_at (map (denoted s) t) b) (word_at-map s t c) ∙ ap (λ k. if number s cs == 1 then k else word_at (map (denoted s) t) b) (word_at-map s t a) ∙ ap (λ k. if number s cs == 1 then denoted s (lits_at t a) else k) (word_at-map s t b))
    where
      by_bit : (v : Bool) (xs ys zs : List Lit) → length xs ≡ length ys → length zs ≡ length xs → number s zs ≡ (if v then number s xs else number s ys) → denoted s zs ≡ (if v then denoted s xs else denoted s ys)
      by_bit true xs ys zs e l p = same_word _ _ _ _ l p
      by_bit false xs ys zs e l p = same_word _ _ _ _ (l ∙ e) p

      tested : (v : Bool) (m : ℕ) → m ≡ bit v → (m == 1) ≡ v
      tested true m e = ap (λ k. k == 1) e
      tested false m e = ap (λ k. k == 1) e
