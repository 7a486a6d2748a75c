-- Copies in a dag that grows, and for leaves that get other nodes.
use Rattle.std.proofs.Common.{◌≡◌, ℕ, zero, suc, ◌<◌, List, [], ◌∷◌, Option, Some, refl, sym, ap, ◌∙◌, subst, arith, inl, inr, ⊎_elim, ◌⊎◌, length, Vec, Global}
use Rattle.std.proofs.lemmas.Bool.{cases_eq}
use Rattle.vlog_tree.specs.declared.valuation.Entry.{Entry}
use Rattle.vlog_tree.specs.Valuation.{place_at}
use Rattle.vlog_tree_runs.specs.Places.{Among}
use Rattle.word_dag.specs.declared.node.Node.{Node}
use Rattle.word_dag.specs.declared.node.Node.TheVariants.{Free}
use Rattle.word_dag.specs.Adding.{IsAt, Keeps}
use Rattle.word_dag.specs.Nodes.{width_of, word_at}
use Rattle.word_dag.specs.Walks.{Each, operands}
use Rattle.word_dag.proofs.NodeValues.{Each-both, Each-map}
use Rattle.elab_step_design.specs.Designs.{free}
use Rattle.elab_step_expr.specs.declared.leaves.Leaf.{Leaf}
use Rattle.elab_step_expr.specs.Leaves.{declared, entry_of, AreReady}
use Rattle.elab_step_expr.specs.Nodes.{number_at, words}
use Rattle.elab_step_expr.proofs.Kept.{node_kept, number_kept}
use Rattle.elab_step_blocks.specs.Saving.{node_at}
use Rattle.elab_step_blocks.specs.Targets.{name_at, width_at}
use Rattle.elab_step_blocks.proofs.Joins.{long_same}
use Rattle.elab_step_blocks.proofs.Saving.{ready_index}
use Rattle.elab_step_copies.specs.declared.copier.Copier.{Copier}
use Rattle.elab_step_copies.specs.Copies.{AreCopies, AreMoved, HasCopy, IsMade, IsOfLeaf, IsOver, IsRead, IsSound, IsWordOf, copy_at, list_at, made_at}
use Rattle.elab_step_copies.proofs.Making.{copy_below, copy_same, has_copy, operands_made}

-- ---- leaves of the same names

pub name_same : (ls ms : List Leaf) (i : ℕ) → declared ms ≡ declared ls → name_at ms i ≡ name_at ls i
name_same [] [] i e = refl
name_same [] (m ∷ ms) i e = cc
name_same (l ∷ ls) [] i e = cc
name_same (l ∷ ls) (m ∷ ms) zero e = let k : entry_of m 0 ≡ entry_of l 0 = cc in ap (λ (z : Entry). z.name) k
name_same (l ∷ ls) (m ∷ ms) (suc i) e = let t : declared ms ≡ declared ls = cc in name_same ls ms i t

pub width_same : (ls ms : List Leaf) (i : ℕ) → declared ms ≡ declared ls → width_at ms i ≡ width_at ls i
width_same [] [] i e = refl
width_same [] (m ∷ ms) i e = cc
width_same (l ∷ ls) [] i e = cc
width_same (l ∷ ls) (m ∷ ms) zero e = let k : entry_of m 0 ≡ entry_of l 0 = cc in ap (λ (z : Entry). z.width) k
width_same (l ∷ ls) (m ∷ ms) (suc i) e = let t : declared ms ≡ declared ls = cc in width_same ls ms i t

word_moved : (ls ms : List Leaf) (z : Node) (j : ℕ) → declared ms ≡ declared ls → IsWordOf ls z j → IsWordOf ms z j
word_moved ls ms z j same h =
    let long = long_same ls ms same in
    let lt = h.0 in
    (omega (arith, lt, long), h.1 ∙ (λ r. free (sym (name_same ls ms j same) r) (sym (width_same ls ms j same) r)))

of_leaf_moved : (ls ms : List Leaf) (z : Node) → declared ms ≡ declared ls → IsOfLeaf ls z → IsOfLeaf ms z
of_leaf_moved ls ms (Free x w side t) same h = (h.0, ap (λ (v : List Entry). place_at v x 0) same ∙ h.1, word_moved ls ms (Free x w side t) h.0 same h.2)
of_leaf_moved ls ms z same h = h

-- ---- one copy

pub over_moved : (old new : List (Option ℕ)) (a b : List Node) (z : Node) (i : ℕ) → Keeps a b → Each (λ x. (copy_at old x < length a) × (copy_at new x ≡ copy_at old x)) (operands z) → IsOver old a z i → IsOver new b z i
over_moved old new a b z i keeps there h = record {
  node = node_kept a b i (width_of z) keeps h.node;
  word = λ e vs same.
      let P : ℕ → Type 0 = λ x. (copy_at old x < length a) × (copy_at new x ≡ copy_at old x) in
      let Q : ℕ → Type 0 = λ x. word_at (words e b) (copy_at new x) ≡ word_at vs x in
      let each = Each-map (λ x. P x × Q x) (λ x. word_at (words e a) (copy_at old x) ≡ word_at vs x) (operands z)
      (λ x p. sym (keeps.values e (copy_at old x) p.0.0) ∙ (ap (word_at (words e b)) (sym p.0.1) ∙ p.1)) (Each-both P Q (operands z) there same) in
      keeps.values e i h.node.0 ∙ h.word e vs each;
}

among_or : (xs : List ℕ) (j : ℕ) → Among xs j ⊎ (Among xs j → ⊥)
among_or [] j = inr (λ m. m)
among_or (x ∷ xs) j = elim (cases_eq x j) [
  | inl same ↦ inl (inl same)
  | inr other ↦ elim (among_or xs j) [ inl m ↦ inl (inr m) | inr n ↦ inr (λ m. ⊎_elim (λ q. other q) (λ r. n r) m) ]
]

read_moved : (places : List ℕ) (old new : List (Vec ℕ Global)) (ls ms : List Leaf) (a b : List Node) (n : ℕ) (z : Node) (i : ℕ) → AreMoved places ls a ms b → ((j : ℕ) → Among (list_at old j) n → Among (list_at new j) n)
    → ((j : ℕ) → Among places j → Among (list_at old j) n → i ≡ node_at ms j) → IsRead old ls a n z i → IsRead new ms b n z i
read_moved places old new ls ms a b n z i moved noted fresh h =
    let j = h.place in
    record {
      place = j;
      word = word_moved ls ms z j moved.same h.word;
      there = noted j h.there;
      node = node_kept a b i (width_of z) moved.keeps h.node;
      number = λ e. elim (among_or places j) [
        | inl m ↦ ap (number_at e b) (fresh j m h.there)
        | inr n ↦ number_kept e a b i (width_of z) moved.keeps h.node ∙ (h.number e ∙ sym (moved.numbers e j h.word.0 n))
      ];
    }

pub made_moved : (places : List ℕ) (old new : List (Option ℕ)) (noted now : List (Vec ℕ Global)) (ls ms : List Leaf) (a b : List Node) (n : ℕ) (z : Node) (i : ℕ) → AreMoved places ls a ms b → ((j : ℕ) → Among (list_at noted j) n → Among (list_at now j) n)
    → ((j : ℕ) → Among places j → Among (list_at noted j) n → i ≡ node_at ms j) → Each (λ x. (copy_at old x < length a) × (copy_at new x ≡ copy_at old x)) (operands z) → IsMade old noted ls a n z i → IsMade new now ms b n z i
made_moved places old new noted now ls ms a b n z i moved kept fresh there h = record {
  read = λ f. read_moved places noted now ls ms a b n z i moved kept fresh (h.read f);
  over = λ f. over_moved old new a b z i moved.keeps there (h.over f);
}

-- ---- all copies that are left

pub copies_moved : (places : List ℕ) (k l : Copier) (ls ms : List Leaf) (a b : List Node) → AreCopies k ls a → AreMoved places ls a ms b → l.source ≡ k.source → IsSound l (length ms)
    → ((n i : ℕ) → made_at l.copies.items n ≡ Some i → made_at k.copies.items n ≡ Some i)
    → ((j n i : ℕ) → Among (list_at k.words.items j) n → made_at l.copies.items n ≡ Some i → Among (list_at l.words.items j) n)
    → ((j n i : ℕ) → Among places j → Among (list_at k.words.items j) n → made_at l.copies.items n ≡ Some i → i ≡ node_at ms j) → AreCopies l ms b
copies_moved places k l ls ms a b h moved source sound left noted fresh =
    let here : (n : ℕ) (z : Node) → IsAt l.source n z → IsAt k.source n z = λ n z at. subst (λ (s : List Node). IsAt s n z) source at in
    record {
      sound = sound;
      words = λ n z at. of_leaf_moved ls ms z moved.same (h.words n z (here n z at));
      made = λ n z i at is.
          let old = k.copies.items in
          let new = l.copies.items in
          let was = left n i is in
          let has = has_copy new n i is in
          let there = Each-map (λ x. HasCopy old x × HasCopy new x) (λ x. (copy_at old x < length a) × (copy_at new x ≡ copy_at old x)) (operands z) (λ x p. (copy_below k ls a h x p.0, copy_same old new x (left x) p.1))
          (Each-both (HasCopy old) (HasCopy new) (operands z) (operands_made k.source old k.readers.items n z h.sound.network (here n z at) (has_copy old n i was)) (operands_made l.source new l.readers.items n z sound.network at has)) in
          made_moved places old new k.words.items l.words.items ls ms a b n z i moved (λ j m. noted j n i m is) (λ j p m. fresh j n i p m is) there (h.made n z i (here n z at) was);
    }

pub grown : (ls : List Leaf) (a b : List Node) → Keeps a b → AreReady ls a → AreMoved [] ls a ls b
grown ls a b keeps ready = record {
  keeps = keeps;
  same = refl;
  numbers = λ e j lt miss. number_kept e a b (node_at ls j) (width_at ls j) keeps (ready_index ls a j ready lt);
}
