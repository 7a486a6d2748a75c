-- A design's nodes copied one after another.
use Rattle.std.proofs.Common.{◌≡◌, ℕ, ◌+◌, ◌<◌, true, false, List, [], ◌∷◌, ◌++◌, get_or, length, map, take, refl, sym, ap, ◌∙◌, subst, arith, inl, inr, length-append}
use Rattle.std.specs.Prelude.{slice_index}
use Rattle.std.proofs.Math.ListN.{get_or-append}
use Rattle.std.proofs.lemmas.Bool.{cases_Bool, cases_lt}
use Rattle.std.proofs.lemmas.List.{get_or_push}
use Rattle.vlog_tree_runs.specs.Places.{Cycle}
use Rattle.word_core.specs.Words.{word}
use Rattle.word_dag.specs.declared.node.Node.{Node}
use Rattle.word_dag.specs.declared.node.Node.TheVariants.{Free, Const, Two, Not, Slice, Zext, Sext, Mux}
use Rattle.word_dag.specs.Adding.{Adds, IsAt, Keeps}
use Rattle.word_dag.specs.Given.{is_free}
use Rattle.word_dag.specs.Nodes.{FitsNode, Naming, dag_values, named, node_value, width_at, width_of, word_at}
use Rattle.word_dag.specs.Walks.{Each, operands, renumbered}
use Rattle.word_dag.proofs.NodeValues.{Each-map, fits_at, length-widths, operands_at, renumbered_fits, renumbered_value, width_at-map, width_at-node, width_at-take, width_renumbered}
use Rattle.word_dag.proofs.Valued.{value_there}
use Rattle.elab_step_expr.specs.Nodes.{IsNode}
use Rattle.elab_step_expr.proofs.Kept.{keeps_same, keeps_then}
use Rattle.elab_step_design.specs.Designs.{IsDesign, Parts, naming_of, word_in}
use Rattle.unroll_laws.proofs.Sources.{free_source, source_word}
use Rattle.unroll.specs.Copies.{AreLeaves, FitLeaves}

pub node_later : (a b : List Node) (i w : ℕ) → Keeps a b → IsNode a i w → IsNode b i w
node_later a b i w ab is = (omega (arith, ab.longer, is.0), ab.widths i is.0 ∙ is.1)

-- a node of a list that is the design's
pub nodes_at : (ns ms ks : List Node) (j : ℕ) (n : Node) → ks ≡ ms → ms ≡ ns → j < length ks → n ≡ get_or ks j n → IsAt ns j n
nodes_at ns ms ks j n one two lt is = let same = one ∙ two in subst (λ (zs : List Node). IsAt zs j n) same (lt, is)

-- the copies so far
pub record CopyLoop (d : Parts) (start nodes : List Node) (leaves copies : List ℕ) (j : ℕ) : Type 0 where
  pub keeps : Keeps start nodes
  pub count : length copies ≡ j
  pub fit : (i : ℕ) → i < j → IsNode nodes (slice_index copies i) (width_at d.nodes i)
  pub means : (f : Naming → Cycle) → AreLeaves d start leaves f → (e : Naming) (i : ℕ) → i < j → word_at (dag_values e [] nodes) (slice_index copies i) ≡ word_in d (f e) i

module _ (d : Parts) (h : IsDesign d) (start a : List Node) (leaves old : List ℕ) (j : ℕ) (loop : CopyLoop d start a leaves old j) where
  -- one more copy
  pub copy_push : (b : List Node) (new : List ℕ) (i : ℕ) → new ≡ old ++ i ∷ [] → Keeps a b → IsNode b i (width_at d.nodes j) →
      ((f : Naming → Cycle) → AreLeaves d start leaves f → (e : Naming) → word_at (dag_values e [] b) i ≡ word_in d (f e) j) → CopyLoop d start b leaves new (j + 1)
  copy_push b new i made ab node word = record {
    keeps = keeps_then start a b loop.keeps ab;
    count = ap (λ (ns : List ℕ). length ns) made ∙ (length-append old (i ∷ []) ∙ ap (λ n. n + 1) loop.count);
    fit = λ k lt. rw made (elim (cases_lt k j) [
      | inl less ↦ rw (get_or-append old (i ∷ []) 0 k (omega (arith, less, loop.count))) (node_later a b _ _ ab (loop.fit k less))
      | inr more ↦ let is : k ≡ j = omega (arith, lt, more) in rw (is, get_or_push old i 0 j loop.count) node
    ]);
    means = λ f leaf e k lt. rw made (elim (cases_lt k j) [
      | inl less ↦ rw (get_or-append old (i ∷ []) 0 k (omega (arith, less, loop.count))) (ab.values e _ (loop.fit k less).0 ∙ loop.means f leaf e k less)
      | inr more ↦ let is : k ≡ j = omega (arith, lt, more) in rw (is, get_or_push old i 0 j loop.count) (word f leaf e)
    ]);
  }

  -- a node's operands have copies
  pub operands_copied : (n : Node) → IsAt d.nodes j n → Each (λ i. i < length old) (operands n)
  operands_copied n at = Each-map (λ i. i < j) (λ i. i < length old) (operands n) (λ i lt. omega (arith, lt, loop.count)) (operands_at d.nodes j n h.fit at.0 at.1)

  -- and the node with their numbers fits
  pub copy_fits : (n : Node) → IsAt d.nodes j n → FitsNode (map width_of a) (renumbered (slice_index old) n)
  copy_fits n at =
      renumbered_fits (map width_of (take j d.nodes)) (map width_of a) (slice_index old) n (Each-map (λ i. i < j) _ (operands n) (λ i lt. (omega (arith, (loop.fit i lt).0, length-widths a), (loop.fit i lt).1 ∙ (sym (width_at-take d.nodes j i lt) ∙ sym (width_at-map (take j d.nodes) i)))) (operands_at d.nodes j n h.fit at.0 at.1)) (fits_at [] d.nodes j n h.fit at.0 at.1)

  same_named : (f g : Naming) (n : Node) → is_free n ≡ false → named f n ≡ named g n
  same_named f g (Free x w side t) bound = absurd cc
  same_named f g (Const w) bound = refl
  same_named f g (Two op w x y) bound = refl
  same_named f g (Not w x) bound = refl
  same_named f g (Slice w x lo) bound = refl
  same_named f g (Zext w x) bound = refl
  same_named f g (Sext w x) bound = refl
  same_named f g (Mux w k x y) bound = refl

  copy_inner : (n : Node) (b : List Node) (new : List ℕ) (i : ℕ) → IsAt d.nodes j n → is_free n ≡ false → Keeps a b → Adds a b (renumbered (slice_index old) n) i → new ≡ old ++ i ∷ [] → CopyLoop d start b leaves new (j + 1)
  copy_inner n b new i at bound ab adds made =
      copy_push b new i made ab (adds.within, adds.wide ∙ (width_renumbered (slice_index old) n ∙ sym (width_at-node d.nodes j n at.0 at.1))) (λ f leaf e.
      let vs = dag_values e [] a in
      let ds = dag_values (naming_of (f e)) [] d.nodes in
      let each = Each-map (λ x. x < j) (λ x. word_at vs (slice_index old x) ≡ word_at ds x) (operands n) (λ x lt. loop.means f leaf e x lt) (operands_at d.nodes j n h.fit at.0 at.1) in
      let copied : word_at (dag_values e [] b) i ≡ node_value (named e n) ds n = adds.value e ∙ renumbered_value e vs ds (slice_index old) n each in
      copied ∙ (ap (λ u. node_value u ds n) (same_named e (naming_of (f e)) n bound) ∙ sym (value_there (naming_of (f e)) d.nodes j n h.fit at)))

  copy_leaf : (n : Node) (new : List ℕ) (i : ℕ) → FitLeaves d start leaves → IsAt d.nodes j n → is_free n ≡ true → i ≡ slice_index leaves j → new ≡ old ++ i ∷ [] → CopyLoop d start a leaves new (j + 1)
  copy_leaf (Free x w side t) new i fit at free is made =
      let s = free_source d h j x w side t at in
      let place : slice_index leaves s.0.node ≡ i = ap (slice_index leaves) s.4 ∙ sym is in
      let leaf : IsNode start i s.0.width = subst (λ k. IsNode start k s.0.width) place (fit.each s.0 s.1) in
      let wide : s.0.width ≡ width_at d.nodes j = s.3 ∙ sym (width_at-node d.nodes j (Free x w side t) at.0 at.1) in
      copy_push a new i made (keeps_same a) (subst (λ k. IsNode a i k) wide (node_later start a i s.0.width loop.keeps leaf)) (λ f leaves_are e.
      loop.keeps.values e i leaf.0 ∙ (ap (λ k. word_at (dag_values e [] start) k) (sym place) ∙ (leaves_are e s.0 s.1 ∙ (sym (source_word d h (f e) s.0 s.1) ∙ ap (word_in d (f e)) s.4))))
  copy_leaf (Const w) new i fit at free is made = absurd cc
  copy_leaf (Two op w x y) new i fit at free is made = absurd cc
  copy_leaf (Not w x) new i fit at free is made = absurd cc
  copy_leaf (Slice w x lo) new i fit at free is made = absurd cc
  copy_leaf (Zext w x) new i fit at free is made = absurd cc
  copy_leaf (Sext w x) new i fit at free is made = absurd cc
  copy_leaf (Mux w k x y) new i fit at free is made = absurd cc

  -- one more copy: of a free word its leaf, of any other node that with the copies of its operands
  pub copy_step : (n : Node) (b : List Node) (new : List ℕ) (i leaf : ℕ) → FitLeaves d start leaves → IsAt d.nodes j n → leaf ≡ slice_index leaves j → Keeps a b →
      (is_free n ≡ true → (i ≡ leaf) × (b ≡ a)) → (is_free n ≡ false → Adds a b (renumbered (slice_index old) n) i) → new ≡ old ++ i ∷ [] → CopyLoop d start b leaves new (j + 1)
  copy_step n b new i leaf fit at place ab free inner made = elim (cases_Bool (is_free n)) [
    | inl is ↦ let same = free is in subst (λ (k : List Node). CopyLoop d start k leaves new (j + 1)) (sym same.1) (copy_leaf n new i fit at is (same.0 ∙ place) made)
    | inr isnt ↦ copy_inner n b new i at isnt ab (inner isnt) made
  ]
