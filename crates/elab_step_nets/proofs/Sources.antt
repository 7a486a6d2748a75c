-- Blocks that are run over a source, one after another, and what is taken of them.
use Rattle.std.proofs.Common.{arith, ◌≡◌, ◌≢◌, ℕ, zero, suc, ◌+◌, ◌<◌, ◌&&◌, true, false, List, [], ◌∷◌, ◌++◌, None, Some, inl, inr, refl, sym, ap, ◌∙◌, subst, length, get_or, take, set, replicate, nat_eq}
use Rattle.std.specs.List.{position_from}
use Rattle.std.specs.Str.{bytes_eq}
use Rattle.std.proofs.lemmas.Bool.{false_from_ne_true}
use Rattle.std.proofs.lemmas.Slice.Eq.{bytes_eq-Decides}
use Rattle.vlog_tree.specs.declared.stmt.Stmt.{Stmt}
use Rattle.vlog_tree.specs.Valuation.{is_named, place_at}
use Rattle.vlog_tree_runs.specs.declared.flat.Always.{Always}
use Rattle.vlog_tree_runs.specs.declared.flat.Signal.{Signal}
use Rattle.vlog_tree_runs.specs.Places.{Name, Cycle, Among}
use Rattle.vlog_tree_runs.specs.Blocks.{run}
use Rattle.word_dag.specs.declared.node.Node.{Node}
use Rattle.word_dag.specs.declared.node.Node.TheVariants.{Free, Const, Two, Not, Slice, Zext, Sext, Mux}
use Rattle.word_dag.specs.Adding.{Keeps}
use Rattle.word_dag.specs.Given.{is_free}
use Rattle.word_dag.specs.Nodes.{Naming}
use Rattle.word_dag.proofs.Valued.{grows_kept}
use Rattle.elab_step_design.specs.Designs.{free}
use Rattle.elab_step_expr.specs.declared.leaves.Leaf.{Leaf}
use Rattle.elab_step_expr.specs.Leaves.{declared, AreReady}
use Rattle.elab_step_expr.specs.Nodes.{IsNode}
use Rattle.elab_step_expr.proofs.Kept.{node_kept, number_kept, ready_kept}
use Rattle.elab_step_blocks.specs.Runs.{AreSet}
use Rattle.elab_step_blocks.specs.Saving.{node_at}
use Rattle.elab_step_blocks.specs.Sparing.{Spares}
use Rattle.elab_step_blocks.specs.Standing.{flat, AreLeavesOf, Lacks, AreApart, AreShown}
use Rattle.elab_step_blocks.specs.Targets.{name_at, width_at}
use Rattle.elab_step_blocks.proofs.Joins.{take_next, leaves_same, long_same, shown_kept}
use Rattle.elab_step_blocks.proofs.Saving.{shown_at}
use Rattle.elab_step_copies.specs.Copies.{IsOfLeaf, AreOfLeaves}
use Rattle.elab_step_copies.proofs.Moving.{name_same, width_same}
use Rattle.elab_step_nets.specs.declared.outcomes.Outcome.{Outcome}
use Rattle.elab_step_nets.specs.Boards.{IsFreeOf}
use Rattle.elab_step_nets.specs.Outcomes.{IsSource, IsRoot, IsOutcome, AreOutcomes, AreRoots}
use Rattle.elab_step_nets.proofs.Boards.{begun_grown}
use Rattle.elab_step_nets.proofs.Leaving.{node_there}
use Rattle.elab_step_nets.proofs.Solutions.{shown_before}

-- ---- a source that grows

source_kept : (gs : List Signal) (ls : List Leaf) (a b : List Node) → Keeps a b → IsSource gs ls a → IsSource gs ls b
source_kept gs ls a b k h = record {
  board = record { leaves = h.board.leaves; ready = ready_kept ls a b k h.board.ready; apart = h.board.apart };
  begun = begun_grown a b gs (replicate (length gs) false) ls (grows_kept a b k) h.board.ready h.begun;
  frees = λ n i free at. h.frees n i free (k.frees n i free at);
}

root_kept : (ls : List Leaf) (a b : List Node) (body : Stmt) (p i : ℕ) → Keeps a b → AreReady ls a → IsRoot ls a body p i → IsRoot ls b body p i
root_kept ls a b body p i k ready h = record {
  node = node_kept a b i (width_at ls p) k h.node;
  number = λ gs e c are s. h.number gs e c are (shown_before e ls a b c k ready s) ∙ sym (number_kept e a b i (width_at ls p) k h.node);
}

outcome_kept : (ls : List Leaf) (a b : List Node) (body : Stmt) (o : Outcome) → Keeps a b → AreReady ls a → IsOutcome ls a body o → IsOutcome ls b body o
outcome_kept ls a b body o k ready h = record {
  found = h.found;
  within = h.within;
  roots = λ j lt. root_kept ls a b body (get_or o.places.items j 0) (get_or o.nodes.items j 0) k ready (h.roots j lt);
  others = h.others;
}

outcomes_kept : (ls : List Leaf) (a b : List Node) (ks : List Always) (os : List Outcome) → Keeps a b → AreReady ls a → AreOutcomes ls a ks os → AreOutcomes ls b ks os
outcomes_kept ls a b [] [] k ready h = tt
outcomes_kept ls a b [] (o ∷ os) k ready h = absurd h
outcomes_kept ls a b (z ∷ ks) [] k ready h = absurd h
outcomes_kept ls a b (z ∷ ks) (o ∷ os) k ready h = (λ f. outcome_kept ls a b z.body o k ready (h.0 f), outcomes_kept ls a b ks os k ready h.1)

-- ---- over leaves of the same names, which show what the first ones show

root_moved : (ls ms : List Leaf) (ns : List Node) (body : Stmt) (p i : ℕ) → declared ms ≡ declared ls → ((e : Naming) (c : Cycle) → AreShown e ns ls c → AreShown e ns ms c) → IsRoot ms ns body p i → IsRoot ls ns body p i
root_moved ls ms ns body p i same shown h = record {
  node = subst (λ w. IsNode ns i w) (width_same ls ms p same) h.node;
  number = λ gs e c are s. ap (run true (flat gs) body c c) (sym (name_same ls ms p same)) ∙ h.number gs e c (leaves_same gs ls ms same are) (shown e c s);
}

spares_moved : (ls ms : List Leaf) (body : Stmt) (i : ℕ) → declared ms ≡ declared ls → Spares ms body (name_at ms i) → Spares ls body (name_at ls i)
spares_moved ls ms body i same h gs at_once c d are = subst (λ x. run at_once (flat gs) body c d x ≡ d x) (name_same ls ms i same) (h gs at_once c d (leaves_same gs ls ms same are))

outcome_moved : (ls ms : List Leaf) (ns : List Node) (body : Stmt) (o : Outcome) → declared ms ≡ declared ls → ((e : Naming) (c : Cycle) → AreShown e ns ls c → AreShown e ns ms c) → IsOutcome ms ns body o → IsOutcome ls ns body o
outcome_moved ls ms ns body o same shown h =
    let long = long_same ls ms same in
    record {
      found = h.found;
      within = λ k lt. let w = h.within k lt in omega (arith, w, long);
      roots = λ k lt. root_moved ls ms ns body (get_or o.places.items k 0) (get_or o.nodes.items k 0) same shown (h.roots k lt);
      others = λ i lt out. spares_moved ls ms body i same (h.others i (omega (arith, lt, long)) out);
    }

outcomes_push : (ls : List Leaf) (ns : List Node) (ks : List Always) (os : List Outcome) (k : Always) (o : Outcome) → AreOutcomes ls ns ks os → (k.clocked ≡ false → IsOutcome ls ns k.body o) → AreOutcomes ls ns (ks ++ k ∷ []) (os ++ o ∷ [])
outcomes_push ls ns [] [] k o h g = (g, tt)
outcomes_push ls ns [] (p ∷ os) k o h g = absurd h
outcomes_push ls ns (j ∷ ks) [] k o h g = absurd h
outcomes_push ls ns (j ∷ ks) (p ∷ os) k o h g = (h.0, outcomes_push ls ns ks os k o h.1 g)

-- ---- block after block

-- blocks have been run over a source, and the leaves show again what the first ones show
pub record Passing (gs : List Signal) (first work : List Leaf) (ns : List Node) (ks : List Always) (os : List Outcome) : Type 0 where
  pub source : IsSource gs first ns
  pub same : declared work ≡ declared first
  pub set : AreSet None work ns
  pub shows : (e : Naming) (c : Cycle) → AreShown e ns first c → AreShown e ns work c
  pub outcomes : AreOutcomes first ns ks os

module _ (gs : List Signal) (first work : List Leaf) (ns : List Node) (ks : List Always) (os : List Outcome) (k : Always) (o : Outcome) (h : Passing gs first work ns ks os) where
  pub work_leaves : AreLeavesOf gs work
  work_leaves = leaves_same gs first work h.same h.source.board.leaves

  -- a clocked block is passed over
  pub passing_past : k.clocked ≡ true → Passing gs first work ns (ks ++ k ∷ []) (os ++ o ∷ [])
  passing_past t = record { source = h.source; same = h.same; set = h.set; shows = h.shows; outcomes = outcomes_push first ns ks os k o h.outcomes (λ f. let no : true ≡ false = sym t ∙ f in cc) }

  -- and any other one is run
  pub passing_run : (next : List Leaf) (ms : List Node) → Keeps ns ms → declared next ≡ declared work → AreSet None next ms → ((hs : List Signal) (e : Naming) (c : Cycle) → AreLeavesOf hs work → AreShown e ns work c → AreShown e ms next c)
      → IsOutcome work ms k.body o → Passing gs first next ms (ks ++ k ∷ []) (os ++ o ∷ [])
  passing_run next ms keeps same set back is =
      let before : (e : Naming) (c : Cycle) → AreShown e ms first c → AreShown e ns work c = λ e c s. h.shows e c (shown_before e first ns ms c keeps h.source.board.ready s) in
      let here : IsOutcome first ms k.body o = outcome_moved first work ms k.body o h.same (λ e c s. shown_kept e work ns ms c keeps h.set.ready (before e c s)) is in
      record {
        source = source_kept gs first ns ms keeps h.source;
        same = same ∙ h.same;
        set = set;
        shows = λ e c s. back gs e c work_leaves (before e c s);
        outcomes = outcomes_push first ms ks os k o (outcomes_kept first ns ms ks os keeps h.source.board.ready h.outcomes) (λ f. here);
      }

pub passing_next : (gs : List Signal) (first work : List Leaf) (ns : List Node) (all : List Always) (i : ℕ) (k u : Always) (os new : List Outcome) (o : Outcome) → i < length all → k ≡ get_or all i u → new ≡ os ++ o ∷ []
    → Passing gs first work ns (take i all ++ k ∷ []) (os ++ o ∷ []) → Passing gs first work ns (take (i + 1) all) new
passing_next gs first work ns all i k u os new o lt e is h =
    subst (λ (z : List Outcome). Passing gs first work ns (take (i + 1) all) z) (sym is) (subst (λ (z : List Always). Passing gs first work ns z (os ++ o ∷ [])) (sym (take_next all i k u lt e)) h)

-- ---- nodes that a block leaves at places

roots_push : (ls : List Leaf) (ns : List Node) (body : Stmt) (ps is : List ℕ) (p i : ℕ) → AreRoots ls ns body ps is → IsRoot ls ns body p i → AreRoots ls ns body (ps ++ p ∷ []) (is ++ i ∷ [])
roots_push ls ns body [] [] p i h r = (r, tt)
roots_push ls ns body [] (j ∷ is) p i h r = absurd h
roots_push ls ns body (q ∷ ps) [] p i h r = absurd h
roots_push ls ns body (q ∷ ps) (j ∷ is) p i h r = (h.0, roots_push ls ns body ps is p i h.1 r)

pub roots_next : (ls : List Leaf) (ns : List Node) (body : Stmt) (places is new : List ℕ) (k n : ℕ) → k < length places → AreRoots ls ns body (take k places) is → IsRoot ls ns body (get_or places k 0) n → new ≡ is ++ n ∷ [] → AreRoots ls ns body (take (k + 1) places) new
roots_next ls ns body places is new k n lt h r e =
    let p = get_or places k 0 in
    subst (λ (z : List ℕ). AreRoots ls ns body (take (k + 1) places) z) (sym e)
    (subst (λ (z : List ℕ). AreRoots ls ns body z (is ++ n ∷ [])) (sym (take_next places k p 0 lt refl)) (roots_push ls ns body (take k places) is p n h r))

-- a place that the block may assign
pub root_found : (ls : List Leaf) (ns : List Node) (body : Stmt) (o : Outcome) (p i : ℕ) → IsOutcome ls ns body o → (k : ℕ) × (k < length o.places.items) × (get_or o.places.items k 0 ≡ p) × (i ≡ get_or o.nodes.items k 0) → IsRoot ls ns body p i
root_found ls ns body o p i h r =
    subst (λ q. IsRoot ls ns body q i) r.2 (subst (λ n. IsRoot ls ns body (get_or o.places.items r.0 0) n) (sym r.3) (h.roots r.0 r.1))

-- and one that it leaves as it is
pub root_spared : (ls : List Leaf) (ns : List Node) (body : Stmt) (o : Outcome) (p : ℕ) → AreReady ls ns → IsOutcome ls ns body o → p < length ls → (Among o.places.items p → ⊥) → IsRoot ls ns body p (node_at ls p)
root_spared ls ns body o p ready h lt out = record {
  node = node_there ls ns p ready lt;
  number = λ gs e c are s. h.others p lt out gs true c c are ∙ shown_at e ns ls c p lt s;
}

-- ---- free words and leaves

lacks_at : (x : Name) (ls : List Leaf) (i : ℕ) → i < length ls → Lacks x ls → x ≢ name_at ls i
lacks_at x [] i lt n = absurd (omega arith)
lacks_at x (l ∷ ls) zero lt n = n.0
lacks_at x (l ∷ ls) (suc i) lt n = lacks_at x ls i (omega arith) n.1

-- a leaf is the first one of its name
placed_from : (gs : List Signal) (ls : List Leaf) (j i : ℕ) → AreLeavesOf gs ls → AreApart ls → j < length ls → position_from (is_named (name_at ls j) 0) i (declared ls) ≡ Some (i + j)
placed_from [] [] j i are apart lt = absurd (omega arith)
placed_from [] (l ∷ ls) j i are apart lt = absurd are
placed_from (g ∷ gs) [] j i are apart lt = absurd are
placed_from (g ∷ gs) (l ∷ ls) zero i are apart lt =
    let t : (nat_eq l.offset 0 && bytes_eq l.name l.name) ≡ true = ap (λ n. nat_eq n 0 && bytes_eq l.name l.name) are.0.offset ∙ (bytes_eq-Decides l.name l.name).1 refl in
    let z : i ≡ i + 0 = omega arith in
    rw t (ap Some z)
placed_from (g ∷ gs) (l ∷ ls) (suc j) i are apart lt =
    let x = name_at ls j in
    let in' : j < length ls = omega arith in
    let f : (nat_eq l.offset 0 && bytes_eq l.name x) ≡ false = ap (λ n. nat_eq n 0 && bytes_eq l.name x) are.0.offset ∙ false_from_ne_true (bytes_eq l.name x) (λ e. lacks_at l.name ls j in' apart.0 ((bytes_eq-Decides l.name x).0 e)) in
    let z : i + 1 + j ≡ i + suc j = omega arith in
    rw f (placed_from gs ls j (i + 1) are.1 apart.1 in' ∙ ap Some z)

pub leaf_place : (gs : List Signal) (ls : List Leaf) (j : ℕ) → AreLeavesOf gs ls → AreApart ls → j < length ls → place_at (declared ls) (name_at ls j) 0 ≡ Some j
leaf_place gs ls j are apart lt = let z : 0 + j ≡ j = omega arith in placed_from gs ls j 0 are apart lt ∙ ap Some z

-- a free word of a signal is that of its leaf
free_leaf : (gs : List Signal) (ls : List Leaf) (n : Node) → AreLeavesOf gs ls → IsFreeOf gs (replicate (length gs) false) n → (j : ℕ) × (j < length ls) × (n ≡ free (name_at ls j) (width_at ls j))
free_leaf [] ls n are h = absurd h
free_leaf (g ∷ gs) [] n are h = absurd are
free_leaf (g ∷ gs) (l ∷ ls) n are h = elim h [
  | inl e ↦ (let word : free g.name g.width ≡ free l.name l.width = λ r. free (sym are.0.name r) (sym are.0.width r) in (0, omega arith, e ∙ word))
  | inr k ↦ (let q = free_leaf gs ls n are.1 k in (suc q.0, omega (arith, q.1), q.2))
]

of_leaf : (gs : List Signal) (ls : List Leaf) (k : Node) → AreLeavesOf gs ls → AreApart ls → (is_free k ≡ true → IsFreeOf gs (replicate (length gs) false) k) → IsOfLeaf ls k
of_leaf gs ls (Free x w side t) are apart h =
    let q = free_leaf gs ls (Free x w side t) are (h refl) in
    let word : Free x w side t ≡ free (name_at ls q.0) (width_at ls q.0) = q.2 in
    let name : x ≡ name_at ls q.0 = cc in
    (q.0, ap (λ z. place_at (declared ls) z 0) name ∙ leaf_place gs ls q.0 are apart q.1, (q.1, word))
of_leaf gs ls (Const w) are apart h = tt
of_leaf gs ls (Two op w a b) are apart h = tt
of_leaf gs ls (Not w a) are apart h = tt
of_leaf gs ls (Slice w a lo) are apart h = tt
of_leaf gs ls (Zext w a) are apart h = tt
of_leaf gs ls (Sext w a) are apart h = tt
of_leaf gs ls (Mux w c a b) are apart h = tt

-- the free words of a source are those of the leaves of any board of its signals
pub source_leaves : (gs : List Signal) (first ls : List Leaf) (source : List Node) → IsSource gs first source → AreLeavesOf gs ls → AreApart ls → AreOfLeaves source ls
source_leaves gs first ls source h are apart n k at = of_leaf gs ls k are apart (λ free. h.frees k n free at)
