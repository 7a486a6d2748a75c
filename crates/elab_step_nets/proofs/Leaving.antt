-- What a block leaves, as nodes of a source.
use Rattle.std.proofs.Common.{arith, ◌≡◌, ◌≢◌, ℕ, zero, suc, ◌+◌, ◌<◌, ◌≤◌, true, false, List, [], ◌∷◌, ◌++◌, None, Ok, Err, inl, inr, refl, sym, ap, ◌∙◌, subst, map, length, get_or, take, nat_cmp}
use Rattle.std.specs.Prelude.{◌↔◌}
use Rattle.std.specs.List.Sorted.{IsStrictlyIncreasing, IsBinarySearchResult}
use Rattle.std.proofs.lemmas.List.Sorted.{searched}
use Rattle.std.proofs.lemmas.Map.Keys.{sorted_from_strictly_increasing, below_from_sorted}
use Rattle.vlog_tree.specs.declared.stmt.Stmt.{Stmt}
use Rattle.vlog_tree_runs.specs.declared.flat.Signal.{Signal}
use Rattle.vlog_tree_runs.specs.Places.{Cycle, Among}
use Rattle.vlog_tree_runs.specs.Blocks.{run}
use Rattle.word_dag.specs.declared.node.Node.{Node}
use Rattle.word_dag.specs.Adding.{Keeps}
use Rattle.word_dag.specs.Nodes.{Naming}
use Rattle.elab_step_expr.specs.declared.leaves.Leaf.{Leaf}
use Rattle.elab_step_expr.specs.Leaves.{declared, AreReady}
use Rattle.elab_step_expr.specs.Nodes.{IsNode}
use Rattle.elab_step_expr.proofs.Kept.{ready_kept}
use Rattle.elab_step_blocks.specs.declared.branches.Saved.{Saved}
use Rattle.elab_step_blocks.specs.Runs.{AreSet, Runs}
use Rattle.elab_step_blocks.specs.Saving.{node_at, places_of, put_back, AreWithin, IsSaved}
use Rattle.elab_step_blocks.specs.Sparing.{Covers}
use Rattle.elab_step_blocks.specs.Standing.{flat, AreLeavesOf, AreShown}
use Rattle.elab_step_blocks.specs.Targets.{width_at}
use Rattle.elab_step_blocks.proofs.Joins.{take_next, apart_same, long_same, shown_kept}
use Rattle.elab_step_blocks.proofs.Saving.{same_or, shown_at, back_declared, back_saved, back_after, back_ready, saved_is}
use Rattle.elab_step_copies.proofs.Forgetting.{number_among}
use Rattle.elab_step_copies.proofs.Moving.{name_same, width_same}
use Rattle.elab_step_flow.proofs.Rising.{sought, contains_among}
use Rattle.elab_step_nets.specs.declared.outcomes.Outcome.{Outcome}
use Rattle.elab_step_nets.specs.Outcomes.{IsRoot, IsOutcome}
use Rattle.elab_step_nets.proofs.Boards.{each_within, all_within}
use Rattle.elab_step_nets.proofs.Solutions.{shown_before}

-- ---- places that rise

rising_up : (xs : List ℕ) → IsStrictlyIncreasing xs → (i j : ℕ) → i ≤ j → j < length xs → get_or xs i 0 ≤ get_or xs j 0
rising_up xs rises i j le lt = elim (same_or i j) [
  | inl e ↦ (let same : get_or xs i 0 ≡ get_or xs j 0 = ap (λ k. get_or xs k 0) e in omega arith)
  | inr ne ↦ (let apart : i ≢ j = ne in let k : i < j = omega arith in let f : get_or xs i 0 < get_or xs j 0 = below_from_sorted xs i j 0 (sorted_from_strictly_increasing xs rises) k lt in omega arith)
]

-- one that is found
pub placed : (xs : List ℕ) (x i : ℕ) → IsStrictlyIncreasing xs → IsBinarySearchResult (λ y. nat_cmp y x) xs (Ok i) → (i < length xs) × (get_or xs i 0 ≡ x)
placed xs x i rises found = searched xs x (Ok i) found (rising_up xs rises)

-- and one that isn't
pub not_placed : (xs : List ℕ) (x i : ℕ) → IsStrictlyIncreasing xs → IsBinarySearchResult (λ y. nat_cmp y x) xs (Err i) → Among xs x → ⊥
not_placed xs x i rises found = sought xs x (Err i) false rises found refl

-- ---- nodes of leaves

pub node_there : (ls : List Leaf) (ns : List Node) (i : ℕ) → AreReady ls ns → i < length ls → IsNode ns (node_at ls i) (width_at ls i)
node_there [] ns i r lt = absurd (omega arith)
node_there (l ∷ ls) ns zero r lt = r.1
node_there (l ∷ ls) ns (suc i) r lt = node_there ls ns i r.2 (omega arith)

nodes_next : (ls : List Leaf) (is : List ℕ) (k i u : ℕ) → k < length is → i ≡ get_or is k u → map (node_at ls) (take (k + 1) is) ≡ map (node_at ls) (take k is) ++ node_at ls i ∷ []
nodes_next ls is k i u lt e = ap (map (node_at ls)) (take_next is k i u lt e) ∙ pushed (take k is)
  where
    pushed : (js : List ℕ) → map (node_at ls) (js ++ i ∷ []) ≡ map (node_at ls) js ++ node_at ls i ∷ []
    pushed [] = refl
    pushed (j ∷ js) = ap (λ (r : List ℕ). node_at ls j ∷ r) (pushed js)

pub nodes_pushed : (ls : List Leaf) (is xs ys : List ℕ) (k n : ℕ) → k < length is → xs ≡ map (node_at ls) (take k is) → n ≡ node_at ls (get_or is k 0) → ys ≡ xs ++ n ∷ [] → ys ≡ map (node_at ls) (take (k + 1) is)
nodes_pushed ls is xs ys k n lt before here e = e ∙ ((λ r. before r ++ here r ∷ []) ∙ sym (nodes_next ls is k (get_or is k 0) 0 lt refl))

nodes_long : (ls : List Leaf) (is : List ℕ) → length (map (node_at ls) is) ≡ length is
nodes_long ls [] = refl
nodes_long ls (i ∷ is) = ap suc (nodes_long ls is)

node_index : (ls : List Leaf) (is : List ℕ) (k : ℕ) → k < length is → get_or (map (node_at ls) is) k 0 ≡ node_at ls (get_or is k 0)
node_index ls [] k lt = absurd (omega arith)
node_index ls (i ∷ is) zero lt = refl
node_index ls (i ∷ is) (suc k) lt = node_index ls is k (omega arith)

-- ---- places within

pub rising_within : (ls ms : List Leaf) (is js : List ℕ) → declared ms ≡ declared ls → ((i : ℕ) → Among is i ↔ Among js i) → AreWithin ls js → AreWithin ms is
rising_within ls ms is js same each w =
    let long = long_same ls ms same in
    all_within ms is (λ i m. let lt = each_within ls js w i ((each i).0 m) in omega (arith, lt, long))

pub still_within : (ls ms : List Leaf) (is : List ℕ) → declared ms ≡ declared ls → AreWithin ls is → AreWithin ms is
still_within ls ms is same w k u lt = let long = long_same ls ms same in let in' = w k u lt in omega (arith, in', long)

-- ---- where a block has been run, and what it may assign has its nodes back

module _ (body : Stmt) (ls ms : List Leaf) (a b : List Node) (before : List Saved) (places nodes : List ℕ) (set : AreSet None ls a) (keeps : Keeps a b) (same : declared ms ≡ declared ls) (after : AreSet None ms b)
    (runs : Runs None (λ gs. run true (flat gs) body) ls a ms b) (saved : IsSaved ls before) (covers : Covers ls before body) where
  back_is : declared (put_back ms before) ≡ declared ls
  back_is = back_declared ms before ∙ same

  pub back_set : AreSet None (put_back ms before) b
  back_set =
      let ready : AreReady (put_back ms before) b = back_ready ms before b after.ready (saved_is ls ms before b same saved (ready_kept ls a b keeps set.ready)) in
      record { ready = ready; seen = ready; same = refl; apart = apart_same ls (put_back ms before) back_is set.apart }

  pub back_shown : (gs : List Signal) (e : Naming) (c : Cycle) → AreLeavesOf gs ls → AreShown e a ls c → AreShown e b (put_back ms before) c
  back_shown gs e c are h =
      back_after e b ls ms before c (run true (flat gs) body c c) same
      (subst (λ z. AreShown e b z c) (sym (back_saved ls before saved)) (shown_kept e ls a b c keeps set.ready h))
      (runs gs e c c are tt h)
      (λ i lt away. covers i lt away gs true c c are)

  -- the node of a leaf has the number that the block leaves there
  root_at : (i : ℕ) → i < length ls → IsRoot ls b body i (node_at ms i)
  root_at i lt =
      let long = long_same ls ms same in
      let there : i < length ms = omega (arith, lt, long) in
      record {
        node = subst (λ w. IsNode b (node_at ms i) w) (width_same ls ms i same) (node_there ms b i after.ready there);
        number = λ gs e c are h.
            ap (run true (flat gs) body c c) (sym (name_same ls ms i same))
            ∙ shown_at e b ms (run true (flat gs) body c c) i there (runs gs e c c are tt (shown_before e ls a b c keeps set.ready h));
      }

  pub outcome_is : (o : Outcome) → o.places.items ≡ places → o.nodes.items ≡ nodes → IsStrictlyIncreasing places → ((i : ℕ) → Among places i ↔ Among (places_of before) i) → nodes ≡ map (node_at ms) places → IsOutcome ls b body o
  outcome_is o ep en rises each is =
      let at : o.nodes.items ≡ map (node_at ms) o.places.items = en ∙ (is ∙ ap (map (node_at ms)) (sym ep)) in
      let up : IsStrictlyIncreasing o.places.items = subst IsStrictlyIncreasing (sym ep) rises in
      let both : (i : ℕ) → Among o.places.items i ↔ Among (places_of before) i = subst (λ (xs : List ℕ). (i : ℕ) → Among xs i ↔ Among (places_of before) i) (sym ep) each in
      let inside : (k : ℕ) → k < length o.places.items → get_or o.places.items k 0 < length ls = λ k lt. each_within ls (places_of before) saved.within (get_or o.places.items k 0) ((both (get_or o.places.items k 0)).0 (number_among o.places.items k 0 lt)) in
      record {
        found = record { rises = up; long = ap length at ∙ nodes_long ms o.places.items };
        within = inside;
        roots = λ k lt.
            subst (λ n. IsRoot ls b body (get_or o.places.items k 0) n) (sym (ap (λ (xs : List ℕ). get_or xs k 0) at ∙ node_index ms o.places.items k lt))
            (root_at (get_or o.places.items k 0) (inside k lt));
        others = λ i lt out. covers i lt (λ m. out ((both i).1 (contains_among (places_of before) i m)));
      }
