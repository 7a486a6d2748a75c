-- Saved nodes that are put back, and nodes of two branches that are joined.
use Rattle.std.proofs.Common.{arith, ◌≡◌, ℕ, zero, suc, ◌+◌, ◌<◌, ◌≤◌, Bool, true, false, List, [], ◌∷◌, ◌++◌, length, get_or, take, refl, sym, ap, ◌∙◌, subst, ◌⊎◌, inl, inr}
use Rattle.std.specs.Prelude.{nat_eq, if◌then◌else◌}
use Rattle.word_dag.specs.declared.node.Node.{Node}
use Rattle.word_dag.specs.Nodes.{Naming}
use Rattle.word_dag.specs.Adding.{Keeps}
use Rattle.vlog_tree_runs.specs.Places.{Name, Cycle}
use Rattle.vlog_tree.specs.declared.stmt.CaseItem.{CaseItem}
use Rattle.vlog_tree.specs.declared.stmt.Stmt.{Stmt}
use Rattle.elab_step_expr.specs.declared.leaves.Leaf.{Leaf}
use Rattle.elab_step_expr.specs.Leaves.{declared, AreReady, with_node}
use Rattle.elab_step_expr.specs.Nodes.{IsNode, number_at}
use Rattle.elab_step_expr.proofs.Kept.{node_kept, number_kept, keeps_then, keeps_same, ready_kept}
use Rattle.elab_step_expr.proofs.Leaving.{declared_with}
use Rattle.elab_step_blocks.specs.declared.branches.Saved.{Saved}
use Rattle.elab_step_blocks.specs.Runs.{Joins}
use Rattle.elab_step_blocks.specs.Saving.{node_at, saved_at, places_of, put_back, AreWithin, IsSaved, AreSaved, IsAway}
use Rattle.elab_step_blocks.specs.Sparing.{Spares, ItemsSpare, Covers, EachCovered}
use Rattle.elab_step_blocks.specs.Standing.{AreShown, chosen}
use Rattle.elab_step_blocks.specs.Targets.{name_at, width_at}
use Rattle.elab_step_blocks.proofs.Giving.{name_same, width_same}
use Rattle.elab_step_blocks.proofs.Joins.{long_same, leaves_same, take_next, take_all}

pub same_or : (i k : ℕ) → (i ≡ k) ⊎ (i ≡ k → ⊥)
same_or zero zero = inl refl
same_or zero (suc k) = inr (λ e. omega (arith, e))
same_or (suc i) zero = inr (λ e. omega (arith, e))
same_or (suc i) (suc k) = elim (same_or i k) [ inl e ↦ inl (ap suc e) | inr n ↦ inr (λ e. n (omega (arith, e))) ]

-- ---- the node of a leaf

pub node_get : (ls : List Leaf) (i : ℕ) (l : Leaf) → i < length ls → l ≡ get_or ls i l → l.node ≡ node_at ls i
node_get [] i l lt g = absurd (omega arith)
node_get (y ∷ ls) zero l lt g = ap (λ (z : Leaf). z.node) g
node_get (y ∷ ls) (suc i) l lt g = node_get ls i l (omega arith) g

pub node_with : (ls : List Leaf) (i n : ℕ) → i < length ls → node_at (with_node ls i n) i ≡ n
node_with [] i n lt = absurd (omega arith)
node_with (y ∷ ls) zero n lt = refl
node_with (y ∷ ls) (suc i) n lt = node_with ls i n (omega arith)

pub node_off : (ls : List Leaf) (i k n : ℕ) → (i ≡ k → ⊥) → node_at (with_node ls i n) k ≡ node_at ls k
node_off [] i k n ne = refl
node_off (y ∷ ls) zero zero n ne = absurd (ne refl)
node_off (y ∷ ls) zero (suc k) n ne = refl
node_off (y ∷ ls) (suc i) zero n ne = refl
node_off (y ∷ ls) (suc i) (suc k) n ne = node_off ls i k n (λ e. ne (ap suc e))

with_own : (ls : List Leaf) (i : ℕ) → with_node ls i (node_at ls i) ≡ ls
with_own [] i = refl
with_own (y ∷ ls) zero = refl
with_own (y ∷ ls) (suc i) = ap (λ (r : List Leaf). y ∷ r) (with_own ls i)

pub ready_index : (ls : List Leaf) (ns : List Node) (i : ℕ) → AreReady ls ns → i < length ls → IsNode ns (node_at ls i) (width_at ls i)
ready_index [] ns i r lt = absurd (omega arith)
ready_index (y ∷ ls) ns zero r lt = r.1
ready_index (y ∷ ls) ns (suc i) r lt = ready_index ls ns i r.2 (omega arith)

with_ready : (ls : List Leaf) (ns : List Node) (i n : ℕ) → i < length ls → IsNode ns n (width_at ls i) → AreReady ls ns → AreReady (with_node ls i n) ns
with_ready [] ns i n lt k r = absurd (omega arith)
with_ready (y ∷ ls) ns zero n lt k r = (r.0, k, r.2)
with_ready (y ∷ ls) ns (suc i) n lt k r = (r.0, r.1, with_ready ls ns i n (omega arith) k r.2)

-- ---- a cycle that is shown, leaf by leaf

pub shown_at : (e : Naming) (ns : List Node) (ls : List Leaf) (c : Cycle) (k : ℕ) → k < length ls → AreShown e ns ls c → c (name_at ls k) ≡ number_at e ns (node_at ls k)
shown_at e ns [] c k lt h = absurd (omega arith)
shown_at e ns (l ∷ ls) c zero lt h = h.0
shown_at e ns (l ∷ ls) c (suc k) lt h = shown_at e ns ls c k (omega arith) h.1

pub shown_each : (e : Naming) (ns : List Node) (ls : List Leaf) (c : Cycle) → ((k : ℕ) → k < length ls → c (name_at ls k) ≡ number_at e ns (node_at ls k)) → AreShown e ns ls c
shown_each e ns [] c h = tt
shown_each e ns (l ∷ ls) c h = (h 0 (omega arith), shown_each e ns ls c (λ k lt. h (suc k) (omega (arith, lt))))

-- ---- leaves for which no node is saved

pub away_none : (k : ℕ) → IsAway [] k
away_none k m = omega (arith, m.1)

away_here : (s : Saved) (ss : List Saved) (k : ℕ) → IsAway (s ∷ ss) k → s.place ≡ k → ⊥
away_here s ss k h e = h (0, omega arith, e)

away_rest : (s : Saved) (ss : List Saved) (k : ℕ) → IsAway (s ∷ ss) k → IsAway ss k
away_rest s ss k h m = h (suc m.0, omega (arith, m.1), m.2)

pub away_more : (s : Saved) (ss : List Saved) (k : ℕ) → (s.place ≡ k → ⊥) → IsAway ss k → IsAway (s ∷ ss) k
away_more s ss k ne h m = pick m.0 m.1 m.2
  where
    pick : (j : ℕ) → j < length (places_of (s ∷ ss)) → get_or (places_of (s ∷ ss)) j k ≡ k → ⊥
    pick zero lt e = ne e
    pick (suc j) lt e = h (j, omega (arith, lt), e)

-- ---- nodes that are put back

pub back_declared : (ls : List Leaf) (ss : List Saved) → declared (put_back ls ss) ≡ declared ls
back_declared ls [] = refl
back_declared ls (s ∷ ss) = back_declared (with_node ls s.place s.node) ss ∙ declared_with ls s.place s.node

pub back_next : (ls : List Leaf) (ss : List Saved) (s : Saved) → put_back ls (ss ++ s ∷ []) ≡ with_node (put_back ls ss) s.place s.node
back_next ls [] s = refl
back_next ls (t ∷ ss) s = back_next (with_node ls t.place t.node) ss s

pub back_off : (ls : List Leaf) (ss : List Saved) (k : ℕ) → IsAway ss k → node_at (put_back ls ss) k ≡ node_at ls k
back_off ls [] k h = refl
back_off ls (s ∷ ss) k h = back_off (with_node ls s.place s.node) ss k (away_rest s ss k h) ∙ node_off ls s.place k s.node (away_here s ss k h)

-- what the leaves have themselves
pub back_own : (ls : List Leaf) (is : List ℕ) → put_back ls (saved_at ls is) ≡ ls
back_own ls [] = refl
back_own ls (i ∷ is) = ap (λ (r : List Leaf). put_back r (saved_at ls is)) (with_own ls i) ∙ back_own ls is

pub back_saved : (ls : List Leaf) (ss : List Saved) → IsSaved ls ss → put_back ls ss ≡ ls
back_saved ls ss h = ap (put_back ls) h.nodes ∙ back_own ls (places_of ss)

-- no node is saved for a leaf, or it gets one
back_either : (ls ms : List Leaf) (ss : List Saved) (k : ℕ) → k < length ls → k < length ms → IsAway ss k ⊎ (node_at (put_back ms ss) k ≡ node_at (put_back ls ss) k)
back_either ls ms [] k lt in' = inl (away_none k)
back_either ls ms (s ∷ ss) k lt in' =
    let a = with_node ls s.place s.node in
    let b = with_node ms s.place s.node in
    let here : (rs : List Leaf) → k < length rs → s.place ≡ k → IsAway ss k → node_at (put_back (with_node rs s.place s.node) ss) k ≡ s.node =
    λ rs r e away. back_off (with_node rs s.place s.node) ss k away ∙ subst (λ j. j < length rs → node_at (with_node rs s.place s.node) j ≡ s.node) e (node_with rs s.place s.node) r in
    elim (back_either a b ss k (omega (arith, lt, long_same ls a (declared_with ls s.place s.node))) (omega (arith, in', long_same ms b (declared_with ms s.place s.node)))) [
      | inl away ↦ elim (same_or s.place k) [ inl e ↦ inr (here ms in' e away ∙ sym (here ls lt e away)) | inr ne ↦ inl (away_more s ss k ne away) ]
      | inr same ↦ inr same
    ]

-- other leaves of the same names, which show the same for each that gets no node
pub back_moved : (e : Naming) (ns : List Node) (ls ms : List Leaf) (ss : List Saved) (c : Cycle) → declared ms ≡ declared ls → AreShown e ns (put_back ls ss) c
    → ((k : ℕ) → k < length ls → IsAway ss k → c (name_at ls k) ≡ number_at e ns (node_at ms k)) → AreShown e ns (put_back ms ss) c
back_moved e ns ls ms ss c same h others = shown_each e ns (put_back ms ss) c (λ k lt.
    let a = put_back ls ss in
    let b = put_back ms ss in
    let in' : k < length ms = omega (arith, lt, long_same ms b (back_declared ms ss)) in
    let il : k < length ls = omega (arith, in', long_same ls ms same) in
    let ia : k < length a = omega (arith, il, long_same ls a (back_declared ls ss)) in
    let name : name_at b k ≡ name_at ls k = name_same ms b k (back_declared ms ss) ∙ name_same ls ms k same in
    elim (back_either ls ms ss k il in') [
      | inl away ↦ ap c name ∙ (others k il away ∙ ap (number_at e ns) (sym (back_off ms ss k away)))
      | inr node ↦ ap c (name ∙ sym (name_same ls a k (back_declared ls ss))) ∙ (shown_at e ns a c k ia h ∙ ap (number_at e ns) (sym node))
    ])

-- with saved nodes put back, a leaf for which none is saved shows what it showed
pub away_agrees : (e : Naming) (ns : List Node) (ls : List Leaf) (ss : List Saved) (c d : Cycle) (k : ℕ) → AreShown e ns (put_back ls ss) c → AreShown e ns ls d → k < length ls → IsAway ss k → c (name_at ls k) ≡ d (name_at ls k)
away_agrees e ns ls ss c d k h g lt away =
    let a = put_back ls ss in
    let ia : k < length a = omega (arith, lt, long_same ls a (back_declared ls ss)) in
    ap c (sym (name_same ls a k (back_declared ls ss))) ∙ (shown_at e ns a c k ia h ∙ (ap (number_at e ns) (back_off ls ss k away) ∙ sym (shown_at e ns ls d k lt g)))

-- after a step that leaves each leaf as it is for which no node is saved
pub back_after : (e : Naming) (ns : List Node) (ls ms : List Leaf) (ss : List Saved) (c d : Cycle) → declared ms ≡ declared ls → AreShown e ns (put_back ls ss) c → AreShown e ns ms d
    → ((k : ℕ) → k < length ls → IsAway ss k → d (name_at ls k) ≡ c (name_at ls k)) → AreShown e ns (put_back ms ss) c
back_after e ns ls ms ss c d same h g others =
    back_moved e ns ls ms ss c same h (λ k lt away. sym (others k lt away) ∙ (ap d (sym (name_same ls ms k same)) ∙ shown_at e ns ms d k (omega (arith, lt, long_same ls ms same)) g))

-- ---- saved nodes in a dag that grows

pub places_saved : (ls : List Leaf) (is : List ℕ) → places_of (saved_at ls is) ≡ is
places_saved ls [] = refl
places_saved ls (i ∷ is) = ap (λ (r : List ℕ). i ∷ r) (places_saved ls is)

pub saved_moved : (ls ms : List Leaf) (ss : List Saved) (a b : List Node) → declared ms ≡ declared ls → Keeps a b → AreSaved ls ss a → AreSaved ms ss b
saved_moved ls ms [] a b same k h = tt
saved_moved ls ms (s ∷ ss) a b same k h =
    (omega (arith, h.0, long_same ls ms same), subst (λ w. IsNode b s.node w) (sym (width_same ls ms s.place same)) (node_kept a b s.node (width_at ls s.place) k h.1), saved_moved ls ms ss a b same k h.2)

pub saved_own : (ls ms : List Leaf) (is : List ℕ) (ns : List Node) → declared ms ≡ declared ls → AreWithin ls is → AreReady ls ns → AreSaved ms (saved_at ls is) ns
saved_own ls ms [] ns same w r = tt
saved_own ls ms (i ∷ is) ns same w r =
    let lt : i < length ls = w 0 0 (omega arith) in
    (omega (arith, lt, long_same ls ms same), subst (λ z. IsNode ns (node_at ls i) z) (sym (width_same ls ms i same)) (ready_index ls ns i r lt), saved_own ls ms is ns same (λ k d m. w (suc k) d (omega (arith, m))) r)

pub saved_is : (ls ms : List Leaf) (ss : List Saved) (ns : List Node) → declared ms ≡ declared ls → IsSaved ls ss → AreReady ls ns → AreSaved ms ss ns
saved_is ls ms ss ns same h r = subst (λ (x : List Saved). AreSaved ms x ns) (sym h.nodes) (saved_own ls ms (places_of ss) ns same h.within r)

pub saved_get : (ls : List Leaf) (ss : List Saved) (ns : List Node) (i : ℕ) (s d : Saved) → AreSaved ls ss ns → i < length ss → s ≡ get_or ss i d → (s.place < length ls) × IsNode ns s.node (width_at ls s.place)
saved_get ls [] ns i s d h lt is = absurd (omega arith)
saved_get ls (t ∷ ss) ns zero s d h lt is = subst (λ (z : Saved). (z.place < length ls) × IsNode ns z.node (width_at ls z.place)) (sym is) (h.0, h.1)
saved_get ls (t ∷ ss) ns (suc i) s d h lt is = saved_get ls ss ns i s d h.2 (omega arith) is

pub saved_within : (ls : List Leaf) (ss : List Saved) (ns : List Node) → AreSaved ls ss ns → AreWithin ls (places_of ss)
saved_within ls [] ns h k d lt = absurd (omega (arith, lt))
saved_within ls (s ∷ ss) ns h zero d lt = h.0
saved_within ls (s ∷ ss) ns h (suc k) d lt = saved_within ls ss ns h.2 k d (omega (arith, lt))

pub within_get : (ls : List Leaf) (ss : List Saved) (i : ℕ) (s d : Saved) → AreWithin ls (places_of ss) → i < length ss → s ≡ get_or ss i d → s.place < length ls
within_get ls [] i s d w lt is = absurd (omega arith)
within_get ls (t ∷ ss) zero s d w lt is = subst (λ (z : Saved). z.place < length ls) (sym is) (w 0 0 (omega arith))
within_get ls (t ∷ ss) (suc i) s d w lt is = within_get ls ss i s d (λ k e m. w (suc k) e (omega (arith, m))) (omega arith) is

pub back_ready : (ls : List Leaf) (ss : List Saved) (ns : List Node) → AreReady ls ns → AreSaved ls ss ns → AreReady (put_back ls ss) ns
back_ready ls [] ns r h = r
back_ready ls (s ∷ ss) ns r h =
    let m = with_node ls s.place s.node in
    back_ready m ss ns (with_ready ls ns s.place s.node h.0 h.1 r) (saved_moved ls m ss ns ns (declared_with ls s.place s.node) (keeps_same ns) h.2)

-- ---- two branches

either : (t : Bool) (x : ℕ) → x ≡ (if t then x else x)
either true x = refl
either false x = refl

twice : (t : Bool) (x y z : ℕ) → (if t then (if t then x else y) else z) ≡ (if t then x else z)
twice true x y z = refl
twice false x y z = refl

abbrev pub IsNumbered : ℕ → List Saved → List Leaf → List Node → List Leaf → List Node → Naming → ℕ → Type 0
IsNumbered z others ls old ms new e k =
    number_at e new (node_at ms k) ≡ (if nat_eq (number_at e old z) 1 then number_at e old (node_at ls k) else number_at e old (node_at (put_back ls others) k))

-- the leaves so far have the numbers of the first ones where a node is 1, else those with these nodes put back
pub record Joining (z : ℕ) (others : List Saved) (ls : List Leaf) (old : List Node) (ms : List Leaf) (new : List Node) : Type 0 where
  pub keeps : Keeps old new
  pub same : declared ms ≡ declared ls
  pub ready : AreReady ms new
  pub numbers : (e : Naming) (k : ℕ) → k < length ls → IsNumbered z others ls old ms new e k

pub joining_next : (z r : ℕ) (ss : List Saved) (s : Saved) (ls ms : List Leaf) (old a b : List Node) → IsNode old z 1 → (s.place < length ls) × IsNode old s.node (width_at ls s.place) → Joining z ss ls old ms a → Keeps a b
    → IsNode b r (width_at ms s.place) → ((e : Naming) → number_at e b r ≡ (if nat_eq (number_at e a z) 1 then number_at e a (node_at ms s.place) else number_at e a s.node)) → Joining z (ss ++ s ∷ []) ls old (with_node ms s.place r) b
joining_next z r ss s ls ms old a b test at h k node number = record {
  keeps = keeps_then old a b h.keeps k;
  same = declared_with ms s.place r ∙ h.same;
  ready = with_ready ms b s.place r in' node (ready_kept ms a b k h.ready);
  numbers = λ e j lt. elim (same_or s.place j) [
    | inl is ↦ subst (λ i. IsNumbered z (ss ++ s ∷ []) ls old (with_node ms s.place r) b e i) is (here e)
    | inr ne ↦
        ap (number_at e b) (node_off ms s.place j r ne)
        ∙ (number_kept e a b (node_at ms j) (width_at ms j) k (ready_index ms a j h.ready (omega (arith, lt, long)))
        ∙ (h.numbers e j lt
        ∙ ap (λ n. if nat_eq (number_at e old z) 1 then number_at e old (node_at ls j) else number_at e old n) (sym (ap (λ (q : List Leaf). node_at q j) (back_next ls ss s) ∙ node_off (put_back ls ss) s.place j s.node ne))))
  ];
}
  where
    long : length ms ≡ length ls
    long = long_same ls ms h.same

    in' : s.place < length ms
    in' = omega (arith, at.0, long)

    ib : s.place < length (put_back ls ss)
    ib = omega (arith, at.0, long_same ls (put_back ls ss) (back_declared ls ss))

    here : (e : Naming) → IsNumbered z (ss ++ s ∷ []) ls old (with_node ms s.place r) b e s.place
    here e =
        let t : nat_eq (number_at e a z) 1 ≡ nat_eq (number_at e old z) 1 = ap (λ n. nat_eq n 1) (number_kept e old a z 1 h.keeps test) in
        ap (number_at e b) (node_with ms s.place r in')
        ∙ (number e
        ∙ ((λ i. if t i then h.numbers e s.place at.0 i else number_kept e old a s.node (width_at ls s.place) h.keeps at.1 i)
        ∙ (twice (nat_eq (number_at e old z) 1) (number_at e old (node_at ls s.place)) (number_at e old (node_at (put_back ls ss) s.place)) (number_at e old s.node)
        ∙ ap (λ n. if nat_eq (number_at e old z) 1 then number_at e old (node_at ls s.place) else number_at e old n) (sym (ap (λ (q : List Leaf). node_at q s.place) (back_next ls ss s) ∙ node_with (put_back ls ss) s.place s.node ib)))))

pub joining_at : (z r : ℕ) (ss : List Saved) (i : ℕ) (s d : Saved) (ls ms : List Leaf) (old a b : List Node) → IsNode old z 1 → AreSaved ls ss old → i < length ss → s ≡ get_or ss i d → Joining z (take i ss) ls old ms a → Keeps a b
    → IsNode b r (width_at ms s.place) → ((e : Naming) → number_at e b r ≡ (if nat_eq (number_at e a z) 1 then number_at e a (node_at ms s.place) else number_at e a s.node))
    → Joining z (take (i + 1) ss) ls old (with_node ms s.place r) b
joining_at z r ss i s d ls ms old a b test saved lt is h k node number =
    subst (λ q. Joining z q ls old (with_node ms s.place r) b) (sym (take_next ss i s d lt is)) (joining_next z r (take i ss) s ls ms old a b test (saved_get ls ss old i s d saved lt is) h k node number)

pub joining_all : (z : ℕ) (ss : List Saved) (i : ℕ) (ls ms : List Leaf) (old new : List Node) → length ss ≤ i → Joining z (take i ss) ls old ms new → Joins z ss ls old ms new
joining_all z ss i ls ms old new le g e c d p q =
    let h : Joining z ss ls old ms new = subst (λ x. Joining z x ls old ms new) (take_all ss i le) g in
    shown_each e new ms (chosen (number_at e old z) c d) (λ k lt.
    let il : k < length ls = omega (arith, lt, long_same ls ms h.same) in
    let b = put_back ls ss in
    let ib : k < length b = omega (arith, il, long_same ls b (back_declared ls ss)) in
    let name : name_at ms k ≡ name_at ls k = name_same ls ms k h.same in
    let one : c (name_at ms k) ≡ number_at e old (node_at ls k) = ap c name ∙ shown_at e old ls c k il p in
    let other : d (name_at ms k) ≡ number_at e old (node_at b k) = ap d (name ∙ sym (name_same ls b k (back_declared ls ss))) ∙ shown_at e old b d k ib q in
    (λ r. if nat_eq (number_at e old z) 1 then one r else other r) ∙ sym (h.numbers e k il))

-- ---- leaves of the same names

spares_same : (ls ms : List Leaf) (stmt : Stmt) (x : Name) → declared ms ≡ declared ls → Spares ls stmt x → Spares ms stmt x
spares_same ls ms stmt x same h gs o c d leaves = h gs o c d (leaves_same gs ms ls (sym same) leaves)

items_same : (ls ms : List Leaf) (items : List CaseItem) (x : Name) → declared ms ≡ declared ls → ItemsSpare ls items x → ItemsSpare ms items x
items_same ls ms [] x same h = tt
items_same ls ms (i ∷ rest) x same h = (spares_same ls ms i.body x same h.0, items_same ls ms rest x same h.1)

pub covers_same : (ls ms : List Leaf) (ss : List Saved) (stmt : Stmt) → declared ms ≡ declared ls → Covers ls ss stmt → Covers ms ss stmt
covers_same ls ms ss stmt same h k lt away =
    subst (λ x. Spares ms stmt x) (sym (name_same ls ms k same)) (spares_same ls ms stmt (name_at ls k) same (h k (omega (arith, lt, long_same ls ms same)) away))

pub each_same : (ls ms : List Leaf) (ss : List Saved) (items : List CaseItem) → declared ms ≡ declared ls → EachCovered ls ss items → EachCovered ms ss items
each_same ls ms ss items same h k lt away =
    subst (λ x. ItemsSpare ms items x) (sym (name_same ls ms k same)) (items_same ls ms items (name_at ls k) same (h k (omega (arith, lt, long_same ls ms same)) away))
