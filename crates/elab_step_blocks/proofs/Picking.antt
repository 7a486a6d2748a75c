-- Case statements that are run on nodes.
use Rattle.std.proofs.Common.{arith, ◌≡◌, ℕ, zero, suc, ◌+◌, ◌<◌, ◌≤◌, max, Bool, true, false, ◌&&◌, List, [], ◌∷◌, ◌++◌, length, get_or, drop, map, refl, sym, ap, ◌∙◌, subst, Option}
use Rattle.std.specs.Prelude.{not, nat_eq, if◌then◌else◌}
use Rattle.word_dag.specs.declared.node.Node.{Node}
use Rattle.word_dag.specs.Nodes.{Naming}
use Rattle.word_dag.specs.Adding.{Keeps}
use Rattle.word_core.specs.Words.{Bits}
use Rattle.vlog_tree.specs.declared.expr.Expr.{Expr}
use Rattle.vlog_tree.specs.declared.stmt.CaseItem.{CaseItem}
use Rattle.vlog_tree.specs.declared.stmt.CaseKind.{CaseKind}
use Rattle.vlog_tree.specs.declared.stmt.Labels.{Labels}
use Rattle.vlog_tree.specs.declared.stmt.Labels.TheVariants as label
use Rattle.vlog_tree.specs.declared.stmt.Stmt.{Stmt, Row_of-CaseItem, end_of-CaseItem, more_of-CaseItem, items-the_row-CaseItem, items_hidden-the_row-CaseItem-2}
use Rattle.vlog_tree.specs.declared.stmt.Stmt.TheVariants as s
use Rattle.vlog_tree.specs.declared.stmt.Stmt.TheBlock.{hidden-the_row-CaseItem-2}
use Rattle.vlog_tree.specs.declared.valuation.Entry.{Entry}
use Rattle.vlog_tree.specs.Value.{bit}
use Rattle.vlog_tree_runs.specs.declared.flat.Signal.{Signal}
use Rattle.vlog_tree_runs.specs.Places.{Name, Cycle, Place, valuation}
use Rattle.vlog_tree_runs.specs.Blocks.{seen, widest, all_signed, exprs_in, is_default, labels_in, case_width, case_sign, any_matches, run, run_items, run_default}
use Rattle.elab_step_expr.specs.declared.leaves.Leaf.{Leaf}
use Rattle.elab_step_expr.specs.Leaves.{declared, valued}
use Rattle.elab_step_expr.specs.Nodes.{number_at, words, IsNode}
use Rattle.elab_step_expr.proofs.Alike.{same_operand}
use Rattle.elab_step_expr.proofs.Kept.{keeps_then, keeps_same, number_kept, node_kept}
use Rattle.elab_step_expr.proofs.Read.{alike_valued}
use Rattle.elab_step_blocks.specs.Standing.{flat, AreLeavesOf, AreShown}
use Rattle.elab_step_blocks.specs.declared.branches.Saved.{Saved}
use Rattle.elab_step_blocks.specs.Saving.{put_back, AreSaved, IsSaved}
use Rattle.elab_step_blocks.specs.Sparing.{Spares, ItemsSpare, Covers, EachCovered}
use Rattle.elab_step_blocks.specs.Targets.{name_at}
use Rattle.elab_step_blocks.specs.Ready.{ArePlaced, IsReadyStmt, AreReadyItems, EachReadyItem}
use Rattle.elab_step_blocks.specs.Cases.{each_labels, each_default, case_test, picked, AreMatches}
use Rattle.elab_step_blocks.specs.Runs.{seen_by, is_at_once, AreBefore, AreSet, Runs, Tests, Branches, AreBits, AreTests, Picks, Chooses, IsDefaultAt}
use Rattle.elab_step_blocks.proofs.Joins.{shown_kept, shown_same, leaves_same}
use Rattle.elab_step_blocks.proofs.Saving.{saved_moved, back_ready, back_after, back_saved, away_agrees, covers_same}
use Rattle.elab_step_blocks.proofs.Sides.{valuation_is}
use Rattle.elab_step_blocks.proofs.Storing.{before_kept, shown_seen}
use Rattle.elab_step_blocks.proofs.Labelling.{drop_at, drop_all}

-- ---- rows of items as lists

-- what the first item makes of a cycle of which a label passes a test, and otherwise this cycle
abbrev pub each_items : Bool → Place → (Labels → Bool) → List CaseItem → Cycle → Cycle → Cycle → Cycle
each_items at_once p test [] c d otherwise x = otherwise x
each_items at_once p test (i ∷ rest) c d otherwise x = if test i.labels then run at_once p i.body c d x else each_items at_once p test rest c d otherwise x

labels_row : {m : _} (row : Row_of-CaseItem m) → labels_in row ≡ each_labels (items-the_row-CaseItem m row)
labels_row end_of-CaseItem = refl
labels_row (more_of-CaseItem labels body rest) = ap (λ xs. exprs_in labels ++ xs) (labels_row rest)

items_row : {m : _} (o : Bool) (p : Place) (test : Labels → Bool) (row : Row_of-CaseItem m) (c d otherwise : Cycle) (x : Name) → run_items o p test row c d otherwise x ≡ each_items o p test (items-the_row-CaseItem m row) c d otherwise x
items_row o p test end_of-CaseItem c d otherwise x = refl
items_row o p test (more_of-CaseItem labels body rest) c d otherwise x = ap (λ n. if test labels then run o p body c d x else n) (items_row o p test rest c d otherwise x)

default_row : {m : _} (o : Bool) (p : Place) (row : Row_of-CaseItem m) (c d : Cycle) (x : Name) → run_default o p row c d x ≡ each_default o p (items-the_row-CaseItem m row) c d x
default_row o p end_of-CaseItem c d x = refl
default_row o p (more_of-CaseItem labels body rest) c d x = ap (λ n. if is_default labels then run o p body c d x else n) (default_row o p rest c d x)

items_ready : {m : _} (v : List Entry) (row : Row_of-CaseItem m) → AreReadyItems v row → EachReadyItem v (items-the_row-CaseItem m row)
items_ready v end_of-CaseItem h = tt
items_ready v (more_of-CaseItem labels body rest) h = (h.0, items_ready v rest h.1)

other_same : (o : Bool) (p : Place) (test : Labels → Bool) (is : List CaseItem) (c d f g : Cycle) (x : Name) → f x ≡ g x → each_items o p test is c d f x ≡ each_items o p test is c d g x
other_same o p test [] c d f g x h = h
other_same o p test (i ∷ rest) c d f g x h = ap (λ n. if test i.labels then run o p i.body c d x else n) (other_same o p test rest c d f g x h)

pub case_ready : (v : List Entry) (kind : CaseKind) (a : Expr) (xs : List CaseItem) (tree : Stmt) → tree ≡ s.Case kind a xs → IsReadyStmt v tree
    → ArePlaced v (a ∷ each_labels xs) (case_width v a (each_labels xs)) (case_sign v a (each_labels xs)) × EachReadyItem v xs
case_ready v kind a xs tree is h =
    let row = hidden-the_row-CaseItem-2 xs in
    let listed : items-the_row-CaseItem _ row ≡ xs = items_hidden-the_row-CaseItem-2 xs in
    let labels : labels_in row ≡ each_labels xs = labels_row row ∙ ap each_labels listed in
    let k : ArePlaced v (a ∷ labels_in row) (case_width v a (labels_in row)) (case_sign v a (labels_in row)) × AreReadyItems v row = subst (λ z. IsReadyStmt v z) is h in
    (subst (λ (es : List Expr). ArePlaced v (a ∷ es) (case_width v a es) (case_sign v a es)) labels k.0, subst (λ z. EachReadyItem v z) listed (items_ready v row k.1))

pub case_run : (o : Bool) (p : Place) (kind : CaseKind) (a : Expr) (xs : List CaseItem) (tree : Stmt) (c d : Cycle) (x : Name) → tree ≡ s.Case kind a xs
    → run o p tree c d x ≡ each_items o p (case_test o p kind a xs c d) xs c d (each_default o p xs c d) x
case_run o p kind a xs tree c d x is =
    let row = hidden-the_row-CaseItem-2 xs in
    let listed : items-the_row-CaseItem _ row ≡ xs = items_hidden-the_row-CaseItem-2 xs in
    let labels : labels_in row ≡ each_labels xs = labels_row row ∙ ap each_labels listed in
    let v = valuation p (seen o c d) in
    let k : run o p tree c d x ≡ run_items o p (any_matches kind v (case_width v a (labels_in row)) (case_sign v a (labels_in row)) a) row c d (run_default o p row c d) x = ap (λ z. run o p z c d x) is in
    k ∙ (items_row o p _ row c d _ x ∙ (other_same o p _ (items-the_row-CaseItem _ row) c d _ _ x (default_row o p row c d x)
    ∙ λ i. each_items o p (any_matches kind v (case_width v a (labels i)) (case_sign v a (labels i)) a) (listed i) c d (each_default o p (listed i) c d) x))

-- ---- tests of the cycles that are shown

same_wide : (es : List Leaf) (ws : List Bits) (n : ℕ) (s : Bool) (xs : List Expr) → ArePlaced (declared es) xs n s → widest (declared es) xs ≡ widest (valued es ws) xs
same_wide es ws n s [] h = refl
same_wide es ws n s (x ∷ xs) h = λ i. max ((same_operand (declared es) (valued es ws) x (alike_valued es ws) h.0.constant).width i) (same_wide es ws n s xs h.1 i)

same_signed : (es : List Leaf) (ws : List Bits) (n : ℕ) (s : Bool) (xs : List Expr) → ArePlaced (declared es) xs n s → all_signed (declared es) xs ≡ all_signed (valued es ws) xs
same_signed es ws n s [] h = refl
same_signed es ws n s (x ∷ xs) h = λ i. (same_operand (declared es) (valued es ws) x (alike_valued es ws) h.0.constant).signed i && same_signed es ws n s xs h.1 i

pub matches_bits : (kind : CaseKind) (es : List Leaf) (a : Expr) (n : ℕ) (s : Bool) (old new : List Node) (is : List CaseItem) (zs : List ℕ) → AreMatches kind es a n s old is zs new → AreBits is zs new
matches_bits kind es a n s old new [] [] h = tt
matches_bits kind es a n s old new [] (z ∷ zs) h = absurd h
matches_bits kind es a n s old new (i ∷ is) [] h = absurd h
matches_bits kind es a n s old new (i ∷ is) (z ∷ zs) h = (h.0, matches_bits kind es a n s old new is zs h.2)

pub matches_tests : (reads : Option (List Leaf)) (kind : CaseKind) (a : Expr) (all : List CaseItem) (ms es : List Leaf) (old new : List Node) (is : List CaseItem) (zs : List ℕ) → AreSet reads ms old → es ≡ seen_by reads ms
    → ArePlaced (declared es) (a ∷ each_labels all) (case_width (declared es) a (each_labels all)) (case_sign (declared es) a (each_labels all))
    → AreMatches kind es a (case_width (declared es) a (each_labels all)) (case_sign (declared es) a (each_labels all)) old is zs new → AreTests reads (λ gs. case_test (is_at_once reads) (flat gs) kind a all) ms old new is zs
matches_tests reads kind a all ms es old new [] zs set is placed h = tt
matches_tests reads kind a all ms es old new (i ∷ rest) [] set is placed h = tt
matches_tests reads kind a all ms es old new (i ∷ rest) (z ∷ zs) set is placed h = (here, matches_tests reads kind a all ms es old new rest zs set is placed h.2)
  where
    here : Tests reads (λ gs p q. case_test (is_at_once reads) (flat gs) kind a all p q i.labels) ms old new z
    here gs e p q leaves before now =
        let c = seen (is_at_once reads) p q in
        let same : declared es ≡ declared ms = ap declared is ∙ set.same in
        let shown : AreShown e old es c = subst (λ m. AreShown e old m c) (sym is) (shown_seen e reads ms old p q before now) in
        let v : valued es (words e old) ≡ valuation (flat gs) c = sym (valuation_is gs es e old c (leaves_same gs ms es same leaves) shown) in
        let n : case_width (declared es) a (each_labels all) ≡ case_width (valued es (words e old)) a (each_labels all) = same_wide es (words e old) _ _ (a ∷ each_labels all) placed in
        let g : case_sign (declared es) a (each_labels all) ≡ case_sign (valued es (words e old)) a (each_labels all) = same_signed es (words e old) _ _ (a ∷ each_labels all) placed in
        let w : case_width (declared es) a (each_labels all) ≡ case_width (valuation (flat gs) c) a (each_labels all) = n ∙ ap (λ u. case_width u a (each_labels all)) v in
        let t : case_sign (declared es) a (each_labels all) ≡ case_sign (valuation (flat gs) c) a (each_labels all) = g ∙ ap (λ u. case_sign u a (each_labels all)) v in
        h.1 e ∙ λ j. bit (any_matches kind (v j) (w j) (t j) a i.labels)

pub bits_kept : (a b : List Node) (is : List CaseItem) (zs : List ℕ) → Keeps a b → AreBits is zs a → AreBits is zs b
bits_kept a b [] [] k h = tt
bits_kept a b [] (z ∷ zs) k h = absurd h
bits_kept a b (i ∷ is) [] k h = absurd h
bits_kept a b (i ∷ is) (z ∷ zs) k h = (node_kept a b z 1 k h.0, bits_kept a b is zs k h.1)

pub bits_long : (is : List CaseItem) (zs : List ℕ) (a : List Node) → AreBits is zs a → length zs ≡ length is
bits_long [] [] a h = refl
bits_long [] (z ∷ zs) a h = absurd h
bits_long (i ∷ is) [] a h = absurd h
bits_long (i ∷ is) (z ∷ zs) a h = ap suc (bits_long is zs a h.1)

pub bit_at : (is : List CaseItem) (zs : List ℕ) (a : List Node) (k d : ℕ) → AreBits is zs a → k < length is → IsNode a (get_or zs k d) 1
bit_at [] zs a k d h lt = absurd (omega arith)
bit_at (i ∷ is) [] a k d h lt = absurd h
bit_at (i ∷ is) (z ∷ zs) a zero d h lt = h.0
bit_at (i ∷ is) (z ∷ zs) a (suc k) d h lt = bit_at is zs a k d h.1 (omega arith)

pub ready_item : (v : List Entry) (is : List CaseItem) (k : ℕ) (x d : CaseItem) → EachReadyItem v is → k < length is → x ≡ get_or is k d → IsReadyStmt v x.body
ready_item v [] k x d h lt is = absurd (omega arith)
ready_item v (y ∷ ys) zero x d h lt is = subst (λ (z : CaseItem). IsReadyStmt v z.body) (sym is) h.0
ready_item v (y ∷ ys) (suc k) x d h lt is = ready_item v ys k x d h.1 (omega arith) is

-- ---- what the bodies of items leave as it is

pub one_of : (t : Bool) (m n k : ℕ) → m ≡ k → n ≡ k → (if t then m else n) ≡ k
one_of true m n k h g = h
one_of false m n k h g = g

pub default_spared : (ls : List Leaf) (gs : List Signal) (o : Bool) (items : List CaseItem) (c d : Cycle) (x : Name) → AreLeavesOf gs ls → ItemsSpare ls items x → each_default o (flat gs) items c d x ≡ d x
default_spared ls gs o [] c d x leaves h = refl
default_spared ls gs o (i ∷ rest) c d x leaves h =
    one_of (is_default i.labels) (run o (flat gs) i.body c d x) (each_default o (flat gs) rest c d x) (d x) (h.0 gs o c d leaves) (default_spared ls gs o rest c d x leaves h.1)

pub picked_spared : (ls : List Leaf) (gs : List Signal) (o : Bool) (items : List CaseItem) (bs : List ℕ) (c d other : Cycle) (x : Name) → AreLeavesOf gs ls → ItemsSpare ls items x → other x ≡ d x → picked o (flat gs) items bs c d other x ≡ d x
picked_spared ls gs o [] bs c d other x leaves h e = e
picked_spared ls gs o (i ∷ rest) [] c d other x leaves h e = e
picked_spared ls gs o (i ∷ rest) (b ∷ bs) c d other x leaves h e =
    one_of (not (is_default i.labels) && nat_eq b 1) (run o (flat gs) i.body c d x) (picked o (flat gs) rest bs c d other x) (d x) (h.0 gs o c d leaves) (picked_spared ls gs o rest bs c d other x leaves h.1 e)

spared_drop : (ls : List Leaf) (items : List CaseItem) (k : ℕ) (x : Name) → ItemsSpare ls items x → ItemsSpare ls (drop k items) x
spared_drop ls [] zero x h = h
spared_drop ls [] (suc k) x h = h
spared_drop ls (i ∷ rest) zero x h = h
spared_drop ls (i ∷ rest) (suc k) x h = spared_drop ls rest k x h.1

spared_item : (ls : List Leaf) (items : List CaseItem) (k : ℕ) (i d : CaseItem) (x : Name) → ItemsSpare ls items x → k < length items → i ≡ get_or items k d → Spares ls i.body x
spared_item ls [] k i d x h lt is = absurd (omega arith)
spared_item ls (y ∷ rest) zero i d x h lt is = subst (λ (z : CaseItem). Spares ls z.body x) (sym is) h.0
spared_item ls (y ∷ rest) (suc k) i d x h lt is = spared_item ls rest k i d x h.1 (omega arith) is

pub covered_item : (ls ms : List Leaf) (ss : List Saved) (items : List CaseItem) (k : ℕ) (i d : CaseItem) → declared ms ≡ declared ls → EachCovered ls ss items → k < length items → i ≡ get_or items k d → Covers ms ss i.body
covered_item ls ms ss items k i d same h lt is = covers_same ls ms ss i.body same (λ j in' away. spared_item ls items k i d (name_at ls j) (h j in' away) lt is)

-- ---- the first item whose bit is 1

bit_is : (t : Bool) → nat_eq (bit t) 1 ≡ t
bit_is true = refl
bit_is false = refl

-- a bit of an item counts, the default aside, as a test of its labels does that no default passes
default_aside : (skipped b t : Bool) → b ≡ t → (skipped ≡ true → t ≡ false) → (not skipped && b) ≡ t
default_aside true b t h none = sym (none refl)
default_aside false b t h none = h

picked_is : (reads : Option (List Leaf)) (t : List Signal → Cycle → Cycle → Labels → Bool) (ms : List Leaf) (a b d : List Node) (is : List CaseItem) (zs : List ℕ) (gs : List Signal) (e : Naming) (p q other : Cycle) (x : Name)
    → ((labels : Labels) → is_default labels ≡ true → t gs p q labels ≡ false) → Keeps b d → AreBits is zs b → AreTests reads t ms a b is zs → AreLeavesOf gs ms → AreBefore e a reads p → AreShown e a ms q
    → picked (is_at_once reads) (flat gs) is (map (number_at e d) zs) p q other x ≡ each_items (is_at_once reads) (flat gs) (t gs p q) is p q other x
picked_is reads t ms a b d [] zs gs e p q other x none k n h leaves before now = refl
picked_is reads t ms a b d (i ∷ is) [] gs e p q other x none k n h leaves before now = absurd n
picked_is reads t ms a b d (i ∷ is) (z ∷ zs) gs e p q other x none k n h leaves before now =
    let bit_one : nat_eq (number_at e d z) 1 ≡ t gs p q i.labels = ap (λ m. nat_eq m 1) (number_kept e b d z 1 k n.0 ∙ h.0 gs e p q leaves before now) ∙ bit_is (t gs p q i.labels) in
    let here : (not (is_default i.labels) && nat_eq (number_at e d z) 1) ≡ t gs p q i.labels = default_aside (is_default i.labels) (nat_eq (number_at e d z) 1) (t gs p q i.labels) bit_one (none i.labels) in
    λ j. if here j then run (is_at_once reads) (flat gs) i.body p q x else picked_is reads t ms a b d is zs gs e p q other x none k n.1 h.1 leaves before now j

-- no label of a default matches
default_unmatched : (o : Bool) (p : Place) (kind : CaseKind) (subject : Expr) (items : List CaseItem) (c d : Cycle) (labels : Labels) → is_default labels ≡ true → case_test o p kind subject items c d labels ≡ false
default_unmatched o p kind subject items c d (label.Exprs xs) h = cc
default_unmatched o p kind subject items c d label.Default h = refl

-- the items from one on, so far
pub record Picking (reads : Option (List Leaf)) (items : List CaseItem) (tests : List ℕ) (before : List Saved) (ms : List Leaf) (a : List Node) (os : List Leaf) (b : List Node) (k : ℕ) : Type 0 where
  pub keeps : Keeps a b
  pub same : declared os ≡ declared ms
  pub set : AreSet reads os b
  pub nodes : AreSaved os before b
  pub bits : AreBits items tests b
  pub items_ready : EachReadyItem (declared os) items
  pub within : k ≤ length items
  pub picks : Picks reads (drop k items) (drop k tests) before ms a os b

-- the items from place k on, by the one there and those after it
picked_from : (e : Naming) (ks : List Leaf) (a c : List Node) (o : Bool) (gs : List Signal) (items : List CaseItem) (tests : List ℕ) (k : ℕ) (d : CaseItem) (p q other : Cycle) → k < length items → k < length tests
    → AreShown e c ks (picked o (flat gs) (get_or items k d ∷ drop (k + 1) items) (number_at e a (get_or tests k 0) ∷ map (number_at e a) (drop (k + 1) tests)) p q other)
    → AreShown e c ks (picked o (flat gs) (drop k items) (map (number_at e a) (drop k tests)) p q other)
picked_from e ks a c o gs items tests k d p q other lt zlt shown =
    subst (λ (xs : List CaseItem). AreShown e c ks (picked o (flat gs) xs (map (number_at e a) (drop k tests)) p q other)) (sym (drop_at items k d lt))
    (subst (λ (ys : List ℕ). AreShown e c ks (picked o (flat gs) (get_or items k d ∷ drop (k + 1) items) (map (number_at e a) ys) p q other)) (sym (drop_at tests k 0 zlt)) shown)

pub picking_next : (reads : Option (List Leaf)) (items : List CaseItem) (tests : List ℕ) (before held : List Saved) (ms os ks : List Leaf) (a b c : List Node) (n k z : ℕ) (d : CaseItem) (body : Stmt) → n ≡ k + 1 → AreSet reads ms a → AreSaved ms before a → EachCovered ms before items → AreBits items tests a
    → Picking reads items tests before ms a os b n → is_default (get_or items k d).labels ≡ false → body ≡ (get_or items k d).body → z ≡ get_or tests k 0 → held ≡ before → Keeps b c → declared ks ≡ declared os → AreSet reads ks c → Branches reads body z held os b ks c
    → Picking reads items tests before ms a ks c k
picking_next reads items tests before held ms os ks a b c n k z d body is set nodes covers bits h labelled body_is z_is held_is keeps same set' branch = record {
  keeps = keeps_then a b c h.keeps keeps;
  same = same ∙ h.same;
  set = set';
  nodes = saved_moved os ks before b c same keeps h.nodes;
  bits = bits_kept b c items tests keeps h.bits;
  items_ready = subst (λ v. EachReadyItem v items) (sym same) h.items_ready;
  within = omega (arith, is, h.within);
  picks = λ gs e p q other leaves earlier shown now.
      let lt : k < length items = omega (arith, is, h.within) in
      let zlt : k < length tests = omega (arith, lt, bits_long items tests a bits) in
      let rest : AreShown e b os (picked (is_at_once reads) (flat gs) (drop (k + 1) items) (map (number_at e a) (drop (k + 1) tests)) p q other) =
      subst (λ m. AreShown e b os (picked (is_at_once reads) (flat gs) (drop m items) (map (number_at e a) (drop m tests)) p q other)) is (h.picks gs e p q other leaves earlier shown now) in
      let kept : AreShown e b (put_back ms before) q = shown_kept e (put_back ms before) a b q h.keeps (back_ready ms before a set.ready nodes) shown in
      let sb : AreShown e b (put_back os held) q =
      subst (λ (m : List Saved). AreShown e b (put_back os m) q) (sym held_is) (back_after e b ms os before q _ h.same kept rest
      (λ j in' away. picked_spared ms gs (is_at_once reads) (drop (k + 1) items) (map (number_at e a) (drop (k + 1) tests)) p q other (name_at ms j) leaves (spared_drop ms items (k + 1) (name_at ms j) (covers j in' away)) (sym (away_agrees e a ms before q other j shown now in' away)))) in
      let f = branch gs e p q _ (leaves_same gs ms os h.same leaves) (before_kept e reads ms a b p set h.keeps earlier) sb rest in
      let number : number_at e b z ≡ number_at e a (get_or tests k 0) = ap (number_at e b) z_is ∙ number_kept e a b (get_or tests k 0) 1 h.keeps (bit_at items tests a k 0 bits lt) in
      picked_from e ks a c (is_at_once reads) gs items tests k d p q other lt zlt
      (shown_same e ks c _ _ (λ x. λ j. if not (labelled j) && nat_eq (sym number j) 1 then run (is_at_once reads) (flat gs) (sym body_is j) p q x else picked (is_at_once reads) (flat gs) (drop (k + 1) items) (map (number_at e a) (drop (k + 1) tests)) p q other x) f);
}

-- the default is passed over
pub picking_skip : (reads : Option (List Leaf)) (items : List CaseItem) (tests : List ℕ) (before : List Saved) (ms os : List Leaf) (a b : List Node) (n k : ℕ) (d : CaseItem) → n ≡ k + 1 → AreBits items tests a
    → Picking reads items tests before ms a os b n → is_default (get_or items k d).labels ≡ true → Picking reads items tests before ms a os b k
picking_skip reads items tests before ms os a b n k d is bits h default = record {
  keeps = h.keeps;
  same = h.same;
  set = h.set;
  nodes = h.nodes;
  bits = h.bits;
  items_ready = h.items_ready;
  within = omega (arith, is, h.within);
  picks = λ gs e p q other leaves earlier shown now.
      let lt : k < length items = omega (arith, is, h.within) in
      let zlt : k < length tests = omega (arith, lt, bits_long items tests a bits) in
      let rest : AreShown e b os (picked (is_at_once reads) (flat gs) (drop (k + 1) items) (map (number_at e a) (drop (k + 1) tests)) p q other) =
      subst (λ m. AreShown e b os (picked (is_at_once reads) (flat gs) (drop m items) (map (number_at e a) (drop m tests)) p q other)) is (h.picks gs e p q other leaves earlier shown now) in
      picked_from e os a b (is_at_once reads) gs items tests k d p q other lt zlt
      (shown_same e os b _ _ (λ x. λ j. if not (default j) && nat_eq (number_at e a (get_or tests k 0)) 1 then run (is_at_once reads) (flat gs) (get_or items k d).body p q x else picked (is_at_once reads) (flat gs) (drop (k + 1) items) (map (number_at e a) (drop (k + 1) tests)) p q other x) rest);
}

pub picking_end : (reads : Option (List Leaf)) (items : List CaseItem) (tests : List ℕ) (before : List Saved) (ms os : List Leaf) (a b : List Node) (k : ℕ) → k ≡ 0 → Picking reads items tests before ms a os b k → Picks reads items tests before ms a os b
picking_end reads items tests before ms os a b k is h = subst (λ m. Picks reads (drop m items) (drop m tests) before ms a os b) is h.picks

-- ---- the default

pub default_is : (o : Bool) (place : Place) (items : List CaseItem) (k : ℕ) (d : CaseItem) (body : Stmt) (p q : Cycle) (x : Name) → IsDefaultAt items k → k < length items → body ≡ (get_or items k d).body → each_default o place items p q x ≡ run o place body p q x
default_is o place items k d body p q x at lt is =
    at.skipped o place p q x
    ∙ (ap (λ (xs : List CaseItem). each_default o place xs p q x) (drop_at items k d lt)
    ∙ (ap (λ t. if t then run o place (get_or items k d).body p q x else each_default o place (drop (k + 1) items) p q x) (at.default d lt)
    ∙ ap (λ z. run o place z p q x) (sym is)))

pub default_away : (o : Bool) (place : Place) (items : List CaseItem) (k : ℕ) (p q : Cycle) (x : Name) → IsDefaultAt items k → length items ≤ k → each_default o place items p q x ≡ q x
default_away o place items k p q x at le = at.skipped o place p q x ∙ ap (λ (xs : List CaseItem). each_default o place xs p q x) (drop_all items k le)

-- ---- a case statement

numbers_kept : (e : Naming) (a b : List Node) (is : List CaseItem) (zs : List ℕ) → Keeps a b → AreBits is zs a → map (number_at e b) zs ≡ map (number_at e a) zs
numbers_kept e a b [] [] k h = refl
numbers_kept e a b [] (z ∷ zs) k h = absurd h
numbers_kept e a b (i ∷ is) [] k h = absurd h
numbers_kept e a b (i ∷ is) (z ∷ zs) k h = λ j. number_kept e a b z 1 k h.0 j ∷ numbers_kept e a b is zs k h.1 j

-- the default, and then the items on nodes saved before it
pub joined_chooses : (reads : Option (List Leaf)) (items : List CaseItem) (zs : List ℕ) (before : List Saved) (ms os ks : List Leaf) (b d k : List Node) → AreSet reads ms b → Keeps b d → IsSaved ms before → EachCovered ms before items → declared os ≡ declared ms
    → AreBits items zs b → Runs reads (λ gs. each_default (is_at_once reads) (flat gs) items) ms b os d → Picks reads items zs before os d ks k → Chooses reads items zs ms b ks k
joined_chooses reads items zs before ms os ks b d k set bd held covers same bits default picks gs e p q leaves earlier now =
    let o = is_at_once reads in
    let other = default gs e p q leaves earlier now in
    let own : AreShown e d (put_back ms before) q = subst (λ m. AreShown e d m q) (sym (back_saved ms before held)) (shown_kept e ms b d q bd set.ready now) in
    let shown : AreShown e d (put_back os before) q =
    back_after e d ms os before q (each_default o (flat gs) items p q) same own other (λ j in' away. default_spared ms gs o items p q (name_at ms j) leaves (covers j in' away)) in
    let done = picks gs e p q (each_default o (flat gs) items p q) (leaves_same gs ms os same leaves) (before_kept e reads ms b d p set bd earlier) shown other in
    subst (λ (ns : List ℕ). AreShown e k ks (picked o (flat gs) items ns p q (each_default o (flat gs) items p q))) (numbers_kept e b d items zs bd bits) done

pub case_runs : (reads : Option (List Leaf)) (kind : CaseKind) (subject : Expr) (items : List CaseItem) (tree : Stmt) (zs : List ℕ) (ms ks : List Leaf) (a b k : List Node) → tree ≡ s.Case kind subject items → AreSet reads ms a
    → Keeps a b → AreBits items zs b → AreTests reads (λ gs. case_test (is_at_once reads) (flat gs) kind subject items) ms a b items zs → Chooses reads items zs ms b ks k → Runs reads (λ gs. run (is_at_once reads) (flat gs) tree) ms a ks k
case_runs reads kind subject items tree zs ms ks a b k is set ab bits tests chooses gs e p q leaves earlier now =
    let o = is_at_once reads in
    shown_same e ks k _ _
    (λ x. case_run o (flat gs) kind subject items tree p q x is
    ∙ sym (picked_is reads (λ g. case_test o (flat g) kind subject items) ms a b b items zs gs e p q (each_default o (flat gs) items p q) x (default_unmatched o (flat gs) kind subject items p q) (keeps_same b) bits tests leaves earlier now))
    (chooses gs e p q leaves (before_kept e reads ms a b p set ab earlier) (shown_kept e ms a b q ab set.ready now))

get_same : (items : List CaseItem) (k : ℕ) (d i : CaseItem) → k < length items → get_or items k d ≡ get_or items k i
get_same [] k d i lt = absurd (omega arith)
get_same (x ∷ xs) zero d i lt = refl
get_same (x ∷ xs) (suc k) d i lt = get_same xs k d i (omega arith)
