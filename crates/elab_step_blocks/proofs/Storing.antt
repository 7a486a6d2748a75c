-- Statements that are run on nodes.
use Rattle.std.proofs.Common.{arith, ◌≡◌, ℕ, zero, suc, ◌+◌, ◌<◌, ◌≤◌, Bool, true, false, List, [], ◌∷◌, length, get_or, drop, refl, sym, ap, ◌∙◌, subst, Option, Some, None}
use Rattle.std.specs.Prelude.{nat_eq, not, if◌then◌else◌}
use Rattle.std.specs.List.{Contains}
use Rattle.word_dag.specs.declared.node.Node.{Node}
use Rattle.word_dag.specs.Nodes.{Naming}
use Rattle.word_dag.specs.Adding.{Keeps}
use Rattle.vlog_tree.specs.declared.expr.Expr.{Expr}
use Rattle.vlog_tree.specs.declared.stmt.Lval.{Lval}
use Rattle.vlog_tree.specs.declared.stmt.Stmt.{Stmt, Row_of-Stmt, end_of-Stmt, more_of-Stmt, items-the_row-Stmt, items_hidden-the_row-Stmt-0}
use Rattle.vlog_tree.specs.declared.stmt.Stmt.TheVariants as s
use Rattle.vlog_tree.specs.declared.stmt.Stmt.TheBlock.{shape-the_row-Stmt-1, hidden-the_row-Stmt-1, hidden-the_row-Stmt-0}
use Rattle.vlog_tree.specs.declared.valuation.Entry.{Entry}
use Rattle.vlog_tree.specs.Value.{bit, own_value, assigned}
use Rattle.vlog_tree_runs.specs.declared.flat.Signal.{Signal}
use Rattle.vlog_tree_runs.specs.Places.{Name, Cycle, Place, valuation, pieces, total, give, store}
use Rattle.vlog_tree_runs.specs.Blocks.{seen, is_false, run, run_row}
use Rattle.elab_step_expr.specs.declared.leaves.Leaf.{Leaf}
use Rattle.elab_step_expr.specs.Leaves.{declared, valued, AreReady}
use Rattle.elab_step_expr.specs.Nodes.{number_at, words, Makes, IsNode}
use Rattle.elab_step_expr.proofs.Kept.{ready_kept, keeps_then, number_kept, made_number}
use Rattle.elab_step_blocks.specs.declared.targets.Target.{Target}
use Rattle.elab_step_blocks.specs.Standing.{flat, AreLeavesOf, AreShown, chosen}
use Rattle.elab_step_blocks.specs.declared.branches.Saved.{Saved}
use Rattle.elab_step_blocks.specs.Saving.{saved_at, places_of, put_back, IsSaved, IsAway}
use Rattle.elab_step_blocks.specs.Sparing.{Covers}
use Rattle.elab_step_blocks.specs.Targets.{name_at, pieces_of, bits_in, AreTargets, Gives}
use Rattle.elab_step_blocks.specs.Ready.{IsSingle, IsReadyStmt, AreReadyStmts, EachReadyStmt}
use Rattle.elab_step_blocks.specs.Lefts.{AreParts}
use Rattle.elab_step_blocks.specs.Runs.{seen_by, is_at_once, AreBefore, AreSet, Runs, Joins, Tests, Branches, each_runs}
use Rattle.elab_step_blocks.proofs.Joins.{shown_kept, shown_same, apart_same, leaves_same}
use Rattle.elab_step_blocks.proofs.Saving.{back_declared, back_own, back_saved, back_after, away_agrees, places_saved}
use Rattle.elab_step_blocks.proofs.Giving.{target_kept, piece_same, total_bits}
use Rattle.elab_step_blocks.proofs.Sides.{valuation_is, append_none}
use denote.Hole.Carrier

-- ---- the leaves in a dag that grows, and other leaves of their names

pub set_next : (reads : Option (List Leaf)) (ms ks : List Leaf) (a b : List Node) → AreSet reads ms a → Keeps a b → AreReady ks b → declared ks ≡ declared ms → AreSet reads ks b
set_next None ms ks a b h k r s = record { ready = r; seen = r; same = refl; apart = apart_same ms ks s h.apart }
set_next (Some es) ms ks a b h k r s = record { ready = r; seen = ready_kept es a b k h.seen; same = h.same ∙ sym s; apart = apart_same ms ks s h.apart }

pub set_kept : (reads : Option (List Leaf)) (ms : List Leaf) (a b : List Node) → AreSet reads ms a → Keeps a b → AreSet reads ms b
set_kept reads ms a b h k = set_next reads ms ms a b h k (ready_kept ms a b k h.ready) refl

pub before_kept : (e : Naming) (reads : Option (List Leaf)) (ms : List Leaf) (a b : List Node) (c : Cycle) → AreSet reads ms a → Keeps a b → AreBefore e a reads c → AreBefore e b reads c
before_kept e None ms a b c h k p = tt
before_kept e (Some es) ms a b c h k p = shown_kept e es a b c k h.seen p

pub shown_seen : (e : Naming) (reads : Option (List Leaf)) (ms : List Leaf) (a : List Node) (c d : Cycle) → AreBefore e a reads c → AreShown e a ms d → AreShown e a (seen_by reads ms) (seen (is_at_once reads) c d)
shown_seen e None ms a c d p q = q
shown_seen e (Some es) ms a c d p q = p

pub targets_moved : (es ms : List Leaf) (a b : List Node) (ts : List Target) → declared ms ≡ declared es → Keeps a b → AreTargets es a ts → AreTargets ms b ts
targets_moved es ms a b [] s k h = tt
targets_moved es ms a b (t ∷ ts) s k h = (target_kept es ms a b t s k h.0, targets_moved es ms a b ts s k h.1)

pieces_moved : (e : Naming) (es ms : List Leaf) (a b : List Node) (ts : List Target) → declared ms ≡ declared es → Keeps a b → AreTargets es a ts → pieces_of e b ms ts ≡ pieces_of e a es ts
pieces_moved e es ms a b [] s k h = refl
pieces_moved e es ms a b (t ∷ ts) s k h = λ r. piece_same e es ms a b t s k h.0.spot r ∷ pieces_moved e es ms a b ts s k h.1 r

-- ---- an assignment

pub store_runs : (reads : Option (List Leaf)) (ms ks : List Leaf) (a b c f : List Node) (left : Lval) (right : Expr) (ts : List Target) (w n : ℕ) → AreSet reads ms a → Keeps a b → AreParts (seen_by reads ms) b ts (left ∷ [])
    → w ≡ bits_in ts → Keeps b c → Makes c n w (λ e. assigned (valued (seen_by reads ms) (words e b)) right w) → Gives ts n ms c ks f
    → Runs reads (λ gs p q. store (flat gs) (seen (is_at_once reads) p q) left right q) ms a ks f
store_runs reads ms ks a b c f left right ts w n set k parts wide j made gives gs e p q leaves before now =
    let es = seen_by reads ms in
    let s = seen (is_at_once reads) p q in
    let le : AreLeavesOf gs es = leaves_same gs ms es set.same leaves in
    let sb : AreShown e b es s = shown_kept e es a b s k set.seen (shown_seen e reads ms a p q before now) in
    let pb : pieces_of e b es ts ≡ pieces (flat gs) s left = parts.pieces_are gs e s le sb ∙ append_none (pieces (flat gs) s left) in
    let pc : pieces_of e c ms ts ≡ pieces (flat gs) s left = pieces_moved e es ms b c ts (sym set.same) j parts.targets ∙ pb in
    let wt : w ≡ total (pieces (flat gs) s left) = wide ∙ total_bits e b es ts ∙ ap total pb in
    let vb : valued es (words e b) ≡ valuation (flat gs) s = sym (valuation_is gs es e b s le sb) in
    let number : number_at e c n ≡ assigned (valuation (flat gs) s) right (total (pieces (flat gs) s left)) = made_number e c n w _ made ∙ (λ r. assigned (vb r) right (wt r)) in
    shown_same e ks f _ _ (λ x. sym (λ r. give (pc r) (number r) q x)) (gives e q (shown_kept e ms a c q (keeps_then a b c k j) set.ready now))

-- ---- a choice between two runs

bit_test : (t : Bool) → nat_eq (bit t) 1 ≡ t
bit_test true = refl
bit_test false = refl

pub runs_from : (reads : Option (List Leaf)) (f : List Signal → Cycle → Cycle → Cycle) (ms ks : List Leaf) (a b c : List Node) → AreSet reads ms a → Keeps a b → Runs reads f ms b ks c → Runs reads f ms a ks c
runs_from reads f ms ks a b c set k h gs e p q leaves before now = h gs e p q leaves (before_kept e reads ms a b p set k before) (shown_kept e ms a b q k set.ready now)

pub tests_kept : (reads : Option (List Leaf)) (t : List Signal → Cycle → Cycle → Bool) (ms : List Leaf) (a b c : List Node) (z : ℕ) → IsNode b z 1 → Keeps b c → Tests reads t ms a b z → Tests reads t ms a c z
tests_kept reads t ms a b c z n k h gs e p q leaves before now = number_kept e b c z 1 k n ∙ h gs e p q leaves before now

-- a branch on what is shown with saved nodes put back
pub branch_is : (reads : Option (List Leaf)) (body : Stmt) (z : ℕ) (before others : List Saved) (ms ns os ks : List Leaf) (a c k : List Node) → AreSet reads ms a → Covers ms before body → IsNode a z 1
    → ns ≡ put_back ms before → others ≡ saved_at ms (places_of before) → Keeps a c → Runs reads (λ gs. run (is_at_once reads) (flat gs) body) ns a os c → declared os ≡ declared ms
    → Joins z others os c ks k → Branches reads body z before ms a ks k
branch_is reads body z before others ms ns os ks a c k set covers n is back ac runs same join gs e p q d leaves earlier shown now =
    let o = is_at_once reads in
    let taken = saved_at ms (places_of before) in
    let r : AreShown e c os (run o (flat gs) body p q) = runs gs e p q (leaves_same gs ms ns (ap declared is ∙ back_declared ms before) leaves) earlier (subst (λ m. AreShown e a m q) (sym is) shown) in
    let own : AreShown e c (put_back ms taken) d = subst (λ m. AreShown e c m d) (sym (back_own ms (places_of before))) (shown_kept e ms a c d ac set.ready now) in
    let other : AreShown e c (put_back os taken) d =
    back_after e c ms os taken d (run o (flat gs) body p q) same own r
    (λ i lt away. let off : IsAway before i = subst (λ (xs : List ℕ). Contains xs i → ⊥) (places_saved ms (places_of before)) away in covers i lt off gs o p q leaves ∙ away_agrees e a ms before q d i shown now lt off) in
    let f = join e (run o (flat gs) body p q) d r (subst (λ (x : List Saved). AreShown e c (put_back os x) d) (sym back) other) in
    subst (λ m. AreShown e k ks (chosen m (run o (flat gs) body p q) d)) (number_kept e a c z 1 ac n) f

-- a branch on the leaves before, after another run
pub choose_runs : (reads : Option (List Leaf)) (body : Stmt) (t : List Signal → Cycle → Cycle → Bool) (f : List Signal → Cycle → Cycle → Cycle) (ms os ks : List Leaf) (before : List Saved) (a d k : List Node) (z : ℕ) → AreSet reads ms a → Keeps a d
    → IsSaved ms before → declared os ≡ declared ms → ((gs : List Signal) (p q : Cycle) (i : ℕ) → AreLeavesOf gs ms → i < length ms → IsAway before i → f gs p q (name_at ms i) ≡ q (name_at ms i))
    → Tests reads t ms a d z → Runs reads f ms a os d → Branches reads body z before os d ks k
    → Runs reads (λ gs p q x. if t gs p q then run (is_at_once reads) (flat gs) body p q x else f gs p q x) ms a ks k
choose_runs reads body t f ms os ks before a d k z set ad saved same spared test others branch gs e p q leaves earlier now =
    let own : AreShown e d (put_back ms before) q = subst (λ m. AreShown e d m q) (sym (back_saved ms before saved)) (shown_kept e ms a d q ad set.ready now) in
    let other = others gs e p q leaves earlier now in
    let back : AreShown e d (put_back os before) q = back_after e d ms os before q (f gs p q) same own other (λ i lt away. spared gs p q i leaves lt away) in
    let b = branch gs e p q (f gs p q) (leaves_same gs ms os same leaves) (before_kept e reads ms a d p set ad earlier) back other in
    let h : nat_eq (number_at e d z) 1 ≡ t gs p q = ap (λ m. nat_eq m 1) (test gs e p q leaves earlier now) ∙ bit_test (t gs p q) in
    shown_same e ks k _ _ (λ x. ap (λ m. if m then run (is_at_once reads) (flat gs) body p q x else f gs p q x) (sym h)) b

-- the test of a condition
pub condition_tests : (reads : Option (List Leaf)) (cond : Expr) (ms : List Leaf) (a b : List Node) (z : ℕ) → AreSet reads ms a → Makes b z 1 (λ e. bit (not (nat_eq (own_value (valued (seen_by reads ms) (words e a)) cond) 0)))
    → Tests reads (λ gs p q. not (is_false (flat gs) (seen (is_at_once reads) p q) cond)) ms a b z
condition_tests reads cond ms a b z set made gs e p q leaves before now =
    let es = seen_by reads ms in
    made_number e b z 1 _ made ∙ ap (λ m. bit (not (nat_eq (own_value m cond) 0))) (sym (valuation_is gs es e a (seen (is_at_once reads) p q) (leaves_same gs ms es set.same leaves) (shown_seen e reads ms a p q before now)))

turned : (t : Bool) (x y : ℕ) → (if t then y else x) ≡ (if not t then x else y)
turned true x y = refl
turned false x y = refl

-- an `if` by its test
pub if_runs : (reads : Option (List Leaf)) (cond : Expr) (body tree : Stmt) (ms ks : List Leaf) (a b : List Node) → tree ≡ s.If cond body
    → Runs reads (λ gs p q x. if not (is_false (flat gs) (seen (is_at_once reads) p q) cond) then run (is_at_once reads) (flat gs) body p q x else q x) ms a ks b → Runs reads (λ gs. run (is_at_once reads) (flat gs) tree) ms a ks b
unfolding shape-the_row-Stmt-1 hidden-the_row-Stmt-1 denote.Hole.Carrier.hidden
if_runs reads cond body tree ms ks a b is h gs e p q leaves before now =
    shown_same e ks b _ _ (λ x. ap (λ z. run (is_at_once reads) (flat gs) z p q x) is ∙ turned (is_false (flat gs) (seen (is_at_once reads) p q) cond) (run (is_at_once reads) (flat gs) body p q x) (q x)) (h gs e p q leaves before now)

pub if_else_runs : (reads : Option (List Leaf)) (cond : Expr) (body other tree : Stmt) (ms ks : List Leaf) (a b : List Node) → tree ≡ s.IfElse cond body other
    → Runs reads (λ gs p q x. if not (is_false (flat gs) (seen (is_at_once reads) p q) cond) then run (is_at_once reads) (flat gs) body p q x else run (is_at_once reads) (flat gs) other p q x) ms a ks b
    → Runs reads (λ gs. run (is_at_once reads) (flat gs) tree) ms a ks b
unfolding shape-the_row-Stmt-1 hidden-the_row-Stmt-1 denote.Hole.Carrier.hidden
if_else_runs reads cond body other tree ms ks a b is h gs e p q leaves before now =
    shown_same e ks b _ _ (λ x. ap (λ z. run (is_at_once reads) (flat gs) z p q x) is ∙ turned (is_false (flat gs) (seen (is_at_once reads) p q) cond) (run (is_at_once reads) (flat gs) body p q x) (run (is_at_once reads) (flat gs) other p q x)) (h gs e p q leaves before now)

pub if_ready : (v : List Entry) (cond : Expr) (body tree : Stmt) → tree ≡ s.If cond body → IsReadyStmt v tree → IsSingle v cond × IsReadyStmt v body
unfolding shape-the_row-Stmt-1 hidden-the_row-Stmt-1 denote.Hole.Carrier.hidden
if_ready v cond body tree is h = rw is at h

pub if_else_ready : (v : List Entry) (cond : Expr) (body other tree : Stmt) → tree ≡ s.IfElse cond body other → IsReadyStmt v tree → IsSingle v cond × IsReadyStmt v body × IsReadyStmt v other
unfolding shape-the_row-Stmt-1 hidden-the_row-Stmt-1 denote.Hole.Carrier.hidden
if_else_ready v cond body other tree is h = rw is at h

-- ---- one statement after another

row_runs : {m : _} (o : Bool) (p : Place) (row : Row_of-Stmt m) (c d : Cycle) (x : Name) → run_row o p row c d x ≡ each_runs o p (items-the_row-Stmt m row) c d x
row_runs o p end_of-Stmt c d x = refl
row_runs o p (more_of-Stmt a rest) c d x = row_runs o p rest c (run o p a c d) x

row_ready : {m : _} (v : List Entry) (row : Row_of-Stmt m) → AreReadyStmts v row → EachReadyStmt v (items-the_row-Stmt m row)
row_ready v end_of-Stmt h = tt
row_ready v (more_of-Stmt a rest) h = (h.0, row_ready v rest h.1)

pub block_ready : (v : List Entry) (n : _) (xs : List Stmt) (tree : Stmt) → tree ≡ s.Block n xs → IsReadyStmt v tree → EachReadyStmt v xs
block_ready v n xs tree is h =
    let k : AreReadyStmts v (hidden-the_row-Stmt-0 xs) = subst (λ z. IsReadyStmt v z) is h in
    subst (λ z. EachReadyStmt v z) (items_hidden-the_row-Stmt-0 xs) (row_ready v (hidden-the_row-Stmt-0 xs) k)

pub each_ready : (v : List Entry) (xs : List Stmt) (i : ℕ) (a d : Stmt) → EachReadyStmt v xs → i < length xs → a ≡ get_or xs i d → IsReadyStmt v a
each_ready v [] i a d h lt e = absurd (omega arith)
each_ready v (x ∷ xs) zero a d h lt e = subst (λ z. IsReadyStmt v z) (sym e) h.0
each_ready v (x ∷ xs) (suc i) a d h lt e = each_ready v xs i a d h.1 (omega arith) e

pub block_runs : (o : Bool) (p : Place) (n : _) (xs ys : List Stmt) (tree : Stmt) (c d : Cycle) (x : Name) → tree ≡ s.Block n xs → ys ≡ xs → run o p tree c d x ≡ each_runs o p ys c d x
block_runs o p n xs ys tree c d x is same =
    ap (λ z. run o p z c d x) is ∙ row_runs o p (hidden-the_row-Stmt-0 xs) c d x ∙ ap (λ z. each_runs o p z c d x) (items_hidden-the_row-Stmt-0 xs ∙ sym same)

pub runs_same : (reads : Option (List Leaf)) (f g : List Signal → Cycle → Cycle → Cycle) (ms ks : List Leaf) (a b : List Node) → ((gs : List Signal) (p q : Cycle) (x : Name) → g gs p q x ≡ f gs p q x)
    → Runs reads f ms a ks b → Runs reads g ms a ks b
runs_same reads f g ms ks a b h r gs e p q leaves before now = shown_same e ks b (f gs p q) (g gs p q) (h gs p q) (r gs e p q leaves before now)

-- the statements that are left make of what is shown now what all of them make of what was shown
pub record Running (reads : Option (List Leaf)) (all rest : List Stmt) (ms : List Leaf) (a : List Node) (ks : List Leaf) (b : List Node) : Type 0 where
  pub keeps : Keeps a b
  pub set : AreSet reads ks b
  pub same : declared ks ≡ declared ms
  pub runs : (gs : List Signal) (e : Naming) (c d : Cycle) → AreLeavesOf gs ms → AreBefore e a reads c → AreShown e a ms d
      → (now : Cycle) × AreShown e b ks now × ((x : Name) → each_runs (is_at_once reads) (flat gs) all c d x ≡ each_runs (is_at_once reads) (flat gs) rest c now x)

pub running_next : (reads : Option (List Leaf)) (all rest : List Stmt) (x : Stmt) (ms ns ks : List Leaf) (a b c : List Node) → AreSet reads ms a → Running reads all (x ∷ rest) ms a ns b → Keeps b c → AreSet reads ks c → declared ks ≡ declared ns
    → Runs reads (λ gs. run (is_at_once reads) (flat gs) x) ns b ks c → Running reads all rest ms a ks c
running_next reads all rest x ms ns ks a b c set h k t s r = record {
  keeps = keeps_then a b c h.keeps k;
  set = t;
  same = s ∙ h.same;
  runs = λ gs e p q l before now.
      let old = h.runs gs e p q l before now in
      (run (is_at_once reads) (flat gs) x p old.0, r gs e p old.0 (leaves_same gs ms ns h.same l) (before_kept e reads ms a b p set h.keeps before) old.1, old.2);
}

pub running_all : (reads : Option (List Leaf)) (all : List Stmt) (ms ks : List Leaf) (a b : List Node) → Running reads all [] ms a ks b → Runs reads (λ gs. each_runs (is_at_once reads) (flat gs) all) ms a ks b
running_all reads all ms ks a b h gs e p q l before now =
    let old = h.runs gs e p q l before now in
    shown_same e ks b old.0 _ old.2 old.1

drop_at : (xs : List Stmt) (i : ℕ) (x d : Stmt) → i < length xs → x ≡ get_or xs i d → drop i xs ≡ x ∷ drop (i + 1) xs
drop_at xs i x d lt e = let n : i + 1 ≡ suc i = omega arith in next xs i lt e ∙ ap (λ k. x ∷ drop k xs) (sym n)
  where
    next : (xs : List Stmt) (i : ℕ) → i < length xs → x ≡ get_or xs i d → drop i xs ≡ x ∷ drop (suc i) xs
    next [] i lt e = absurd (omega arith)
    next (u ∷ xs) zero lt e = ap (λ k. k ∷ xs) (sym e)
    next (u ∷ xs) (suc i) lt e = next xs i (omega arith) e

drop_all : (xs : List Stmt) (i : ℕ) → length xs ≤ i → drop i xs ≡ []
drop_all [] zero le = refl
drop_all [] (suc i) le = refl
drop_all (t ∷ xs) zero le = absurd (omega arith)
drop_all (t ∷ xs) (suc i) le = drop_all xs i (omega arith)

pub running_at : (reads : Option (List Leaf)) (xs : List Stmt) (i : ℕ) (x y d : Stmt) (ms ns ks : List Leaf) (a b c : List Node) → i < length xs → x ≡ get_or xs i d → y ≡ x → AreSet reads ms a → Running reads xs (drop i xs) ms a ns b
    → Keeps b c → AreSet reads ks c → declared ks ≡ declared ns → Runs reads (λ gs. run (is_at_once reads) (flat gs) y) ns b ks c → Running reads xs (drop (i + 1) xs) ms a ks c
running_at reads xs i x y d ms ns ks a b c lt e yx set h k t s r =
    running_next reads xs (drop (i + 1) xs) x ms ns ks a b c set (subst (λ z. Running reads xs z ms a ns b) (drop_at xs i x d lt e) h) k t s
    (subst (λ z. Runs reads (λ gs. run (is_at_once reads) (flat gs) z) ns b ks c) yx r)

pub running_end : (reads : Option (List Leaf)) (xs : List Stmt) (i : ℕ) (ms ks : List Leaf) (a b : List Node) → length xs ≤ i → Running reads xs (drop i xs) ms a ks b → Runs reads (λ gs. each_runs (is_at_once reads) (flat gs) xs) ms a ks b
running_end reads xs i ms ks a b le h = running_all reads xs ms ks a b (subst (λ z. Running reads xs z ms a ks b) (drop_all xs i le) h)
