-- Signals that statements leave as they are.
use Rattle.std.proofs.Common.{arith, ◌≡◌, ◌≢◌, ℕ, zero, suc, ◌+◌, ◌/◌, ◌^◌, ◌<◌, Bool, true, List, [], ◌∷◌, ◌++◌, length, get_or, take, refl, sym, ap, ◌∙◌, subst}
use Rattle.std.specs.Prelude.{nat_eq, if◌then◌else◌}
use Rattle.std.specs.List.{flat_map, Contains}
use Rattle.std.proofs.lemmas.List.Elements.{All-push, Contains-push, Contains-append_left}
use Rattle.vlog_tree.specs.declared.expr.Expr.{Expr}
use Rattle.vlog_tree.specs.declared.expr.Span.{Span}
use Rattle.vlog_tree.specs.declared.stmt.CaseItem.{CaseItem}
use Rattle.vlog_tree.specs.declared.stmt.CaseKind.{CaseKind}
use Rattle.vlog_tree.specs.declared.stmt.Labels.{Labels}
use Rattle.vlog_tree.specs.declared.stmt.Lval.{Lval, items_hidden-the_row-Lval-0}
use Rattle.vlog_tree.specs.declared.stmt.Lval.TheVariants as l
use Rattle.vlog_tree.specs.declared.stmt.Lval.TheBlock.{hidden-the_row-Lval-0}
use Rattle.vlog_tree.specs.declared.stmt.Stmt.{Stmt}
use Rattle.vlog_tree.specs.declared.stmt.Stmt.TheVariants as s
use Rattle.vlog_tree.specs.declared.stmt.Stmt.TheBlock.{shape-the_row-Stmt-1, hidden-the_row-Stmt-1}
use Rattle.vlog_tree.specs.Valuation.{named, depth_of}
use Rattle.vlog_tree.specs.Value.{assigned, operand_of}
use Rattle.vlog_tree_runs.specs.declared.flat.Signal.{Signal}
use Rattle.vlog_tree_runs.specs.Places.{Name, Cycle, Piece, valuation, read, bit_piece, word_piece, pieces, total, put, give, write_bits}
use Rattle.vlog_tree_runs.specs.Blocks.{seen, is_false, run}
use Rattle.elab_step_expr.specs.declared.leaves.Leaf.{Leaf}
use Rattle.elab_step_expr.specs.Leaves.{entries}
use Rattle.elab_step_expr.proofs.Read.{depth_is}
use Rattle.elab_step_blocks.specs.declared.branches.Saved.{Saved}
use Rattle.elab_step_blocks.specs.Cases.{each_default}
use Rattle.elab_step_blocks.specs.Lefts.{IsLeafAt}
use Rattle.elab_step_blocks.specs.Runs.{each_runs}
use Rattle.elab_step_blocks.specs.Saving.{saved_at, places_of, AreWithin, IsSavedAt, IsAway}
use Rattle.elab_step_blocks.specs.Sparing.{Misses, SparesLeft, EachSparesLeft, Spares, EachSpares, ItemsSpare, Gathers}
use Rattle.elab_step_blocks.specs.Standing.{flat, Lacks, AreApart, AreLeavesOf}
use Rattle.elab_step_blocks.specs.Targets.{name_at}
use Rattle.elab_step_blocks.proofs.Giving.{other_name}
use Rattle.elab_step_blocks.proofs.Joins.{take_next}
use Rattle.elab_step_blocks.proofs.Picking.{each_items, case_run, one_of, default_spared}
use Rattle.elab_step_blocks.proofs.Saving.{places_saved}
use Rattle.elab_step_blocks.proofs.Sides.{one_entry, row_flat, name_is}
use Rattle.elab_step_blocks.proofs.Storing.{block_runs}
use denote.Hole.Carrier

-- ---- left sides

-- what the leaves are declared as in a cycle
valued_is : (gs : List Signal) (ls : List Leaf) (c : Cycle) → AreLeavesOf gs ls → valuation (flat gs) c ≡ entries (λ (l : Leaf). c l.name) ls
valued_is [] [] c k = refl
valued_is [] (l ∷ ls) c k = absurd k
valued_is (g ∷ gs) [] c k = absurd k
valued_is (g ∷ gs) (l ∷ ls) c k = λ r. one_entry g l c (c l.name) k.0 refl r ++ valued_is gs ls c k.1 r

pub spares_name : (ls : List Leaf) (y : Name) (tree : Lval) (x : Name) → tree ≡ l.Name y → y ≢ x → SparesLeft ls tree x
spares_name ls y tree x is ne gs c leaves = subst (λ z. Misses (pieces (flat gs) c z) x) (sym is) (ne, tt)

pub spares_select : (ls : List Leaf) (y : Name) (a : Expr) (tree : Lval) (x : Name) → tree ≡ l.Select y a → y ≢ x → SparesLeft ls tree x
spares_select ls y a tree x is ne gs c leaves =
    let v = valuation (flat gs) c in
    let flat_one : nat_eq (depth_of v (read y)) 0 ≡ true = ap (λ z. nat_eq (depth_of z (read y)) 0) (valued_is gs ls c leaves) ∙ ap (λ n. nat_eq n 0) (depth_is (λ (l : Leaf). c l.name) ls (read y)) in
    subst (λ z. Misses (pieces (flat gs) c z) x) (sym is)
    (subst (λ t. Misses ((if t then bit_piece y (named v (read y)) (operand_of v a) else word_piece [] y v (operand_of v a)) ∷ []) x) (sym flat_one) (ne, tt))

pub spares_part : (ls : List Leaf) (y : Name) (span : Span) (a b : Expr) (tree : Lval) (x : Name) → tree ≡ l.Part y span a b → y ≢ x → SparesLeft ls tree x
spares_part ls y span a b tree x is ne gs c leaves = subst (λ z. Misses (pieces (flat gs) c z) x) (sym is) (ne, tt)

misses_both : (ps qs : List Piece) (x : Name) → Misses ps x → Misses qs x → Misses (ps ++ qs) x
misses_both [] qs x h k = k
misses_both (p ∷ ps) qs x h k = (h.0, misses_both ps qs x h.1 k)

pub spares_concat : (ls : List Leaf) (xs ys : List Lval) (tree : Lval) (x : Name) → tree ≡ l.Concat xs → ys ≡ xs → EachSparesLeft ls ys x → SparesLeft ls tree x
spares_concat ls xs ys tree x is same h gs c leaves =
    let listed : pieces (flat gs) c tree ≡ flat_map (pieces (flat gs) c) ys =
    ap (pieces (flat gs) c) is ∙ (row_flat (flat gs) c (hidden-the_row-Lval-0 xs) ∙ ap (flat_map (pieces (flat gs) c)) (items_hidden-the_row-Lval-0 xs ∙ sym same)) in
    subst (λ qs. Misses qs x) (sym listed) (each ys h)
  where
    each : (zs : List Lval) → EachSparesLeft ls zs x → Misses (flat_map (pieces (flat gs) c) zs) x
    each [] k = tt
    each (z ∷ zs) k = misses_both (pieces (flat gs) c z) (flat_map (pieces (flat gs) c) zs) x (k.0 gs c leaves) (each zs k.1)

-- ---- statements

give_missed : (qs : List Piece) (t : ℕ) (d : Cycle) (x : Name) → Misses qs x → give qs t d x ≡ d x
give_missed [] t d x h = refl
give_missed (q ∷ qs) t d x h =
    give_missed qs t (put q (t / 2 ^ total qs) d) x h.1 ∙ ap (λ b. if b then write_bits q.size q.from q.count (t / 2 ^ total qs) (d x) else d x) (other_name q.name x h.0)

pub spares_blocking : (ls : List Leaf) (left : Lval) (right : Expr) (tree : Stmt) (x : Name) → tree ≡ s.Blocking left right → SparesLeft ls left x → Spares ls tree x
spares_blocking ls left right tree x is h gs o c d leaves =
    ap (λ z. run o (flat gs) z c d x) is ∙ give_missed (pieces (flat gs) (seen o c d) left) (assigned (valuation (flat gs) (seen o c d)) right (total (pieces (flat gs) (seen o c d) left))) d x (h gs (seen o c d) leaves)

pub spares_nonblocking : (ls : List Leaf) (left : Lval) (right : Expr) (tree : Stmt) (x : Name) → tree ≡ s.Nonblocking left right → SparesLeft ls left x → Spares ls tree x
spares_nonblocking ls left right tree x is h gs o c d leaves =
    ap (λ z. run o (flat gs) z c d x) is ∙ give_missed (pieces (flat gs) (seen o c d) left) (assigned (valuation (flat gs) (seen o c d)) right (total (pieces (flat gs) (seen o c d) left))) d x (h gs (seen o c d) leaves)

pub spares_block : (ls : List Leaf) (n : _) (xs ys : List Stmt) (tree : Stmt) (x : Name) → tree ≡ s.Block n xs → ys ≡ xs → EachSpares ls ys x → Spares ls tree x
spares_block ls n xs ys tree x is same h gs o c d leaves = block_runs o (flat gs) n xs ys tree c d x is same ∙ each ys d h
  where
    each : (zs : List Stmt) (e : Cycle) → EachSpares ls zs x → each_runs o (flat gs) zs c e x ≡ e x
    each [] e k = refl
    each (z ∷ zs) e k = each zs (run o (flat gs) z c e) k.1 ∙ k.0 gs o c e leaves

pub spares_if : (ls : List Leaf) (cond : Expr) (body tree : Stmt) (x : Name) → tree ≡ s.If cond body → Spares ls body x → Spares ls tree x
unfolding shape-the_row-Stmt-1 hidden-the_row-Stmt-1 denote.Hole.Carrier.hidden
spares_if ls cond body tree x is h gs o c d leaves =
    ap (λ z. run o (flat gs) z c d x) is ∙ one_of (is_false (flat gs) (seen o c d) cond) (d x) (run o (flat gs) body c d x) (d x) refl (h gs o c d leaves)

pub spares_if_else : (ls : List Leaf) (cond : Expr) (body other tree : Stmt) (x : Name) → tree ≡ s.IfElse cond body other → Spares ls body x → Spares ls other x → Spares ls tree x
unfolding shape-the_row-Stmt-1 hidden-the_row-Stmt-1 denote.Hole.Carrier.hidden
spares_if_else ls cond body other tree x is h g gs o c d leaves =
    ap (λ z. run o (flat gs) z c d x) is ∙ one_of (is_false (flat gs) (seen o c d) cond) (run o (flat gs) other c d x) (run o (flat gs) body c d x) (d x) (g gs o c d leaves) (h gs o c d leaves)

items_spared : (ls : List Leaf) (gs : List Signal) (o : Bool) (test : Labels → Bool) (items : List CaseItem) (c d other : Cycle) (x : Name) → AreLeavesOf gs ls → ItemsSpare ls items x → other x ≡ d x → each_items o (flat gs) test items c d other x ≡ d x
items_spared ls gs o test [] c d other x leaves h e = e
items_spared ls gs o test (i ∷ rest) c d other x leaves h e =
    one_of (test i.labels) (run o (flat gs) i.body c d x) (each_items o (flat gs) test rest c d other x) (d x) (h.0 gs o c d leaves) (items_spared ls gs o test rest c d other x leaves h.1 e)

pub spares_case : (ls : List Leaf) (kind : CaseKind) (a : Expr) (xs ys : List CaseItem) (tree : Stmt) (x : Name) → tree ≡ s.Case kind a xs → ys ≡ xs → ItemsSpare ls ys x → Spares ls tree x
spares_case ls kind a xs ys tree x is same k gs o c d leaves =
    let h : ItemsSpare ls xs x = subst (λ (zs : List CaseItem). ItemsSpare ls zs x) same k in
    case_run o (flat gs) kind a xs tree c d x is ∙ items_spared ls gs o _ xs c d (each_default o (flat gs) xs c d) x leaves h (default_spared ls gs o xs c d x leaves h)

-- ---- places that are gathered

lacks_index : (x : Name) (ls : List Leaf) (k : ℕ) → k < length ls → Lacks x ls → x ≢ name_at ls k
lacks_index x [] k lt h = absurd (omega arith)
lacks_index x (l ∷ ls) zero lt h = h.0
lacks_index x (l ∷ ls) (suc k) lt h = lacks_index x ls k (omega arith) h.1

one_place : (ls : List Leaf) (i k : ℕ) → AreApart ls → i < length ls → k < length ls → name_at ls i ≡ name_at ls k → i ≡ k
one_place [] i k h li lk e = absurd (omega arith)
one_place (l ∷ ls) zero zero h li lk e = refl
one_place (l ∷ ls) zero (suc k) h li lk e = absurd (lacks_index l.name ls k (omega arith) h.0 e)
one_place (l ∷ ls) (suc i) zero h li lk e = absurd (lacks_index l.name ls i (omega arith) h.0 (sym e))
one_place (l ∷ ls) (suc i) (suc k) h li lk e = ap suc (one_place ls i k h.1 (omega arith) (omega arith) e)

pub gathers_name : (ls : List Leaf) (y : Name) (i : ℕ) (old new : List ℕ) → AreApart ls → IsLeafAt ls y i → new ≡ old ++ i ∷ [] → Gathers ls old new (λ x. y ≢ x)
gathers_name ls y i old new apart at is = subst (λ r. Gathers ls old r (λ x. y ≢ x)) (sym is) (record {
  kept = λ k m. Contains-append_left old (i ∷ []) k m;
  within = λ w. All-push (λ j. j < length ls) old i w at.within;
  others = λ k lt away e. away (subst (λ j. Contains (old ++ i ∷ []) j) (one_place ls i k apart at.within lt (name_is ls y i at ∙ e)) (Contains-push old i));
})

pub gathers_as : (ls : List Leaf) (a b : List ℕ) (p q : Name → Type 0) → ((x : Name) → p x → q x) → Gathers ls a b p → Gathers ls a b q
gathers_as ls a b p q f h = record { kept = h.kept; within = h.within; others = λ k lt away. f (name_at ls k) (h.others k lt away) }

pub gathers_then : (ls : List Leaf) (a b c : List ℕ) (p q r : Name → Type 0) → ((x : Name) → p x → q x → r x) → Gathers ls a b p → Gathers ls b c q → Gathers ls a c r
gathers_then ls a b c p q r f h g = record {
  kept = λ k m. g.kept k (h.kept k m);
  within = λ w. g.within (h.within w);
  others = λ k lt away. f (name_at ls k) (h.others k lt (λ m. away (g.kept k m))) (g.others k lt away);
}

lefts_push : (ls : List Leaf) (xs : List Lval) (a : Lval) (x : Name) → EachSparesLeft ls xs x → SparesLeft ls a x → EachSparesLeft ls (xs ++ a ∷ []) x
lefts_push ls [] a x h k = (k, tt)
lefts_push ls (y ∷ xs) a x h k = (h.0, lefts_push ls xs a x h.1 k)

pub lefts_next : (ls : List Leaf) (xs : List Lval) (i : ℕ) (y z d : Lval) (a b c : List ℕ) → i < length xs → y ≡ get_or xs i d → z ≡ y → Gathers ls a b (EachSparesLeft ls (take i xs)) → Gathers ls b c (SparesLeft ls z)
    → Gathers ls a c (EachSparesLeft ls (take (i + 1) xs))
lefts_next ls xs i y z d a b c lt is same h g =
    subst (λ r. Gathers ls a c (EachSparesLeft ls r)) (sym (take_next xs i z d lt (same ∙ is)))
    (gathers_then ls a b c (EachSparesLeft ls (take i xs)) (SparesLeft ls z) (EachSparesLeft ls (take i xs ++ z ∷ [])) (λ x p q. lefts_push ls (take i xs) z x p q) h g)

stmts_push : (ls : List Leaf) (xs : List Stmt) (a : Stmt) (x : Name) → EachSpares ls xs x → Spares ls a x → EachSpares ls (xs ++ a ∷ []) x
stmts_push ls [] a x h k = (k, tt)
stmts_push ls (y ∷ xs) a x h k = (h.0, stmts_push ls xs a x h.1 k)

pub stmts_next : (ls : List Leaf) (xs : List Stmt) (i : ℕ) (y z d : Stmt) (a b c : List ℕ) → i < length xs → y ≡ get_or xs i d → z ≡ y → Gathers ls a b (EachSpares ls (take i xs)) → Gathers ls b c (Spares ls z)
    → Gathers ls a c (EachSpares ls (take (i + 1) xs))
stmts_next ls xs i y z d a b c lt is same h g =
    subst (λ r. Gathers ls a c (EachSpares ls r)) (sym (take_next xs i z d lt (same ∙ is)))
    (gathers_then ls a b c (EachSpares ls (take i xs)) (Spares ls z) (EachSpares ls (take i xs ++ z ∷ [])) (λ x p q. stmts_push ls (take i xs) z x p q) h g)

items_push : (ls : List Leaf) (xs : List CaseItem) (a : CaseItem) (x : Name) → ItemsSpare ls xs x → Spares ls a.body x → ItemsSpare ls (xs ++ a ∷ []) x
items_push ls [] a x h k = (k, tt)
items_push ls (y ∷ xs) a x h k = (h.0, items_push ls xs a x h.1 k)

pub items_next : (ls : List Leaf) (xs : List CaseItem) (i : ℕ) (y d : CaseItem) (z : Stmt) (a b c : List ℕ) → i < length xs → y ≡ get_or xs i d → z ≡ y.body → Gathers ls a b (ItemsSpare ls (take i xs)) → Gathers ls b c (Spares ls z)
    → Gathers ls a c (ItemsSpare ls (take (i + 1) xs))
items_next ls xs i y d z a b c lt is same h g =
    subst (λ r. Gathers ls a c (ItemsSpare ls r)) (sym (take_next xs i y d lt is))
    (gathers_then ls a b c (ItemsSpare ls (take i xs)) (Spares ls z) (ItemsSpare ls (take i xs ++ y ∷ [])) (λ x p q. items_push ls (take i xs) y x p (subst (λ w. Spares ls w x) same q)) h g)

-- ---- nodes that are saved at places

get_any : (is : List ℕ) (k a b : ℕ) → k < length is → get_or is k a ≡ get_or is k b
get_any [] k a b lt = absurd (omega arith)
get_any (i ∷ is) zero a b lt = refl
get_any (i ∷ is) (suc k) a b lt = get_any is k a b (omega arith)

pub within_by : (ls : List Leaf) (is js : List ℕ) → ((k : ℕ) → Contains js k → Contains is k) → AreWithin ls is → AreWithin ls js
within_by ls is js back w k d lt =
    let x = get_or js k d in
    let m = back x (k, lt, get_any js k x d lt) in
    subst (λ n. n < length ls) m.2 (w m.0 x m.1)

pub saved_each : (ls : List Leaf) (is js : List ℕ) (ss : List Saved) → AreWithin ls is → ((k : ℕ) → Contains js k → Contains is k) → ((k : ℕ) → Contains is k → Contains js k) → ss ≡ saved_at ls js → IsSavedAt ls is ss
saved_each ls is js ss w back forth is' =
    let places : places_of ss ≡ js = ap places_of is' ∙ places_saved ls js in
    record {
      saved = record { within = subst (λ r. AreWithin ls r) (sym places) (within_by ls is js back w); nodes = is' ∙ ap (saved_at ls) (sym places) };
      each = λ k m. subst (λ r. Contains r k) (sym places) (forth k m);
    }

pub saved_covers : (ls : List Leaf) (old is : List ℕ) (ss : List Saved) (spared : Name → Type 0) → Gathers ls old is spared → IsSavedAt ls is ss → (k : ℕ) → k < length ls → IsAway ss k → spared (name_at ls k)
saved_covers ls old is ss spared g h k lt away = g.others k lt (λ m. away (h.each k m))
