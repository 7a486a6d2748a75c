-- Leaves that show cycles.
use Rattle.std.proofs.Common.{arith, ◌≡◌, ◌≢◌, ℕ, zero, suc, ◌+◌, ◌<◌, ◌≤◌, ◌||◌, Bool, true, false, List, [], ◌∷◌, ◌++◌, None, refl, sym, ap, ◌∙◌, subst, inl, inr, ⊎_elim, map, length, get_or, take, drop, length-append, Vec, Global}
use Rattle.std.proofs.lemmas.List.{take_all}
use Rattle.std.specs.List.{flat_map}
use Rattle.std.specs.Str.{bytes_eq}
use Rattle.vlog_tree.specs.declared.item.Assign.{Assign}
use Rattle.vlog_tree.specs.declared.stmt.Stmt.{Stmt}
use Rattle.vlog_tree.specs.declared.stmt.Stmt.TheVariants as s
use Rattle.vlog_tree.specs.declared.valuation.Entry.{Entry}
use Rattle.vlog_tree_runs.specs.declared.flat.Always.{Always}
use Rattle.vlog_tree_runs.specs.declared.flat.Flat.{Flat}
use Rattle.vlog_tree_runs.specs.declared.flat.Signal.{Signal}
use Rattle.vlog_tree_runs.specs.Places.{Name, Cycle, Among, entries_of}
use Rattle.vlog_tree_runs.specs.Blocks.{run}
use Rattle.vlog_tree_runs.specs.Contents.{is_among}
use Rattle.vlog_tree_runs.specs.Cycles.{flat_place}
use Rattle.word_dag.specs.declared.node.Node.{Node}
use Rattle.word_dag.specs.Nodes.{Naming}
use Rattle.std.specs.Prelude.{◌⊎◌, if◌then◌else◌}
use Rattle.word_dag.specs.Adding.{Grows, Keeps, IsAt}
use Rattle.word_dag.proofs.Valued.{grows_kept}
use Rattle.vlog_tree.specs.Valuation.{IsLength}
use Rattle.elab_step_design.specs.Designs.{free}
use Rattle.elab_step_expr.specs.declared.leaves.Leaf.{Leaf}
use Rattle.elab_step_expr.specs.Leaves.{entry_of, declared, AreReady, AreWide, with_node}
use Rattle.elab_step_expr.specs.Nodes.{AddsFrees, IsNode, number_at}
use Rattle.elab_step_expr.proofs.Leaving.{declared_with}
use Rattle.elab_step_expr.proofs.Kept.{node_kept, number_kept, ready_kept, keeps_then, keeps_same, grows_then, frees_then, number_grown, ready_grown}
use Rattle.elab_step_blocks.specs.declared.branches.Saved.{Saved}
use Rattle.elab_step_blocks.specs.Saving.{node_at, saved_at, put_back, AreWithin, IsSaved, IsAway}
use Rattle.elab_step_blocks.specs.Targets.{name_at}
use Rattle.elab_step_blocks.specs.Sparing.{Covers}
use Rattle.elab_step_blocks.specs.Standing.{AreLeavesOf, IsLeafOf, Lacks, AreApart, AreShown}
use Rattle.elab_step_blocks.proofs.Joins.{apart_same}
use Rattle.elab_step_blocks.proofs.Saving.{back_declared, back_saved, back_after, back_ready, saved_is, saved_own}
use Rattle.elab_step_copies.proofs.Forgetting.{number_among}
use Rattle.elab_step_blocks.specs.Runs.{AreSet, Runs}
use Rattle.elab_step_laws.specs.Laws.{place_over}
use Rattle.elab_step_nets.specs.Solving.{taking, driven, settled, drivers_in, solved, processes, drivers_of, AreDistinct}
use Rattle.elab_step_copies.specs.Copies.{list_at}
use Rattle.elab_step_nets.specs.Boards.{IsBoard, IsProcess, IsBegun, AreBegun, IsFreeOf, Shows, statements, statement_at, picked, name_of, names_of, groups_of, list_in, ArePlacesOf}
use Rattle.elab_step_nets.proofs.Solving.{taken, kept}
use Rattle.elab_step_nets.proofs.Fitting.{one_entry}

-- ---- lists

module _ {X : Type 0} where
  pub take_next : (xs : List X) (i : ℕ) (x d : X) → i < length xs → x ≡ get_or xs i d → take (i + 1) xs ≡ take i xs ++ x ∷ []
  take_next xs i x d lt e = let n : i + 1 ≡ suc i = omega arith in ap (λ k. take k xs) n ∙ next xs i lt e
    where
      next : (xs : List X) (i : ℕ) → i < length xs → x ≡ get_or xs i d → take (suc i) xs ≡ take i xs ++ x ∷ []
      next [] i lt e = absurd (omega arith)
      next (t ∷ xs) zero lt e = ap (λ k. k ∷ []) (sym e)
      next (t ∷ xs) (suc i) lt e = ap (λ r. t ∷ r) (next xs i (omega arith) e)

  get_or-append_left : (xs ys : List X) (i : ℕ) (d : X) → i < length xs → get_or (xs ++ ys) i d ≡ get_or xs i d
  get_or-append_left [] ys i d l = absurd (omega arith)
  get_or-append_left (x ∷ xs) ys zero d l = refl
  get_or-append_left (x ∷ xs) ys (suc i) d l = get_or-append_left xs ys i d (omega arith)

-- ---- leaves in a dag that grows

pub shown_kept : (e : Naming) (ls : List Leaf) (a b : List Node) (c : Cycle) → Keeps a b → AreReady ls a → AreShown e a ls c → AreShown e b ls c
shown_kept e [] a b c k r h = tt
shown_kept e (l ∷ ls) a b c k r h = (h.0 ∙ sym (number_kept e a b l.node l.width k r.1), shown_kept e ls a b c k r.2 h.1)

pub set_of : (gs : List Signal) (ls : List Leaf) (ns : List Node) → IsBoard gs ls ns → AreSet None ls ns
set_of gs ls ns h = record { ready = h.ready; seen = h.ready; same = refl; apart = h.apart }

-- ---- other nodes

pub board_at : (gs : List Signal) (ls : List Leaf) (a b : List Node) (i n : ℕ) (l : Leaf) → IsBoard gs ls a → Keeps a b → i < length ls → l ≡ get_or ls i l → IsNode b n l.width → IsBoard gs (with_node ls i n) b
board_at gs ls a b i n l h k lt g node = record { leaves = leaves gs ls i h.leaves; ready = ready ls i h.ready lt g; apart = apart ls i h.apart }
  where
    leaves : (gs : List Signal) (ls : List Leaf) (i : ℕ) → AreLeavesOf gs ls → AreLeavesOf gs (with_node ls i n)
    leaves [] [] i h = tt
    leaves [] (m ∷ ls) i h = absurd h
    leaves (g ∷ gs) [] i h = absurd h
    leaves (g ∷ gs) (m ∷ ls) zero h = (record { name = h.0.name; offset = h.0.offset; width = h.0.width; low = h.0.low; signed = h.0.signed; depth = h.0.depth }, h.1)
    leaves (g ∷ gs) (m ∷ ls) (suc i) h = (h.0, leaves gs ls i h.1)

    ready : (ls : List Leaf) (i : ℕ) → AreReady ls a → i < length ls → l ≡ get_or ls i l → AreReady (with_node ls i n) b
    ready [] i r lt g = tt
    ready (m ∷ ls) zero r lt g = (r.0, subst (λ (z : Leaf). IsNode b n z.width) g node, ready_kept ls a b k r.2)
    ready (m ∷ ls) (suc i) r lt g = (r.0, node_kept a b m.node m.width k r.1, ready ls i r.2 (omega arith) g)

    lacks : (x : Name) (ls : List Leaf) (i : ℕ) → Lacks x ls → Lacks x (with_node ls i n)
    lacks x [] i h = tt
    lacks x (m ∷ ls) zero h = h
    lacks x (m ∷ ls) (suc i) h = (h.0, lacks x ls i h.1)

    apart : (ls : List Leaf) (i : ℕ) → AreApart ls → AreApart (with_node ls i n)
    apart [] i h = tt
    apart (m ∷ ls) zero h = h
    apart (m ∷ ls) (suc i) h = (lacks m.name ls i h.0, apart ls i h.1)

-- ---- leaves of the same names

pub same_leaves : (gs : List Signal) (ls ms : List Leaf) → declared ms ≡ declared ls → AreLeavesOf gs ls → AreLeavesOf gs ms
same_leaves [] [] [] e h = tt
same_leaves [] [] (m ∷ ms) e h = cc
same_leaves [] (l ∷ ls) ms e h = absurd h
same_leaves (g ∷ gs) [] ms e h = absurd h
same_leaves (g ∷ gs) (l ∷ ls) [] e h = cc
same_leaves (g ∷ gs) (l ∷ ls) (m ∷ ms) e h =
    let k : entry_of m 0 ≡ entry_of l 0 = cc in
    let t : declared ms ≡ declared ls = cc in (
      record {
        name = ap (λ (z : Entry). z.name) k ∙ h.0.name;
        offset = ap (λ (z : Entry). z.offset) k ∙ h.0.offset;
        width = ap (λ (z : Entry). z.width) k ∙ h.0.width;
        low = ap (λ (z : Entry). z.low) k ∙ h.0.low;
        signed = ap (λ (z : Entry). z.signed) k ∙ h.0.signed;
        depth = h.0.depth;
      },
      same_leaves gs ls ms t h.1,
    )

pub same_long : (ls ms : List Leaf) → declared ms ≡ declared ls → length ms ≡ length ls
same_long [] [] e = refl
same_long [] (m ∷ ms) e = cc
same_long (l ∷ ls) [] e = cc
same_long (l ∷ ls) (m ∷ ms) e = let t : declared ms ≡ declared ls = cc in ap suc (same_long ls ms t)

-- ---- values taken

pub lacks_name : (x : Name) (gs : List Signal) (ls : List Leaf) (i : ℕ) → AreLeavesOf gs ls → i < length ls → Lacks x ls → x ≢ name_of gs i
lacks_name x [] [] i h lt n = absurd (omega arith)
lacks_name x [] (l ∷ ls) i h lt n = absurd h
lacks_name x (g ∷ gs) [] i h lt n = absurd h
lacks_name x (g ∷ gs) (l ∷ ls) zero h lt n = λ e. n.0 (e ∙ sym h.0.name)
lacks_name x (g ∷ gs) (l ∷ ls) (suc i) h lt n = lacks_name x gs ls i h.1 (omega arith) n.1

-- another name
alone : (x y : Name) → x ≢ y → Among (x ∷ []) y → ⊥
alone x y n m = ⊎_elim n (λ u. u) m

pub others_shown : (e : Naming) (b : List Node) (x : Name) (d c : Cycle) (ls : List Leaf) → Lacks x ls → AreShown e b ls c → AreShown e b ls (taking (x ∷ []) d c)
others_shown e b x d c [] n h = tt
others_shown e b x d c (l ∷ ls) n h = (kept (x ∷ []) l.name d c (alone x l.name n.0) ∙ h.0, others_shown e b x d c ls n.1 h.1)

pub shown_taking : (e : Naming) (b : List Node) (d c : Cycle) (gs : List Signal) (ls : List Leaf) (i n : ℕ) → AreLeavesOf gs ls → AreApart ls → i < length ls → AreShown e b ls c → d (name_of gs i) ≡ number_at e b n → AreShown e b (with_node ls i n) (taking (name_of gs i ∷ []) d c)
shown_taking e b d c [] [] i n are apart lt h v = absurd (omega arith)
shown_taking e b d c [] (l ∷ ls) i n are apart lt h v = absurd are
shown_taking e b d c (g ∷ gs) [] i n are apart lt h v = absurd are
shown_taking e b d c (g ∷ gs) (l ∷ ls) zero n are apart lt h v = (
  subst (λ x. taking (g.name ∷ []) d c x ≡ number_at e b n) (sym are.0.name) (taken (g.name ∷ []) g.name d c (inl refl) ∙ v),
  others_shown e b g.name d c ls (subst (λ x. Lacks x ls) are.0.name apart.0) h.1,
)
shown_taking e b d c (g ∷ gs) (l ∷ ls) (suc i) n are apart lt h v = (
  kept (name_of gs i ∷ []) l.name d c (alone (name_of gs i) l.name (λ q. lacks_name l.name gs ls i are.1 (omega arith) apart.0 (sym q))) ∙ h.0,
  shown_taking e b d c gs ls i n are.1 apart.1 (omega arith) h.1 v,
)

pub shown_at : (e : Naming) (b : List Node) (c : Cycle) (gs : List Signal) (ls : List Leaf) (i : ℕ) → AreLeavesOf gs ls → i < length ls → AreShown e b ls c → c (name_of gs i) ≡ number_at e b (node_at ls i)
shown_at e b c [] [] i are lt h = absurd (omega arith)
shown_at e b c [] (l ∷ ls) i are lt h = absurd are
shown_at e b c (g ∷ gs) [] i are lt h = absurd are
shown_at e b c (g ∷ gs) (l ∷ ls) zero are lt h = ap c (sym are.0.name) ∙ h.0
shown_at e b c (g ∷ gs) (l ∷ ls) (suc i) are lt h = shown_at e b c gs ls i are.1 (omega arith) h.1

pub leaves_long : (gs : List Signal) (ls : List Leaf) → AreLeavesOf gs ls → length ls ≡ length gs
leaves_long [] [] h = refl
leaves_long [] (l ∷ ls) h = absurd h
leaves_long (g ∷ gs) [] h = absurd h
leaves_long (g ∷ gs) (l ∷ ls) h = let k = leaves_long gs ls h.1 in omega (arith, k)

-- the values of one name, and then those of others
taken_apart : (s t : Bool) (v w : ℕ) → (if (s || t) then v else w) ≡ (if t then v else (if (s || false) then v else w))
taken_apart true true v w = refl
taken_apart true false v w = refl
taken_apart false true v w = refl
taken_apart false false v w = refl

pub taking_next : (x : Name) (xs : List Name) (d c : Cycle) → taking (x ∷ xs) d c ≡ taking xs d (taking (x ∷ []) d c)
taking_next x xs d c = λ r y. taken_apart (bytes_eq x y) (is_among xs y) (d y) (c y) r

-- leaves with some nodes of others, which show d
module _ (e : Naming) (b : List Node) (d : Cycle) (gs : List Signal) (ms : List Leaf) (are : AreLeavesOf gs ms) (shown : AreShown e b ms d) where
  pub shown_nodes : (is : List ℕ) (ls : List Leaf) (c : Cycle) → declared ls ≡ declared ms → AreApart ls → ((i : ℕ) → Among is i → i < length ms) → AreShown e b ls c → AreShown e b (put_back ls (saved_at ms is)) (taking (names_of gs is) d c)
  shown_nodes [] ls c same apart within h = h
  shown_nodes (i ∷ is) ls c same apart within h =
      let lt = within i (inl refl) in
      let long = same_long ms ls same in
      let next = with_node ls i (node_at ms i) in
      let moved = declared_with ls i (node_at ms i) in
      subst (AreShown e b (put_back next (saved_at ms is))) (sym (taking_next (name_of gs i) (names_of gs is) d c))
      (shown_nodes is next (taking (name_of gs i ∷ []) d c) (moved ∙ same) (apart_same ls next moved apart) (λ j m. within j (inr m))
      (shown_taking e b d c gs ls i (node_at ms i) (same_leaves gs ms ls same are) apart (omega (arith, lt, long)) h (shown_at e b d gs ms i are lt shown)))

-- each number of a list
pub each_within : (ls : List Leaf) (is : List ℕ) → AreWithin ls is → (i : ℕ) → Among is i → i < length ls
each_within ls [] w i m = absurd m
each_within ls (j ∷ is) w i m = ⊎_elim (λ (q : j ≡ i). subst (λ z. z < length ls) q (w 0 0 (omega arith))) (λ n. each_within ls is (λ k u l. w (suc k) u (omega (arith, l))) i n) m

pub all_within : (ls : List Leaf) (is : List ℕ) → ((i : ℕ) → Among is i → i < length ls) → AreWithin ls is
all_within ls is h k u l = h (get_or is k u) (number_among is k u l)

-- where a statement has been run, and all leaves but those of some nets have their nodes back
module _ (gs : List Signal) (ls ms : List Leaf) (a b : List Node) (before : List Saved) (is : List ℕ) (board : IsBoard gs ls a) (after : IsBoard gs ms b) (same : declared ms ≡ declared ls) (keeps : Keeps a b)
    (saved : IsSaved ls before) (within : AreWithin ls is) where
  abbrev own : List Leaf
  own = put_back ms before

  moved : AreWithin ms is
  moved k u l = let w = within k u l in let n = same_long ls ms same in omega (arith, w, n)

  pub last_same : declared (put_back own (saved_at ms is)) ≡ declared ls
  last_same = back_declared own (saved_at ms is) ∙ back_declared ms before ∙ same

  own_ready : AreReady own b
  own_ready = back_ready ms before b after.ready (saved_is ls ms before b same saved (ready_kept ls a b keeps board.ready))

  pub last_board : IsBoard gs (put_back own (saved_at ms is)) b
  last_board = record {
    leaves = same_leaves gs ls (put_back own (saved_at ms is)) last_same board.leaves;
    ready = back_ready own (saved_at ms is) b own_ready (saved_own ms own is b (back_declared ms before) moved after.ready);
    apart = apart_same ls (put_back own (saved_at ms is)) last_same board.apart;
  }

  pub last_shown : (f : Cycle → Cycle) → ((i : ℕ) → i < length ls → IsAway before i → (c : Cycle) → f c (name_at ls i) ≡ c (name_at ls i)) → Shows f ls a ms b
      → Shows (λ c. taking (names_of gs is) (f c) c) ls a (put_back own (saved_at ms is)) b
  last_shown f covers shows e c h =
      let d = f c in
      let now : AreShown e b ls c = shown_kept e ls a b c keeps board.ready h in
      let there : AreShown e b ms d = shows e c h in
      shown_nodes e b d gs ms after.leaves there is own c (back_declared ms before) (apart_same ms own (back_declared ms before) after.apart) (each_within ms is moved)
      (back_after e b ls ms before c d same (subst (λ z. AreShown e b z c) (sym (back_saved ls before saved)) now) there (λ i lt away. covers i lt away c))

  pub last_shows : (k : Stmt) → Covers ls before k → Shows (λ c. run true (place_over gs) k c c) ls a ms b
      → Shows (λ c. taking (names_of gs is) (run true (place_over gs) k c c) c) ls a (put_back own (saved_at ms is)) b
  last_shows k covers shows = last_shown (λ c. run true (place_over gs) k c c) (λ i lt away c. covers i lt away gs true c c board.leaves) shows

zero_shows : (gs : List Signal) (ls : List Leaf) (a b : List Node) (i n : ℕ) → IsBoard gs ls a → Keeps a b → i < length ls → ((e : Naming) → number_at e b n ≡ 0) → Shows (taking (name_of gs i ∷ []) (λ y. 0)) ls a (with_node ls i n) b
zero_shows gs ls a b i n board keeps lt z e c h =
    shown_taking e b (λ y. 0) c gs ls i n board.leaves board.apart lt (shown_kept e ls a b c keeps board.ready h) (sym (z e))

-- ---- one after another

-- what is left, g, makes of a cycle that the later leaves show what f makes of the cycle that the earlier ones show
abbrev pub Follows : (Cycle → Cycle) → (Cycle → Cycle) → List Leaf → List Node → List Leaf → List Node → Type 0
Follows f g ls a ms b = (e : Naming) (c : Cycle) → AreShown e a ls c → (now : Cycle) × AreShown e b ms now × (g now ≡ f c)

pub follows_start : (f : Cycle → Cycle) (ls : List Leaf) (a : List Node) → Follows f f ls a ls a
follows_start f ls a e c h = (c, h, refl)

pub follows_next : (f g h : Cycle → Cycle) (ls ms ks : List Leaf) (a b d : List Node) → Follows f (λ c. g (h c)) ls a ms b → Shows h ms b ks d → Follows f g ls a ks d
follows_next f g h ls ms ks a b d s t e c q = let r = s e c q in (h r.0, t e r.0 r.1, r.2)

pub follows_end : (f : Cycle → Cycle) (ls ms : List Leaf) (a b : List Node) → Follows f (λ c. c) ls a ms b → Shows f ls a ms b
follows_end f ls ms a b s e c q = let r = s e c q in subst (λ z. AreShown e b ms z) r.2 r.1

-- ---- the names at rest

pub rest_is : (gs : List Signal) (ls : List Leaf) → AreLeavesOf gs ls → declared ls ≡ flat_map (entries_of [] (λ x. 0)) gs
rest_is [] [] h = refl
rest_is [] (l ∷ ls) h = absurd h
rest_is (g ∷ gs) [] h = absurd h
rest_is (g ∷ gs) (l ∷ ls) h =
    (λ r. record { name = h.0.name r; offset = h.0.offset r; width = h.0.width r; low = h.0.low r; signed = h.0.signed r; depth = sym h.0.depth r; value = 0 } ∷ rest_is gs ls h.1 r)
    ∙ ap (λ es. es ++ flat_map (entries_of [] (λ x. 0)) gs) (sym (one_entry g (λ x. 0) h.0.depth))

-- ---- leaves that are begun

at_grown : (a b : List Node) (i : ℕ) (n : Node) → Grows a b → IsAt a i n → IsAt b i n
at_grown a b i n k h =
    let m = k.longer in
    let l = h.0 in
    (omega (arith, m, l), subst (λ z. n ≡ get_or z i n) (sym k.more.1) (h.1 ∙ sym (get_or-append_left a k.more.0 i n l)))

pub begun_grown : (a b : List Node) (gs : List Signal) (ts : List Bool) (ls : List Leaf) → Grows a b → AreReady ls a → AreBegun a gs ts ls → AreBegun b gs ts ls
begun_grown a b [] [] [] k r h = tt
begun_grown a b [] [] (l ∷ ls) k r h = absurd h
begun_grown a b [] (t ∷ ts) ls k r h = absurd h
begun_grown a b (g ∷ gs) [] ls k r h = absurd h
begun_grown a b (g ∷ gs) (t ∷ ts) [] k r h = absurd h
begun_grown a b (g ∷ gs) (t ∷ ts) (l ∷ ls) k r h = (h.0, one t h.1, begun_grown a b gs ts ls k r.2 h.2)
  where
    one : (t : Bool) → IsBegun a g t l → IsBegun b g t l
    one true z = λ e. number_grown e a b l.node l.width k r.1 ∙ z e
    one false z = (at_grown a b l.node (free g.name g.width) k z.0, λ e. number_grown e a b l.node l.width k r.1 ∙ z.1 e)

begun_push : (ns : List Node) (gs : List Signal) (ts : List Bool) (ls : List Leaf) (g : Signal) (t : Bool) (l : Leaf) → AreBegun ns gs ts ls → IsLeafOf g l → IsBegun ns g t l → AreBegun ns (gs ++ g ∷ []) (ts ++ t ∷ []) (ls ++ l ∷ [])
begun_push ns [] [] [] g t l h k b = (k, b, tt)
begun_push ns [] [] (m ∷ ls) g t l h k b = absurd h
begun_push ns [] (u ∷ ts) ls g t l h k b = absurd h
begun_push ns (f ∷ gs) [] ls g t l h k b = absurd h
begun_push ns (f ∷ gs) (u ∷ ts) [] g t l h k b = absurd h
begun_push ns (f ∷ gs) (u ∷ ts) (m ∷ ls) g t l h k b = (h.0, h.1, begun_push ns gs ts ls g t l h.2 k b)

ready_push : (ns : List Node) (ls : List Leaf) (l : Leaf) → AreReady ls ns → IsLength l.width → IsNode ns l.node l.width → AreReady (ls ++ l ∷ []) ns
ready_push ns [] l r w n = (w, n, tt)
ready_push ns (m ∷ ls) l r w n = (r.0, r.1, ready_push ns ls l r.2 w n)

-- free words of some signals, and of one more
free_before : (gs hs : List Signal) (ts us : List Bool) (n : Node) → IsFreeOf gs ts n → IsFreeOf (gs ++ hs) (ts ++ us) n
free_before [] hs ts us n h = absurd h
free_before (g ∷ gs) hs [] us n h = absurd h
free_before (g ∷ gs) hs (true ∷ ts) us n h = free_before gs hs ts us n h
free_before (g ∷ gs) hs (false ∷ ts) us n h = elim h [ inl e ↦ inl e | inr k ↦ inr (free_before gs hs ts us n k) ]

free_last : (ns : List Node) (gs hs : List Signal) (ts us : List Bool) (ls : List Leaf) (n : Node) → AreBegun ns gs ts ls → IsFreeOf hs us n → IsFreeOf (gs ++ hs) (ts ++ us) n
free_last ns [] hs [] us [] n h k = k
free_last ns [] hs [] us (l ∷ ls) n h k = absurd h
free_last ns [] hs (t ∷ ts) us ls n h k = absurd h
free_last ns (g ∷ gs) hs [] us ls n h k = absurd h
free_last ns (g ∷ gs) hs (t ∷ ts) us [] n h k = absurd h
free_last ns (g ∷ gs) hs (true ∷ ts) us (l ∷ ls) n h k = free_last ns gs hs ts us ls n h.2 k
free_last ns (g ∷ gs) hs (false ∷ ts) us (l ∷ ls) n h k = inr (free_last ns gs hs ts us ls n h.2 k)

pub record Beginning (gs : List Signal) (ts : List Bool) (i : ℕ) (a b : List Node) (ls : List Leaf) : Type 0 where
  pub grows : Grows a b
  pub frees : AddsFrees (IsFreeOf (take i gs) (take i ts)) a b
  pub begun : AreBegun b (take i gs) (take i ts) ls
  pub ready : AreReady ls b

pub beginning : (gs : List Signal) (ts : List Bool) (i : ℕ) (a b : List Node) (ls : List Leaf) → i ≡ 0 → b ≡ a → ls ≡ [] → Beginning gs ts i a b ls
beginning gs ts i a b ls e d q = record {
  grows = subst (λ z. Grows a z) (sym d) (grows_kept a a (keeps_same a));
  frees = λ n k free at. inl (subst (λ z. IsAt z k n) d at);
  begun = subst (λ z. AreBegun b (take z gs) (take z ts) ls) (sym e) (subst (λ z. AreBegun b [] [] z) (sym q) tt);
  ready = subst (λ z. AreReady z b) (sym q) tt;
}

pub beginning_next : (gs : List Signal) (ts : List Bool) (i : ℕ) (a b d : List Node) (ls : List Leaf) (g u : Signal) (t v : Bool) (l : Leaf) → Beginning gs ts i a b ls → i < length gs → i < length ts → g ≡ get_or gs i u → t ≡ get_or ts i v → Grows b d
    → AddsFrees (IsFreeOf (g ∷ []) (t ∷ [])) b d → IsLength g.width → IsLeafOf g l → IsNode d l.node l.width → IsBegun d g t l → Beginning gs ts (i + 1) a d (ls ++ l ∷ [])
beginning_next gs ts i a b d ls g u t v l h lt mt eg et k more w is node begun =
    let es = take_next gs i g u lt eg in
    let et = take_next ts i t v mt et in
    record {
      grows = grows_then a b d h.grows k;
      frees = λ n j free at. subst (λ z. IsAt a j n ⊎ IsFreeOf z (take (i + 1) ts) n) (sym es) (subst (λ z. IsAt a j n ⊎ IsFreeOf (take i gs ++ g ∷ []) z n) (sym et) (one n (frees_then (IsFreeOf (take i gs) (take i ts)) (IsFreeOf (g ∷ []) (t ∷ [])) a b d h.frees more n j free at)));
      begun = subst (λ z. AreBegun d z (take (i + 1) ts) (ls ++ l ∷ [])) (sym es) (subst (λ z. AreBegun d (take i gs ++ g ∷ []) z (ls ++ l ∷ [])) (sym et) (begun_push d (take i gs) (take i ts) ls g t l (begun_grown b d (take i gs) (take i ts) ls k h.ready h.begun) is begun));
      ready = ready_push d ls l (ready_grown ls b d k h.ready) (subst (λ n. IsLength n) (sym is.width) w) node;
    }
  where
    one : {X : Type 0} (n : Node) → X ⊎ (IsFreeOf (take i gs) (take i ts) n ⊎ IsFreeOf (g ∷ []) (t ∷ []) n) → X ⊎ IsFreeOf (take i gs ++ g ∷ []) (take i ts ++ t ∷ []) n
    one n (inl x) = inl x
    one n (inr (inl x)) = inr (free_before (take i gs) (g ∷ []) (take i ts) (t ∷ []) n x)
    one n (inr (inr x)) = inr (free_last b (take i gs) (g ∷ []) (take i ts) (t ∷ []) ls n h.begun x)

all_begun : (gs : List Signal) (ts : List Bool) (i : ℕ) (a b : List Node) (ls : List Leaf) → Beginning gs ts i a b ls → length gs ≤ i → length ts ≤ i → AreBegun b gs ts ls
all_begun gs ts i a b ls h l m = subst (λ z. AreBegun b z ts ls) (take_all i gs l) (subst (λ z. AreBegun b (take i gs) z ls) (take_all i ts m) h.begun)

begun_leaves : (ns : List Node) (gs : List Signal) (ts : List Bool) (ls : List Leaf) → AreBegun ns gs ts ls → AreLeavesOf gs ls
begun_leaves ns [] [] [] h = tt
begun_leaves ns [] [] (l ∷ ls) h = absurd h
begun_leaves ns [] (t ∷ ts) ls h = absurd h
begun_leaves ns (g ∷ gs) [] ls h = absurd h
begun_leaves ns (g ∷ gs) (t ∷ ts) [] h = absurd h
begun_leaves ns (g ∷ gs) (t ∷ ts) (l ∷ ls) h = (h.0, begun_leaves ns gs ts ls h.2)

names_lack : (gs : List Signal) (ls : List Leaf) (x : Name) → AreLeavesOf gs ls → (Among (map (λ (g : Signal). g.name) gs) x → ⊥) → Lacks x ls
names_lack [] [] x h n = tt
names_lack [] (l ∷ ls) x h n = absurd h
names_lack (g ∷ gs) [] x h n = absurd h
names_lack (g ∷ gs) (l ∷ ls) x h n = (λ e. n (inl (sym (e ∙ h.0.name))), names_lack gs ls x h.1 (λ m. n (inr m)))

leaves_apart : (gs : List Signal) (ls : List Leaf) → AreLeavesOf gs ls → AreDistinct (map (λ (g : Signal). g.name) gs) → AreApart ls
leaves_apart [] [] h d = tt
leaves_apart [] (l ∷ ls) h d = absurd h
leaves_apart (g ∷ gs) [] h d = absurd h
leaves_apart (g ∷ gs) (l ∷ ls) h d = (subst (λ x. Lacks x ls) (sym h.0.name) (names_lack gs ls g.name h.1 d.0), leaves_apart gs ls h.1 d.1)

pub board_begun : (gs : List Signal) (ts : List Bool) (i : ℕ) (a b : List Node) (ls : List Leaf) → Beginning gs ts i a b ls → length gs ≤ i → length ts ≤ i → AreDistinct (map (λ (g : Signal). g.name) gs) → IsBoard gs ls b × AreBegun b gs ts ls
board_begun gs ts i a b ls h l m d =
    let k = all_begun gs ts i a b ls h l m in
    let are = begun_leaves b gs ts ls k in
    (record { leaves = are; ready = h.ready; apart = leaves_apart gs ls are d }, k)

pub frees_begun : (gs : List Signal) (ts : List Bool) (i : ℕ) (a b : List Node) (ls : List Leaf) → Beginning gs ts i a b ls → length gs ≤ i → length ts ≤ i → AddsFrees (IsFreeOf gs ts) a b
frees_begun gs ts i a b ls h l m = subst (λ z. AddsFrees (IsFreeOf z ts) a b) (take_all i gs l) (subst (λ z. AddsFrees (IsFreeOf (take i gs) z) a b) (take_all i ts m) h.frees)

pub signal_among : (gs : List Signal) (i : ℕ) (g u : Signal) → i < length gs → g ≡ get_or gs i u → Among gs g
signal_among [] i g u l e = absurd (omega arith)
signal_among (h ∷ gs) zero g u l e = inl (sym e)
signal_among (h ∷ gs) (suc i) g u l e = inr (signal_among gs i g u (omega arith) e)

-- ---- what runs leave

pub board_after : (gs : List Signal) (ls ms : List Leaf) (a b : List Node) → IsBoard gs ls a → declared ms ≡ declared ls → AreSet None ms b → IsBoard gs ms b
board_after gs ls ms a b h e set = record { leaves = same_leaves gs ls ms e h.leaves; ready = set.ready; apart = set.apart }

pub runs_show : (gs : List Signal) (k : Stmt) (ls ms : List Leaf) (a b : List Node) → IsBoard gs ls a → Runs None (λ hs. run true (place_over hs) k) ls a ms b → Shows (λ c. run true (place_over gs) k c c) ls a ms b
runs_show gs k ls ms a b h r e c s = r gs e c c h.leaves tt s

-- ---- statements by their places

abbrev assign_stmt : Assign → Stmt
assign_stmt a = s.Blocking a.left a.right

at_assign : (as' : List Assign) (rest : List Stmt) (i : ℕ) (a u : Assign) → i < length as' → a ≡ get_or as' i u → statement_at (map assign_stmt as' ++ rest) i ≡ assign_stmt a
at_assign [] rest i a u l e = absurd (omega arith)
at_assign (x ∷ as') rest zero a u l e = ap assign_stmt (sym e)
at_assign (x ∷ as') rest (suc i) a u l e = at_assign as' rest i a u (omega arith) e

at_block : (as' : List Assign) (ks : List Always) (i : ℕ) (k u : Always) → i < length ks → k ≡ get_or ks i u → statement_at (map assign_stmt as' ++ map (λ (z : Always). z.body) ks) (length as' + i) ≡ k.body
at_block [] ks i k u l e = let z : 0 + i ≡ i = omega arith in ap (λ n. statement_at (map (λ (z : Always). z.body) ks) n) z ∙ here ks i l e
  where
    here : (ks : List Always) (i : ℕ) → i < length ks → k ≡ get_or ks i u → statement_at (map (λ (z : Always). z.body) ks) i ≡ k.body
    here [] i l e = absurd (omega arith)
    here (x ∷ ks) zero l e = ap (λ (z : Always). z.body) (sym e)
    here (x ∷ ks) (suc i) l e = here ks i (omega arith) e
at_block (x ∷ as') ks i k u l e =
    let z : length (x ∷ as') + i ≡ suc (length as' + i) = omega arith in
    ap (λ n. statement_at (map assign_stmt (x ∷ as') ++ map (λ (z : Always). z.body) ks) n) z ∙ at_block as' ks i k u l e

pub assign_at : (f : Flat) (i : ℕ) (a u : Assign) → i < length f.assigns → a ≡ get_or f.assigns i u → assign_stmt a ≡ statement_at (statements f) i
assign_at f i a u l e = sym (at_assign f.assigns (map (λ (z : Always). z.body) f.blocks) i a u l e)

pub block_at : (f : Flat) (i : ℕ) (k u : Always) → i < length f.blocks → k ≡ get_or f.blocks i u → k.body ≡ statement_at (statements f) (length f.assigns + i)
block_at f i k u l e = sym (at_block f.assigns f.blocks i k u l e)

pub shows_at : (gs : List Signal) (j k : Stmt) (ls ms : List Leaf) (a b : List Node) → j ≡ k → Shows (λ c. run true (place_over gs) j c c) ls a ms b → Shows (λ c. run true (place_over gs) k c c) ls a ms b
shows_at gs j k ls ms a b e h = let P : Stmt → Type 0 = λ z. Shows (λ c. run true (place_over gs) z c c) ls a ms b in subst P e h

pub item_among : {X : Type 0} (xs : List X) (i : ℕ) (x u : X) → i < length xs → x ≡ get_or xs i u → Among xs x
item_among [] i x u l e = absurd (omega arith)
item_among (y ∷ xs) zero x u l e = inl (sym e)
item_among (y ∷ xs) (suc i) x u l e = inr (item_among xs i x u (omega arith) e)

pub node_long : (ls : List Leaf) (i n : ℕ) → length (with_node ls i n) ≡ length ls
node_long [] i n = refl
node_long (l ∷ ls) zero n = refl
node_long (l ∷ ls) (suc i) n = ap suc (node_long ls i n)

-- ---- nets that are 0, one after another

pub record Clearing (f : Flat) (all rest : List Name) (ls : List Leaf) (a : List Node) (ms : List Leaf) (b : List Node) : Type 0 where
  pub keeps : Keeps a b
  pub board : IsBoard f.signals ms b
  pub long : length ms ≡ length ls
  pub follows : Follows (taking all (λ y. 0)) (taking rest (λ y. 0)) ls a ms b

pub clearing_start : (f : Flat) (all : List Name) (ls : List Leaf) (a : List Node) → IsBoard f.signals ls a → Clearing f all all ls a ls a
clearing_start f all ls a h = record { keeps = keeps_same a; board = h; long = refl; follows = follows_start (taking all (λ y. 0)) ls a }

pub clearing_next : (f : Flat) (all rest : List Name) (i n : ℕ) (l : Leaf) (ls ms : List Leaf) (a b d : List Node) → Clearing f all (name_of f.signals i ∷ rest) ls a ms b → Keeps b d → i < length ms → l ≡ get_or ms i l → IsNode d n l.width
    → ((e : Naming) → number_at e d n ≡ 0) → Clearing f all rest ls a (with_node ms i n) d
clearing_next f all rest i n l ls ms a b d h keeps lt at node z =
    let x = name_of f.signals i in
    let P : (Cycle → Cycle) → Type 0 = λ g. Follows (taking all (λ y. 0)) g ls a ms b in
    let split : taking (x ∷ rest) (λ y. 0) ≡ (λ c. taking rest (λ y. 0) (taking (x ∷ []) (λ y. 0) c)) = λ r c. taking_next x rest (λ y. 0) c r in
    record {
      keeps = keeps_then a b d h.keeps keeps;
      board = board_at f.signals ms b d i n l h.board keeps lt at node;
      long = node_long ms i n ∙ h.long;
      follows = follows_next (taking all (λ y. 0)) (taking rest (λ y. 0)) (taking (x ∷ []) (λ y. 0)) ls ms (with_node ms i n) a b d (subst P split h.follows) (zero_shows f.signals ms b d i n h.board keeps lt z);
    }

-- ---- nets, statement after statement

pub record Settling (f : Flat) (all : List Stmt) (xs : List Name) (rest : List Stmt) (ls : List Leaf) (a : List Node) (ms : List Leaf) (b : List Node) : Type 0 where
  pub keeps : Keeps a b
  pub board : IsBoard f.signals ms b
  pub long : length ms ≡ length ls
  pub follows : Follows (settled (flat_place f) all xs) (driven (flat_place f) rest xs) ls a ms b

pub settling_start : (f : Flat) (all : List Stmt) (xs : List Name) (ls ms : List Leaf) (a b : List Node) → Clearing f xs [] ls a ms b → Settling f all xs all ls a ms b
settling_start f all xs ls ms a b h = record {
  keeps = h.keeps;
  board = h.board;
  long = h.long;
  follows = λ e c s. let r = h.follows e c s in (r.0, r.1, ap (driven (flat_place f) all xs) r.2);
}

pub settling_next : (f : Flat) (all : List Stmt) (xs : List Name) (k : Stmt) (rest : List Stmt) (ls ms ks : List Leaf) (a b d : List Node) → Settling f all xs (k ∷ rest) ls a ms b → Keeps b d → length ks ≡ length ms → IsBoard f.signals ks d
    → Shows (λ c. taking xs (run true (flat_place f) k c c) c) ms b ks d → Settling f all xs rest ls a ks d
settling_next f all xs k rest ls ms ks a b d h keeps long board shows = record {
  keeps = keeps_then a b d h.keeps keeps;
  board = board;
  long = long ∙ h.long;
  follows = follows_next (settled (flat_place f) all xs) (driven (flat_place f) rest xs) (λ c. taking xs (run true (flat_place f) k c c) c) ls ms ks a b d h.follows shows;
}

pub settling_end : (f : Flat) (all : List Stmt) (xs : List Name) (ls ms : List Leaf) (a b : List Node) → Settling f all xs [] ls a ms b → Shows (settled (flat_place f) all xs) ls a ms b
settling_end f all xs ls ms a b h = follows_end (settled (flat_place f) all xs) ls ms a b h.follows

-- what is left of a list of places
pub picked_at : (ks : List Stmt) (is : List ℕ) (i n u : ℕ) → i < length is → n ≡ get_or is i u → picked ks (drop i is) ≡ statement_at ks n ∷ picked ks (drop (i + 1) is)
picked_at ks is i n u lt e = let k : i + 1 ≡ suc i = omega arith in next is i lt e ∙ ap (λ z. statement_at ks n ∷ picked ks (drop z is)) (sym k)
  where
    next : (is : List ℕ) (i : ℕ) → i < length is → n ≡ get_or is i u → picked ks (drop i is) ≡ statement_at ks n ∷ picked ks (drop (suc i) is)
    next [] i lt e = absurd (omega arith)
    next (m ∷ is) zero lt e = ap (λ z. statement_at ks z ∷ picked ks is) (sym e)
    next (m ∷ is) (suc i) lt e = next is i (omega arith) e

pub picked_all : (ks : List Stmt) (is : List ℕ) (i : ℕ) → length is ≤ i → picked ks (drop i is) ≡ []
picked_all ks [] zero l = refl
picked_all ks [] (suc i) l = refl
picked_all ks (n ∷ is) zero l = absurd (omega arith)
picked_all ks (n ∷ is) (suc i) l = picked_all ks is i (omega arith)

pub leaf_wide : (ls : List Leaf) (ns : List Node) (i : ℕ) (l : Leaf) → AreReady ls ns → i < length ls → l ≡ get_or ls i l → IsLength l.width
leaf_wide [] ns i l r lt e = absurd (omega arith)
leaf_wide (m ∷ ls) ns zero l r lt e = subst (λ (z : Leaf). IsLength z.width) (sym e) r.0
leaf_wide (m ∷ ls) ns (suc i) l r lt e = leaf_wide ls ns i l r.2 (omega arith) e

-- ---- all nets

pub statements_long : (f : Flat) → length (statements f) ≡ length f.assigns + length f.blocks
statements_long f = length-append (map assign_stmt f.assigns) (map (λ (z : Always). z.body) f.blocks) ∙ (λ r. long assign_stmt f.assigns r + long (λ (z : Always). z.body) f.blocks r)
  where
    long : {X Y : Type 0} (g : X → Y) (xs : List X) → length (map g xs) ≡ length xs
    long g [] = refl
    long g (x ∷ xs) = ap suc (long g xs)

pub places_long : (f : Flat) (gs : List Signal) (vs : List (Vec ℕ Global)) → ArePlacesOf f gs vs → length vs ≡ length gs
places_long f [] [] h = refl
places_long f [] (v ∷ vs) h = absurd h
places_long f (g ∷ gs) [] h = absurd h
places_long f (g ∷ gs) (v ∷ vs) h = ap suc (places_long f gs vs h.2)

pub places_at : (f : Flat) (gs : List Signal) (vs : List (Vec ℕ Global)) (i : ℕ) → ArePlacesOf f gs vs → i < length vs
    → ((k : ℕ) → Among (list_at vs i) k → IsProcess f k) × (picked (statements f) (list_at vs i) ≡ drivers_of (processes f) (name_of gs i))
places_at f [] [] i h l = absurd (omega arith)
places_at f [] (w ∷ vs) i h l = absurd h
places_at f (g ∷ gs) [] i h l = absurd h
places_at f (g ∷ gs) (w ∷ vs) zero h l = (h.0, h.1)
places_at f (g ∷ gs) (w ∷ vs) (suc i) h l = places_at f gs vs i h.2 (omega arith)

pub list_get : (vs : List (Vec ℕ Global)) (i : ℕ) (u : Vec ℕ Global) → i < length vs → list_at vs i ≡ (get_or vs i u).items
list_get [] i u l = absurd (omega arith)
list_get (v ∷ vs) zero u l = refl
list_get (v ∷ vs) (suc i) u l = list_get vs i u (omega arith)

pub list_first : (vs : List (Vec ℕ Global)) (is : List ℕ) → 0 < length is → list_at vs (get_or is 0 0) ≡ list_in vs is
list_first vs [] l = absurd (omega arith)
list_first vs (i ∷ is) l = refl

-- the places of the statements that assign a group
pub places_in : (f : Flat) (gs : List Signal) (vs : List (Vec ℕ Global)) (is : List ℕ) → ArePlacesOf f gs vs → ((i : ℕ) → Among is i → i < length vs)
    → ((k : ℕ) → Among (list_in vs is) k → IsProcess f k) × (picked (statements f) (list_in vs is) ≡ drivers_in (processes f) (names_of gs is))
places_in f gs vs [] h w = (λ k m. absurd m, refl)
places_in f gs vs (i ∷ is) h w = places_at f gs vs i h (w i (inl refl))

pub record Solving (f : Flat) (all rest : List (List Name)) (ls : List Leaf) (a : List Node) (ms : List Leaf) (b : List Node) : Type 0 where
  pub keeps : Keeps a b
  pub board : IsBoard f.signals ms b
  pub follows : Follows (solved (flat_place f) (processes f) all) (solved (flat_place f) (processes f) rest) ls a ms b

pub solving_start : (f : Flat) (all : List (List Name)) (ls : List Leaf) (a : List Node) → IsBoard f.signals ls a → Solving f all all ls a ls a
solving_start f all ls a h = record { keeps = keeps_same a; board = h; follows = follows_start (solved (flat_place f) (processes f) all) ls a }

pub solving_next : (f : Flat) (all : List (List Name)) (xs : List Name) (rest : List (List Name)) (js : List Stmt) (ls ms ks : List Leaf) (a b d : List Node) → Solving f all (xs ∷ rest) ls a ms b → Keeps b d → IsBoard f.signals ks d
    → js ≡ drivers_in (processes f) xs → Shows (settled (flat_place f) js xs) ms b ks d → Solving f all rest ls a ks d
solving_next f all xs rest js ls ms ks a b d h keeps board e shows =
    let P : List Stmt → Type 0 = λ z. Shows (settled (flat_place f) z xs) ms b ks d in
    record {
      keeps = keeps_then a b d h.keeps keeps;
      board = board;
      follows = follows_next (solved (flat_place f) (processes f) all) (solved (flat_place f) (processes f) rest) (settled (flat_place f) (drivers_in (processes f) xs) xs) ls ms ks a b d h.follows (subst P e shows);
    }

pub solving_end : (f : Flat) (all : List (List Name)) (ls ms : List Leaf) (a b : List Node) → Solving f all [] ls a ms b → Shows (solved (flat_place f) (processes f) all) ls a ms b
solving_end f all ls ms a b h = follows_end (solved (flat_place f) (processes f) all) ls ms a b h.follows

pub group_at : (vs : List (Vec ℕ Global)) (i : ℕ) (v u : Vec ℕ Global) → i < length vs → v ≡ get_or vs i u → Among vs v
group_at [] i v u lt e = absurd (omega arith)
group_at (w ∷ vs) zero v u lt e = inl (sym e)
group_at (w ∷ vs) (suc i) v u lt e = inr (group_at vs i v u (omega arith) e)

pub groups_at : (gs : List Signal) (vs : List (Vec ℕ Global)) (i : ℕ) (v u : Vec ℕ Global) → i < length vs → v ≡ get_or vs i u → groups_of gs (drop i vs) ≡ names_of gs v.items ∷ groups_of gs (drop (i + 1) vs)
groups_at gs vs i v u lt e = let k : i + 1 ≡ suc i = omega arith in next vs i lt e ∙ ap (λ z. names_of gs v.items ∷ groups_of gs (drop z vs)) (sym k)
  where
    next : (vs : List (Vec ℕ Global)) (i : ℕ) → i < length vs → v ≡ get_or vs i u → groups_of gs (drop i vs) ≡ names_of gs v.items ∷ groups_of gs (drop (suc i) vs)
    next [] i lt e = absurd (omega arith)
    next (w ∷ vs) zero lt e = ap (λ (z : Vec ℕ Global). names_of gs z.items ∷ groups_of gs vs) (sym e)
    next (w ∷ vs) (suc i) lt e = next vs i (omega arith) e

pub groups_all : (gs : List Signal) (vs : List (Vec ℕ Global)) (i : ℕ) → length vs ≤ i → groups_of gs (drop i vs) ≡ []
groups_all gs [] zero l = refl
groups_all gs [] (suc i) l = refl
groups_all gs (v ∷ vs) zero l = absurd (omega arith)
groups_all gs (v ∷ vs) (suc i) l = groups_all gs vs i (omega arith)

pub names_at : (gs : List Signal) (is : List ℕ) (i n u : ℕ) → i < length is → n ≡ get_or is i u → names_of gs (drop i is) ≡ name_of gs n ∷ names_of gs (drop (i + 1) is)
names_at gs is i n u lt e = let k : i + 1 ≡ suc i = omega arith in next is i lt e ∙ ap (λ z. name_of gs n ∷ names_of gs (drop z is)) (sym k)
  where
    next : (is : List ℕ) (i : ℕ) → i < length is → n ≡ get_or is i u → names_of gs (drop i is) ≡ name_of gs n ∷ names_of gs (drop (suc i) is)
    next [] i lt e = absurd (omega arith)
    next (m ∷ is) zero lt e = ap (λ z. name_of gs z ∷ names_of gs is) (sym e)
    next (m ∷ is) (suc i) lt e = next is i (omega arith) e

pub names_all : (gs : List Signal) (is : List ℕ) (i : ℕ) → length is ≤ i → names_of gs (drop i is) ≡ []
names_all gs [] zero l = refl
names_all gs [] (suc i) l = refl
names_all gs (n ∷ is) zero l = absurd (omega arith)
names_all gs (n ∷ is) (suc i) l = names_all gs is i (omega arith)

pub wide_at : (ls : List Leaf) (i : ℕ) (l m : Leaf) → AreWide ls → i < length ls → l ≡ get_or ls i l → m ≡ l → IsLength m.width
wide_at ls i l m r lt e q = subst (λ (z : Leaf). IsLength z.width) (sym q) (one ls i r lt e)
  where
    one : (ls : List Leaf) (i : ℕ) → AreWide ls → i < length ls → l ≡ get_or ls i l → IsLength l.width
    one [] i r lt e = absurd (omega arith)
    one (k ∷ ls) zero r lt e = subst (λ (z : Leaf). IsLength z.width) (sym e) r.0
    one (k ∷ ls) (suc i) r lt e = one ls i r.1 (omega arith) e
