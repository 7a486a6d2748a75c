-- A left side without memories writes what the left side writes.
use Rattle.std.proofs.Common.{◌≡◌, ◌⊎◌, ℕ, suc, zero, ◌+◌, ◌%◌, ◌^◌, ◌<◌, ◌≤◌, max, ◌&&◌, Bool, true, false, nat_eq, nat_lt, List, [], ◌∷◌, ◌++◌, Option, None, sym, ap, ◌∙◌, refl, inl, inr, ⊎_elim, map, arith}
use Rattle.std.specs.Prelude.{if◌then◌else◌, pos, ◌-ℤ◌}
use Rattle.std.specs.List.{range_with_len}
use Rattle.std.proofs.Math.Nat.{mod-eq_of_lt}
use Rattle.std.proofs.lemmas.Bool.{ltb-true, ltb-false, eqb-true, eqb-false, eq-eqb, lt-ltb}
use Rattle.vlog_tree.specs.declared.expr.Expr.{Expr}
use Rattle.vlog_tree.specs.declared.expr.Name.{Name as Read}
use Rattle.vlog_tree.specs.declared.stmt.Lval.{Lval, Row_of-Lval, end_of-Lval, more_of-Lval}
use Rattle.vlog_tree.specs.declared.stmt.Lval.TheVariants as l
use Rattle.vlog_tree.specs.declared.stmt.Stmt.{Stmt, Row_of-Stmt, end_of-Stmt, more_of-Stmt, items-the_row-Stmt, items_hidden-the_row-Stmt-0}
use Rattle.vlog_tree.specs.declared.stmt.Stmt.TheVariants as s
use Rattle.vlog_tree.specs.declared.stmt.Stmt.TheBlock.{hidden-the_row-Stmt-0}
use Rattle.vlog_tree.specs.declared.valuation.Entry.{Entry}
use Rattle.vlog_tree.specs.Valuation.{named, depth_of, word_name}
use Rattle.vlog_tree.specs.Value.{Operand, operand_of, own, own_integer, own_value, bit, part_width, part_low, assigned}
use Rattle.vlog_tree_runs.specs.declared.flat.Signal.{Signal}
use Rattle.vlog_tree_runs.specs.Places.{Name, Cycle, Place, read, valuation, Piece, pieces, row_pieces, total, give, store, whole_piece, bit_piece, word_piece}
use Rattle.vlog_tree_runs.specs.Blocks.{run, run_row}
use Rattle.elab_flat_laws.proofs.Lists.{bool_cases}
use Rattle.mem_laws.specs.Spread.{is_constant, is_fixed, named_words, spread, spread_left, spread_lefts, word_store, memory_store}
use Rattle.mem_laws.specs.Laws.{Spreads, IsIndexed, over, SpreadsInto, IsPlainLeft, ArePlainLefts}
use Rattle.mem_laws.proofs.Reading.{spread_means, same_name, word_named, fixed_constant, fixed_below}
use Rattle.mem_laws.proofs.Writing.{put_nothing, give_one}
use Rattle.mem_laws.proofs.Constants.{constant_names, constant_means}

-- ---- left sides without memories

bit_of_signal : (v : List Entry) (x : Name) (a : Operand) → depth_of v (read x) ≡ 0 →
    (if nat_eq (depth_of v (read x)) 0 then bit_piece x (named v (read x)) a else word_piece [] x v a) ≡ bit_piece x (named v (read x)) a
bit_of_signal v x a h = ap (λ n. if nat_eq n 0 then bit_piece x (named v (read x)) a else word_piece [] x v a) h

mutual
  pub pieces_spread : (r : List Entry) (gs hs : List Signal) (c : Cycle) (left : Lval) → SpreadsInto r gs hs → IsPlainLeft r left →
      pieces (over hs) c (spread_left r left) ≡ pieces (over gs) c left
  pieces_spread r gs hs c (l.Name x) m d = λ q. whole_piece x (same_name r (valuation (over gs) c) (valuation (over hs) c) (m c) (read x) d q) ∷ []
  pieces_spread r gs hs c (l.Select x a) m d =
      let v = valuation (over gs) c in
      let w = valuation (over hs) c in
      let i = spread_means r v w a (m c) d.1 in
      (λ q. bit_of_signal w x (operand_of w (spread r a)) ((m c).no_memory (read x)) q ∷ [])
      ∙ ((λ q. bit_piece x (same_name r v w (m c) (read x) d.0 q) (i q) ∷ [])
      ∙ (λ q. sym (bit_of_signal v x (operand_of v a) ((m c).depths (read x) ∙ d.0)) q ∷ []))
  pieces_spread r gs hs c (l.Part x span a b) m d =
      let v = valuation (over gs) c in
      let w = valuation (over hs) c in
      let n = same_name r v w (m c) (read x) d.0 in
      let i = spread_means r v w a (m c) d.1 in
      let j = spread_means r v w b (m c) d.2 in
      λ q. record {
        name = x;
        size = (n q).width;
        from = part_low span (own_integer (i q)) (own_integer (j q)) -ℤ pos (n q).low;
        count = part_width span (own_integer (i q)) (own_integer (j q));
      } ∷ []
  pieces_spread r gs hs c (l.Concat' h row) m d = row_spread r gs hs c row m d

  row_spread : {n : _} (r : List Entry) (gs hs : List Signal) (c : Cycle) (row : Row_of-Lval n) → SpreadsInto r gs hs → ArePlainLefts r row →
      row_pieces (over hs) c (spread_lefts r row) ≡ row_pieces (over gs) c row
  row_spread r gs hs c end_of-Lval m d = refl
  row_spread r gs hs c (more_of-Lval a rest) m d = λ q. pieces_spread r gs hs c a m d.0 q ++ row_spread r gs hs c rest m d.1 q

pub store_spread : (r : List Entry) (gs hs : List Signal) (c : Cycle) (left : Lval) (right : Expr) (d : Cycle) → SpreadsInto r gs hs → IsPlainLeft r left → IsIndexed r right →
    store (over hs) c (spread_left r left) (spread r right) d ≡ store (over gs) c left right d
store_spread r gs hs c left right d m h k =
    let s = pieces_spread r gs hs c left m h in
    let a = spread_means r (valuation (over gs) c) (valuation (over hs) c) right (m c) k in
    λ q. λ (x : Name). give (s q) ((a q).value (max (a q).width (total (s q))) (a q).signed % 2 ^ total (s q)) d x

-- ---- statements one after another

abbrev pub run_list : Bool → Place → List Stmt → Cycle → Cycle → Cycle
run_list t p [] c d x = d x
run_list t p (k ∷ ks) c d x = run_list t p ks c (run t p k c d) x

row_runs : {m : _} (t : Bool) (p : Place) (row : Row_of-Stmt m) (c d : Cycle) → run_row t p row c d ≡ run_list t p (items-the_row-Stmt m row) c d
row_runs t p end_of-Stmt c d = refl
row_runs t p (more_of-Stmt a rest) c d = row_runs t p rest c (run t p a c d)

pub block_runs : (t : Bool) (p : Place) (n : Option Name) (xs : List Stmt) (c d : Cycle) → run t p (s.Block n xs) c d ≡ run_list t p xs c d
block_runs t p n xs c d = row_runs t p (hidden-the_row-Stmt-0 xs) c d ∙ ap (λ ys. run_list t p ys c d) (items_hidden-the_row-Stmt-0 xs)

-- ---- stores to words

-- one cycle where a test holds, and another one where it doesn't
abbrev where_true : Bool → Cycle → Cycle → Cycle
where_true t z d y = if t then z y else d y

abbrev unless : ℕ → Cycle → Cycle → Cycle
unless n d z y = if nat_eq n 0 then d y else z y

module _ (hs : List Signal) (c : Cycle) (x : Read) (a right : Expr) where
  -- the number of the index, and a store to word j
  index : ℕ
  index = own (operand_of (valuation (over hs) c) a)

  stored : ℕ → Cycle → Cycle
  stored j d = store (over hs) c (l.Name (word_name x j).text) right d

  tested : (t : Bool) (d z : Cycle) → unless (bit t) d z ≡ where_true t z d
  tested true d z = refl
  tested false d z = refl

  word_runs : (j : ℕ) (d : Cycle) → run false (over hs) (word_store x a right j) c d ≡ where_true (nat_eq index (j % 256)) (stored j d) d
  unfolding index stored
  word_runs j d = tested (nat_eq index (j % 256)) d (stored j d)

  word_hit : (j : ℕ) (d : Cycle) → j < 256 → index ≡ j → run false (over hs) (word_store x a right j) c d ≡ stored j d
  word_hit j d l e =
      let f : nat_eq index (j % 256) ≡ true = eq-eqb index (j % 256) (e ∙ sym (mod-eq_of_lt l)) in
      word_runs j d ∙ ap (λ t. where_true t (stored j d) d) f

  word_miss : (j : ℕ) (d : Cycle) → j < 256 → (index ≡ j → ⊥) → run false (over hs) (word_store x a right j) c d ≡ d
  word_miss j d l n =
      let f : nat_eq index (j % 256) ≡ false = ⊎_elim (λ (t : nat_eq index (j % 256) ≡ true). absurd (n (eqb-true index (j % 256) t ∙ mod-eq_of_lt l))) (λ t. t) (bool_cases (nat_eq index (j % 256))) in
      word_runs j d ∙ ap (λ t. where_true t (stored j d) d) f

  abbrev all_runs : List ℕ → Cycle → Cycle
  all_runs js d = run_list false (over hs) (map (word_store x a right) js) c d

  runs_past : (k n : ℕ) (d : Cycle) → k + n ≤ 256 → (index < k) ⊎ (k + n ≤ index) → all_runs (range_with_len k n) d ≡ d
  runs_past k zero d l h = refl
  runs_past k (suc n) d l h =
      ap (λ (z : Cycle). all_runs (range_with_len (k + 1) n) z)
      (word_miss k d (omega arith) (λ e. ⊎_elim (λ (m : index < k). omega arith) (λ (m : k + suc n ≤ index). omega arith) h))
      ∙ runs_past (k + 1) n d (omega arith) (⊎_elim (λ (m : index < k). inl (omega arith)) (λ (m : k + suc n ≤ index). inr (omega arith)) h)

  runs_at : (k n : ℕ) (d : Cycle) → k + n ≤ 256 → k ≤ index → index < k + n → all_runs (range_with_len k n) d ≡ stored index d
  runs_at k zero d l h m = absurd (omega arith)
  runs_at k (suc n) d l h m =
      ⊎_elim
      (λ (t : nat_eq index k ≡ true).
      let e : index ≡ k = eqb-true index k t in
      ap (λ (z : Cycle). all_runs (range_with_len (k + 1) n) z) (word_hit k d (omega arith) e)
      ∙ (runs_past (k + 1) n (stored k d) (omega arith) (inl (omega arith)) ∙ ap (λ j. stored j d) (sym e)))
      (λ (t : nat_eq index k ≡ false).
      let e : index ≡ k → ⊥ = eqb-false index k t in
      ap (λ (z : Cycle). all_runs (range_with_len (k + 1) n) z) (word_miss k d (omega arith) e)
      ∙ runs_at (k + 1) n d (omega arith) (omega arith) (omega arith))
      (bool_cases (nat_eq index k))

  -- ---- the words that an index names

  each_runs : (depth : ℕ) (d : Cycle) → depth ≤ 64 → (t : Bool) → nat_lt index depth ≡ t → all_runs (range_with_len 0 depth) d ≡ where_true t (stored index d) d
  each_runs depth d l true h = let m : index < depth = ltb-true index depth h in runs_at 0 depth d (omega arith) (omega arith) (omega arith)
  each_runs depth d l false h = let m : depth ≤ index = ltb-false index depth h in runs_past 0 depth d (omega arith) (inr (omega arith))

  fixed_run : (b : Expr) (depth : ℕ) (d : Cycle) → depth ≤ 64 → is_fixed depth b ≡ true → own_value [] b ≡ index →
      all_runs (own_value [] b ∷ []) d ≡ where_true (nat_lt index depth) (stored index d) d
  fixed_run b depth d l h e =
      let m : own_value [] b < depth = fixed_below depth b h in
      ap (λ j. all_runs (j ∷ []) d) e
      ∙ (word_hit index d (omega arith) refl ∙ sym (ap (λ t. where_true t (stored index d) d) (lt-ltb index depth (omega arith))))

  -- a constant past the last word
  past_run : (b : Expr) (depth : ℕ) (d : Cycle) → is_fixed depth b ≡ false → is_constant b ≡ true → own_value [] b ≡ index → d ≡ where_true (nat_lt index depth) (stored index d) d
  past_run b depth d h k e =
      let z : nat_lt index depth ≡ false = sym (λ q. k q && nat_lt (e q) depth) ∙ h in
      sym (ap (λ t. where_true t (stored index d) d) z)

  named_run : (b : Expr) (depth : ℕ) (d : Cycle) → depth ≤ 64 → (is_constant b ≡ true → own_value [] b ≡ index) → (t : Bool) → is_fixed depth b ≡ t → (u : Bool) → is_constant b ≡ u →
      all_runs (if t then own_value [] b ∷ [] else if u then [] else range_with_len 0 depth) d ≡ where_true (nat_lt index depth) (stored index d) d
  named_run b depth d l e true h u k = fixed_run b depth d l h (e (fixed_constant depth b h))
  named_run b depth d l e false h true k = past_run b depth d h k (e k)
  named_run b depth d l e false h false k = each_runs depth d l (nat_lt index depth) refl

  store_runs : (b : Expr) (depth : ℕ) (d : Cycle) → depth ≤ 64 → (is_constant b ≡ true → own_value [] b ≡ index) →
      run false (over hs) (s.Block None (map (word_store x a right) (named_words depth b))) c d ≡ where_true (nat_lt index depth) (stored index d) d
  store_runs b depth d l e =
      block_runs false (over hs) None (map (word_store x a right) (named_words depth b)) c d ∙ named_run b depth d l e (is_fixed depth b) refl (is_constant b) refl

-- ---- a store to a memory

-- what is assigned to parts
abbrev pub given : List Entry → Expr → List Piece → Cycle → Cycle
given w right ps d x = give ps (assigned w right (total ps)) d x

word_given : (r v w : List Entry) → Spreads r v w → (x : Name) (a b : Operand) (right : Expr) (d : Cycle) → b ≡ a → (t : Bool) → nat_lt (own b) (depth_of r (read x)) ≡ t →
    where_true t (given w right (whole_piece (word_name (read x) (own b)).text (named w (word_name (read x) (own b))) ∷ []) d) d
    ≡ given w right (word_piece [] x v a ∷ []) d
word_given r v w s x a b right d e true h =
    let n = s.lengths (read x) in
    let k = word_named r v w s (read x) (own b) (ltb-true (own b) (depth_of r (read x)) h) in
    let z : nat_lt (own a) (depth_of v (read x)) ≡ true = (λ q. nat_lt (own (sym e q)) (s.depths (read x) q)) ∙ h in
    let p : whole_piece (word_name (read x) (own b)).text (named w (word_name (read x) (own b))) ≡ word_piece [] x v a =
    ap (whole_piece (word_name (read x) (own b)).text) k
    ∙ (λ q. record {
      name = (word_name (read x) (own (e q))).text;
      size = (sym n ∙ sym (ap (λ (u : Bool). if u then (named v (read x)).width else 0) z)) q;
      from = pos 0;
      count = sym n q;
    }) in
    ap (λ (u : Piece). given w right (u ∷ []) d) p
word_given r v w s x a b right d e false h =
    let z : nat_lt (own a) (depth_of v (read x)) ≡ false = (λ q. nat_lt (own (sym e q)) (s.depths (read x) q)) ∙ h in
    let u = word_piece [] x v a in
    sym (give_one u (assigned w right (total (u ∷ []))) d ∙ put_nothing u (assigned w right (total (u ∷ []))) d (ap (λ (y : Bool). if y then (named v (read x)).width else 0) z))

pub memory_stored : (r : List Entry) (gs hs : List Signal) (c : Cycle) (x : Name) (a right : Expr) (d : Cycle) → SpreadsInto r gs hs → IsIndexed r a →
    run false (over hs) (memory_store r (read x) a (spread r a) right) c d
    ≡ given (valuation (over hs) c) right (word_piece [] x (valuation (over gs) c) (operand_of (valuation (over gs) c) a) ∷ []) d
unfolding index stored
memory_stored r gs hs c x a right d m h =
    let v = valuation (over gs) c in
    let w = valuation (over hs) c in
    let i = spread_means r v w a (m c) h in
    store_runs hs c (read x) (spread r a) right a (depth_of r (read x)) d ((m c).shallow (read x)) (λ t. ap own (sym (constant_means v a (constant_names a t)) ∙ sym i))
    ∙ word_given r v w (m c) x (operand_of v a) (operand_of w (spread r a)) right d i (nat_lt (own (operand_of w (spread r a))) (depth_of r (read x))) refl
