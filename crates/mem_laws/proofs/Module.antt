-- A module without faults of memories, and the one without memories: what drives, and what are registers.
use Rattle.std.proofs.Common.{◌≡◌, ◌⊎◌, ℕ, ◌+◌, ◌<◌, ◌&&◌, Bool, true, false, nat_eq, List, [], ◌∷◌, ◌++◌, sym, ap, ◌∙◌, refl, inl, inr, ⊎_elim, map, filter, subst, arith}
use Rattle.std.specs.Prelude.{if◌then◌else◌, not, cond}
use Rattle.std.specs.List.{flat_map, list_any}
use Rattle.std.specs.Str.{bytes_eq}
use Rattle.std.proofs.lemmas.Bool.{eqb-true, eqb-false}
use Rattle.std.proofs.lemmas.Slice.Eq.{bytes_eq-Decides}
use Rattle.vlog_tree.specs.declared.expr.Expr.{Expr}
use Rattle.vlog_tree.specs.declared.expr.Name.{Name as Read}
use Rattle.vlog_tree.specs.declared.item.Assign.{Assign}
use Rattle.vlog_tree.specs.declared.stmt.Lval.{Lval}
use Rattle.vlog_tree.specs.declared.stmt.Lval.TheVariants as l
use Rattle.vlog_tree.specs.declared.stmt.Stmt.{Stmt, Row_of-Stmt, end_of-Stmt, more_of-Stmt, Row_of-CaseItem, end_of-CaseItem, more_of-CaseItem}
use Rattle.vlog_tree.specs.declared.stmt.Stmt.TheVariants as s
use Rattle.vlog_tree.specs.declared.valuation.Entry.{Entry}
use Rattle.vlog_tree.specs.Valuation.{depth_of, word_name}
use Rattle.vlog_tree_runs.specs.declared.flat.Always.{Always}
use Rattle.vlog_tree_runs.specs.declared.flat.Flat.{Flat}
use Rattle.vlog_tree_runs.specs.declared.flat.Signal.{Signal}
use Rattle.vlog_tree_runs.specs.Places.{Name, Among, Place, read, holders, words_from}
use Rattle.vlog_tree_runs.specs.Blocks.{lefts, row_lefts, case_lefts, left_names}
use Rattle.vlog_tree_runs.specs.Contents.{is_among}
use Rattle.vlog_tree_runs.specs.Cycles.{flat_place, DrivesBit, DrivesWord, DrivesFull, IsRegister, IsDriven, IsClocked}
use Rattle.elab_flat_laws.proofs.Lists.{bool_cases, among_append, append_left, append_right, among_flat, flat_among, among_map, map_among}
use Rattle.elab_flat_faults.specs.Constants.{at_rest}
use Rattle.elab_flat_faults.specs.Declaring.{words_of}
use Rattle.elab_flat_faults.specs.Texts.{numbers_in, alone_in, row_alone_in, case_alone_in, compared_in, stores_in, assign_exprs, compared_exprs}
use Rattle.elab_flat_faults.specs.Drivers.{exprs_of, block_exprs}
use Rattle.elab_flat_faults.specs.ElabStands.{blocking_lefts, row_blocking_lefts, case_blocking_lefts, nonblocking_lefts, row_nonblocking_lefts, case_nonblocking_lefts}
use Rattle.mem_laws.specs.declared.fault.MemFault.TheVariants as m
use Rattle.mem_laws.specs.Spread.{spread_left, spread_stmt, spread_assign, spread_block, assigned_in, idle_words, keeper, spread_flat}
use Rattle.mem_laws.specs.Laws.{IsIndexed, SpreadsInto, IsPlainLeft, IsIndexedLeft, IsSpreadable, CanSpread}
use Rattle.mem_laws.specs.Stands.{IsFaultless}
use Rattle.mem_laws.specs.Uses.{is_memory, whole_in, whole_lefts, lefts_of}
use Rattle.mem_laws.proofs.Finding.{word, word_named, words_at, AreSpreadable, is_deep, spreads_into}
use Rattle.mem_laws.proofs.Names.{names, IsWord, holder_is, holder_plain, plain_held, word_held, words_numbered, no_word, word_apart, depth_plain, is_among_true, among_is_true}
use Rattle.mem_laws.proofs.Lefts.{store_lefts, plain_lefts, lefts_spread}
use Rattle.mem_laws.proofs.Assigning.{left_to, left_from, name_kept, name_of, NamesWord}
use Rattle.mem_laws.proofs.Asking.{plain_indexed, plain_asked, indexed_asked, spreadable}

-- ---- lists

any_true : {X : Type 0} (test : X → Bool) (xs : List X) (x : X) → Among xs x → test x ≡ true → list_any test xs ≡ true
any_true test [] x m h = absurd m
any_true test (y ∷ ys) x m h =
    ⊎_elim (λ (i : y ≡ x). let t : test y ≡ true = ap test i ∙ h in rw t refl)
    (λ n. ⊎_elim (λ (t : test y ≡ true). rw t refl) (λ (t : test y ≡ false). rw t (any_true test ys x n h)) (bool_cases (test y))) m

filter_in : (test : Name → Bool) (xs : List Name) (x : Name) → Among xs x → test x ≡ true → Among (filter test xs) x
filter_in test [] x m h = absurd m
filter_in test (y ∷ ys) x m h = by (λ n. filter_in test ys x n h) (test y) refl m
  where
    by : (Among ys x → Among (filter test ys) x) → (t : Bool) → test y ≡ t → (y ≡ x) ⊎ Among ys x → Among (cond t (y ∷ filter test ys) (filter test ys)) x
    by rest true t k = ⊎_elim (λ (e : y ≡ x). inl e) (λ n. inr (rest n)) k
    by rest false t k = ⊎_elim (λ (e : y ≡ x). let z : test x ≡ false = ap test (sym e) ∙ t in let no : ⊥ = cc in absurd no) rest k

filter_out : (test : Name → Bool) (xs : List Name) (x : Name) → Among (filter test xs) x → Among xs x × (test x ≡ true)
filter_out test [] x m = absurd m
filter_out test (y ∷ ys) x m = by (filter_out test ys x) (test y) refl m
  where
    by : (Among (filter test ys) x → Among ys x × (test x ≡ true)) → (t : Bool) → test y ≡ t → Among (cond t (y ∷ filter test ys) (filter test ys)) x →
        ((y ≡ x) ⊎ Among ys x) × (test x ≡ true)
    by rest true t k = ⊎_elim (λ (e : y ≡ x). (inl e, ap test (sym e) ∙ t)) (λ n. let r = rest n in (inr r.0, r.1)) k
    by rest false t k = let r = rest k in (inr r.0, r.1)

-- ---- the left sides of a statement are of two kinds

mutual
  early_or_late : (body : Stmt) (left : Lval) → Among (lefts body) left → Among (blocking_lefts body) left ⊎ Among (nonblocking_lefts body) left
  early_or_late s.Empty left h = absurd h
  early_or_late (s.Block' n g row) left h = row_early_or_late row left h
  early_or_late (s.If' a g (more_of-Stmt x end_of-Stmt)) left h = early_or_late x left h
  early_or_late (s.IfElse' a g (more_of-Stmt x end_of-Stmt) f (more_of-Stmt y end_of-Stmt)) left h =
      ⊎_elim
      (λ k. ⊎_elim (λ j. inl (append_left (blocking_lefts x) (blocking_lefts y) left j)) (λ j. inr (append_left (nonblocking_lefts x) (nonblocking_lefts y) left j)) (early_or_late x left k))
      (λ k. ⊎_elim (λ j. inl (append_right (blocking_lefts x) (blocking_lefts y) left j)) (λ j. inr (append_right (nonblocking_lefts x) (nonblocking_lefts y) left j)) (early_or_late y left k))
      (among_append (lefts x) (lefts y) left h)
  early_or_late (s.Case' kind a g row) left h = case_early_or_late row left h
  early_or_late (s.Blocking x y) left h = inl h
  early_or_late (s.Nonblocking x y) left h = inr h

  row_early_or_late : {n : _} (row : Row_of-Stmt n) (left : Lval) → Among (row_lefts row) left → Among (row_blocking_lefts row) left ⊎ Among (row_nonblocking_lefts row) left
  row_early_or_late end_of-Stmt left h = absurd h
  row_early_or_late (more_of-Stmt a rest) left h =
      ⊎_elim
      (λ k. ⊎_elim (λ j. inl (append_left (blocking_lefts a) (row_blocking_lefts rest) left j)) (λ j. inr (append_left (nonblocking_lefts a) (row_nonblocking_lefts rest) left j)) (early_or_late a left k))
      (λ k. ⊎_elim (λ j. inl (append_right (blocking_lefts a) (row_blocking_lefts rest) left j)) (λ j. inr (append_right (nonblocking_lefts a) (row_nonblocking_lefts rest) left j)) (row_early_or_late rest left k))
      (among_append (lefts a) (row_lefts rest) left h)

  case_early_or_late : {n : _} (row : Row_of-CaseItem n) (left : Lval) → Among (case_lefts row) left → Among (case_blocking_lefts row) left ⊎ Among (case_nonblocking_lefts row) left
  case_early_or_late end_of-CaseItem left h = absurd h
  case_early_or_late (more_of-CaseItem labels body rest) left h =
      ⊎_elim
      (λ k. ⊎_elim (λ j. inl (append_left (blocking_lefts body) (case_blocking_lefts rest) left j)) (λ j. inr (append_left (nonblocking_lefts body) (case_nonblocking_lefts rest) left j)) (early_or_late body left k))
      (λ k. ⊎_elim (λ j. inl (append_right (blocking_lefts body) (case_blocking_lefts rest) left j)) (λ j. inr (append_right (nonblocking_lefts body) (case_nonblocking_lefts rest) left j)) (case_early_or_late rest left k))
      (among_append (lefts body) (case_lefts rest) left h)

-- the numbers of a left side stand by themselves
mutual
  numbers_alone : (body : Stmt) (left : Lval) → Among (lefts body) left → (x : Expr) → Among (numbers_in left) x → Among (alone_in body) x
  numbers_alone s.Empty left h x n = absurd h
  numbers_alone (s.Block' m g row) left h x n = row_numbers_alone row left h x n
  numbers_alone (s.If' a g (more_of-Stmt y end_of-Stmt)) left h x n = inr (numbers_alone y left h x n)
  numbers_alone (s.IfElse' a g (more_of-Stmt y end_of-Stmt) f (more_of-Stmt z end_of-Stmt)) left h x n =
      inr (⊎_elim (λ k. append_left (alone_in y) (alone_in z) x (numbers_alone y left k x n)) (λ k. append_right (alone_in y) (alone_in z) x (numbers_alone z left k x n))
      (among_append (lefts y) (lefts z) left h))
  numbers_alone (s.Case' kind a g row) left h x n = case_numbers_alone row left h x n
  numbers_alone (s.Blocking y z) left h x n = ⊎_elim (λ (e : y ≡ left). subst (λ u. Among (numbers_in u) x) (sym e) n) (λ k. absurd k) h
  numbers_alone (s.Nonblocking y z) left h x n = ⊎_elim (λ (e : y ≡ left). subst (λ u. Among (numbers_in u) x) (sym e) n) (λ k. absurd k) h

  row_numbers_alone : {m : _} (row : Row_of-Stmt m) (left : Lval) → Among (row_lefts row) left → (x : Expr) → Among (numbers_in left) x → Among (row_alone_in row) x
  row_numbers_alone end_of-Stmt left h x n = absurd h
  row_numbers_alone (more_of-Stmt a rest) left h x n =
      ⊎_elim (λ k. append_left (alone_in a) (row_alone_in rest) x (numbers_alone a left k x n)) (λ k. append_right (alone_in a) (row_alone_in rest) x (row_numbers_alone rest left k x n))
      (among_append (lefts a) (row_lefts rest) left h)

  case_numbers_alone : {m : _} (row : Row_of-CaseItem m) (left : Lval) → Among (case_lefts row) left → (x : Expr) → Among (numbers_in left) x → Among (case_alone_in row) x
  case_numbers_alone end_of-CaseItem left h x n = absurd h
  case_numbers_alone (more_of-CaseItem labels body rest) left h x n =
      ⊎_elim (λ k. append_left (alone_in body) (case_alone_in rest) x (numbers_alone body left k x n)) (λ k. append_right (alone_in body) (case_alone_in rest) x (case_numbers_alone rest left k x n))
      (among_append (lefts body) (case_lefts rest) left h)

-- ---- holders

pub plain_holder : (g w : Signal) → nat_eq g.depth 0 ≡ true → Among (holders g) w → g ≡ w
plain_holder g w t h =
    let k : Among (g ∷ []) w = subst (λ (b : Bool). Among (if b then g ∷ [] else words_from g 0 g.depth) w) t h in ⊎_elim (λ e. e) (λ z. absurd z) k

deep_holder : (g w : Signal) → nat_eq g.depth 0 ≡ false → Among (holders g) w → (j : ℕ) × (j < g.depth) × (word g j ≡ w)
deep_holder g w t h =
    let k : Among (words_from g 0 g.depth) w = subst (λ (b : Bool). Among (if b then g ∷ [] else words_from g 0 g.depth) w) t h in
    let r = words_numbered g 0 g.depth w k in
    (r.0, omega (arith, r.1), r.2)

pub own_holder : (g : Signal) → nat_eq g.depth 0 ≡ true → Among (holders g) g
own_holder g t = subst (λ (b : Bool). Among (if b then g ∷ [] else words_from g 0 g.depth) g) (sym t) (inl refl)

word_holder : (g : Signal) (j : ℕ) → nat_eq g.depth 0 ≡ false → j < g.depth → Among (holders g) (word g j)
word_holder g j t l =
    let z : 0 + j ≡ j = omega arith in
    subst (λ (b : Bool). Among (if b then g ∷ [] else words_from g 0 g.depth) (word g j)) (sym t) (subst (λ i. Among (words_from g 0 g.depth) (word g i)) z (words_at g 0 j g.depth l))

-- a word of a memory, by its name
pub record IsWordNamed (gs : List Signal) (x : Name) : Type 0 where
  pub memory : Signal
  pub among : Among gs memory
  pub deep : nat_eq memory.depth 0 ≡ false
  pub index : ℕ
  pub below : index < memory.depth
  pub is : (word_name (read memory.name) index).text ≡ x

module _ (f : Flat) (can : CanSpread f) (fine : IsFaultless f) where
  abbrev gs : List Signal
  gs = f.signals

  abbrev rest : List Entry
  rest = at_rest (flat_place f)

  abbrev old : Place
  old = flat_place f

  abbrev new : Place
  new = flat_place (spread_flat f)

  pub asked : AreSpreadable f.signals
  asked = record { wide = can.wide; shallow = can.shallow; once = λ y w h. fine (m.Twice y) (w, h) }

  pub into : SpreadsInto (at_rest (flat_place f)) f.signals (flat_map holders f.signals)
  into = spreads_into f.signals asked

  -- ---- memories

  memory_named : (x : Read) → (depth_of rest x ≡ 0 → ⊥) → is_memory f x.text ≡ true
  memory_named x n =
      let d = is_deep gs (λ z. 0) x n in
      let e : d.signal.name ≡ x.text = ap (λ (y : Read). y.text) (sym d.name) in
      let b : bytes_eq d.signal.name x.text ≡ true = (bytes_eq-Decides d.signal.name x.text).1 e in
      let t : not (nat_eq d.signal.depth 0) ≡ true = ap not d.deep in
      any_true (λ g. bytes_eq g.name x.text && not (nat_eq g.depth 0)) gs d.signal d.among (λ q. b q && t q)

  memory_true : (g : Signal) → Among f.signals g → nat_eq g.depth 0 ≡ false → is_memory f g.name ≡ true
  memory_true g h t =
      let b : bytes_eq g.name g.name ≡ true = (bytes_eq-Decides g.name g.name).1 refl in
      let u : not (nat_eq g.depth 0) ≡ true = ap not t in
      any_true (λ k. bytes_eq k.name g.name && not (nat_eq k.depth 0)) gs g h (λ q. b q && u q)

  no_memory : (x : Read) → (is_memory f x.text ≡ true → ⊥) → depth_of rest x ≡ 0
  no_memory x n =
      ⊎_elim (λ (t : nat_eq (depth_of rest x) 0 ≡ true). eqb-true (depth_of rest x) 0 t)
      (λ (t : nat_eq (depth_of rest x) 0 ≡ false). absurd (n (memory_named x (eqb-false (depth_of rest x) 0 t))))
      (bool_cases (nat_eq (depth_of rest x) 0))

  -- ---- texts

  expr_indexed : (a : Expr) → Among (exprs_of f) a → IsIndexed rest a
  expr_indexed a h x k =
      no_memory x (λ t. fine (m.Whole x.text) (
        t,
        append_left (flat_map whole_in (exprs_of f) ++ flat_map whole_lefts (lefts_of f)) _ x.text
            (append_left (flat_map whole_in (exprs_of f)) (flat_map whole_lefts (lefts_of f)) x.text (flat_among whole_in (exprs_of f) a x.text h k)),
      ))

  left_whole : (left : Lval) → Among (lefts_of f) left → (y : Name) → Among (whole_lefts left) y → depth_of rest (read y) ≡ 0
  left_whole left h y k =
      no_memory (read y) (λ t. fine (m.Whole y) (
        t,
        append_left (flat_map whole_in (exprs_of f) ++ flat_map whole_lefts (lefts_of f)) _ y
            (append_right (flat_map whole_in (exprs_of f)) (flat_map whole_lefts (lefts_of f)) y (flat_among whole_lefts (lefts_of f) left y h k)),
      ))

  assign_left : (a : Assign) → Among f.assigns a → Among (lefts_of f) a.left
  assign_left a h = append_left (map (λ (z : Assign). z.left) f.assigns) _ a.left (map_among (λ (z : Assign). z.left) f.assigns a h)

  block_left : (k : Always) (left : Lval) → Among f.blocks k → Among (lefts k.body) left → Among (lefts_of f) left
  block_left k left h n =
      append_right (map (λ (z : Assign). z.left) f.assigns) (flat_map (λ (z : Always). lefts z.body) f.blocks) left (flat_among (λ (z : Always). lefts z.body) f.blocks k left h n)

  assign_indexed : (a : Assign) → Among f.assigns a → (x : Expr) → Among (assign_exprs a) x → IsIndexed rest x
  assign_indexed a h x n = expr_indexed x (append_left (flat_map assign_exprs f.assigns) (flat_map block_exprs f.blocks) x (flat_among assign_exprs f.assigns a x h n))

  block_indexed : (k : Always) → Among f.blocks k → (x : Expr) → Among (block_exprs k) x → IsIndexed rest x
  block_indexed k h x n = expr_indexed x (append_right (flat_map assign_exprs f.assigns) (flat_map block_exprs f.blocks) x (flat_among block_exprs f.blocks k x h n))

  -- a continuous assignment assigns no memory
  pub assign_plain : (a : Assign) → Among f.assigns a → IsPlainLeft (at_rest (flat_place f)) a.left
  assign_plain a h =
      plain_asked rest a.left (λ x n. assign_indexed a h x (append_left (numbers_in a.left) (a.right ∷ []) x n)) (left_whole a.left (assign_left a h))
      (λ y n. no_memory (read y) (λ t. fine (m.Kind y) (t, inr (inr (inl (a, h, n))))))

  pub assign_right : (a : Assign) → Among f.assigns a → IsIndexed (at_rest (flat_place f)) a.right
  assign_right a h = assign_indexed a h a.right (append_right (numbers_in a.left) (a.right ∷ []) a.right (inl refl))

  -- a block can be spread, one whose assignments take effect at once where it isn't clocked
  pub block_spreadable : (t : Bool) (k : Always) → Among f.blocks k → (t ≡ true → k.clocked ≡ false) → IsSpreadable t (at_rest (flat_place f)) k.body
  block_spreadable t k h comb =
      let xs = alone_in k.body in
      let cs = flat_map compared_exprs (compared_in k.body) in
      let rights = map (λ (z : Assign). z.right) (stores_in k.body) in
      spreadable rest t k.body (record {
        alone_indexed = λ x n. block_indexed k h x (append_left (xs ++ cs) rights x (append_left xs cs x n));
        compared_indexed = λ c n.
            let each : (x : Expr) → Among (c.value ∷ c.labels) x → IsIndexed rest x =
            λ x o. block_indexed k h x (append_left (xs ++ cs) rights x (append_right xs cs x (flat_among compared_exprs (compared_in k.body) c x n o))) in
            (each c.value (inl refl), λ x o. each x (inr o));
        rights_indexed = λ z n. block_indexed k h z.right (append_right (xs ++ cs) rights z.right (map_among (λ (u : Assign). u.right) (stores_in k.body) z n));
        lefts_asked = λ left n. record {
          whole = left_whole left (block_left k left h n);
          spans = can.spans left (block_left k left h n);
          length = can.lengths left (block_left k left h n);
        };
        early_plain = λ left n y o.
            no_memory (read y) (λ i. fine (m.Kind y) (i, inr (inr (inr (k, h, inl (flat_among left_names (blocking_lefts k.body) left y n o))))));
        late_plain = λ left n i y o.
            no_memory (read y) (λ j. fine (m.Kind y) (j, inr (inr (inr (k, h, inr (comb i, flat_among left_names (nonblocking_lefts k.body) left y n o))))));
      })

  -- ---- blocks

  abbrev pub blocks : List Always
  blocks = map (spread_block rest) f.blocks

  pub block_in : (k : Always) → Among f.blocks k → Among (spread_flat f).blocks (spread_block rest k)
  block_in k h = append_left blocks (map keeper (idle_words f)) (spread_block rest k) (map_among (spread_block rest) f.blocks k h)

  pub keeper_in : (x : Name) → Among (idle_words f) x → Among (spread_flat f).blocks (keeper x)
  keeper_in x h = append_right blocks (map keeper (idle_words f)) (keeper x) (map_among keeper (idle_words f) x h)

  pub block_of : (k : Always) → Among (spread_flat f).blocks k →
      ((j : Always) × Among f.blocks j × (spread_block rest j ≡ k)) ⊎ ((x : Name) × Among (idle_words f) x × (keeper x ≡ k))
  block_of k h =
      ⊎_elim (λ n. inl (among_map (spread_block rest) f.blocks k n)) (λ n. inr (among_map keeper (idle_words f) k n)) (among_append blocks (map keeper (idle_words f)) k h)

  -- assignments take effect at once where a block isn't clocked
  at_once : Always → Bool
  at_once k = not k.clocked

  not_clocked : (k : Always) → at_once k ≡ true → k.clocked ≡ false
  unfolding at_once
  not_clocked k h = by k.clocked h
    where
      by : (b : Bool) → not b ≡ true → b ≡ false
      by true h = cc
      by false h = refl

  ready : (k : Always) → Among f.blocks k → IsSpreadable (at_once k) rest k.body
  ready k h = block_spreadable (at_once k) k h (not_clocked k)

  -- a left side of a block has indices
  left_indexed : (k : Always) (left : Lval) → Among f.blocks k → Among (lefts k.body) left → IsIndexedLeft rest left
  left_indexed k left h n =
      indexed_asked rest left (λ x o. block_indexed k h x (alone left n x o)) (left_whole left (block_left k left h n))
    where
      alone : (left : Lval) → Among (lefts k.body) left → (x : Expr) → Among (numbers_in left) x → Among (block_exprs k) x
      alone left n x o =
          append_left (alone_in k.body ++ flat_map compared_exprs (compared_in k.body)) _ x
          (append_left (alone_in k.body) (flat_map compared_exprs (compared_in k.body)) x (numbers_alone k.body left n x o))

  left_declared : (left : Lval) → Among (lefts_of f) left → (y : Name) → Among (left_names left) y → Among (names f.signals) y
  left_declared left h y n = can.declared y (flat_among left_names (lefts_of f) left y h n)

  -- ---- what drives

  pub drive_to : (k : Always) (left : Lval) (x : Name) (b : ℕ) → Among f.blocks k → Among (lefts k.body) left → DrivesFull old left x b →
      (u : Lval) × Among (lefts (spread_stmt rest k.body)) u × DrivesFull new u x b
  drive_to k left x b h n d =
      let r = left_to f.signals asked can.distinct left (left_indexed k left h n) x b d in
      (r.0, subst (λ us. Among us r.0) (sym (lefts_spread (at_once k) rest k.body (ready k h))) (flat_among (store_lefts rest) (lefts k.body) left r.0 n r.1), r.2)

  pub drive_from : (k : Always) (u : Lval) (x : Name) (b : ℕ) → Among f.blocks k → Among (lefts (spread_stmt rest k.body)) u → DrivesFull new u x b →
      (left : Lval) × Among (lefts k.body) left × DrivesFull old left x b
  drive_from k u x b h n d =
      let r = among_flat (store_lefts rest) (lefts k.body) u (subst (λ us. Among us u) (lefts_spread (at_once k) rest k.body (ready k h)) n) in
      (r.0, r.1, left_from f.signals asked can.distinct r.0 (left_indexed k r.0 h r.1) (left_declared r.0 (block_left k r.0 h r.1)) u r.2 x b d)

  pub driven_to : (x : Name) (b : ℕ) → IsDriven f x b → IsDriven (spread_flat f) x b
  driven_to x b h =
      ⊎_elim
      (λ (a : (a : Assign) × Among f.assigns a × DrivesFull old a.left x b).
      let p = assign_plain a.0 a.1 in
      let r = left_to f.signals asked can.distinct a.0.left (plain_indexed rest a.0.left p) x b a.2 in
      let n : Among (spread_left rest a.0.left ∷ []) r.0 = subst (λ us. Among us r.0) (plain_lefts rest a.0.left p) r.1 in
      let e : spread_left rest a.0.left ≡ r.0 = ⊎_elim (λ z. z) (λ z. absurd z) n in
      inl (spread_assign rest a.0, map_among (spread_assign rest) f.assigns a.0 a.1, subst (λ u. DrivesFull new u x b) (sym e) r.2))
      (λ (k : (k : Always) × Among f.blocks k × (k.clocked ≡ false) × (left : Lval) × Among (lefts k.body) left × DrivesFull old left x b).
      let r = drive_to k.0 k.3 x b k.1 k.4 k.5 in
      inr (spread_block rest k.0, block_in k.0 k.1, k.2, r.0, r.1, r.2))
      h

  pub driven_from : (x : Name) (b : ℕ) → IsDriven (spread_flat f) x b → IsDriven f x b
  driven_from x b h =
      ⊎_elim
      (λ (a : (a : Assign) × Among (spread_flat f).assigns a × DrivesFull new a.left x b).
      let k = among_map (spread_assign rest) f.assigns a.0 a.1 in
      let p = assign_plain k.0 k.1 in
      let n : Among (store_lefts rest k.0.left) (spread_left rest k.0.left) = subst (λ us. Among us (spread_left rest k.0.left)) (sym (plain_lefts rest k.0.left p)) (inl refl) in
      let d : DrivesFull new (spread_left rest k.0.left) x b = subst (λ (u : Assign). DrivesFull new u.left x b) (sym k.2) a.2 in
      inl (k.0, k.1, left_from f.signals asked can.distinct k.0.left (plain_indexed rest k.0.left p) (left_declared k.0.left (assign_left k.0 k.1)) (spread_left rest k.0.left) n x b d))
      (λ (k : (k : Always) × Among (spread_flat f).blocks k × (k.clocked ≡ false) × (left : Lval) × Among (lefts k.body) left × DrivesFull new left x b).
      ⊎_elim
      (λ (j : (j : Always) × Among f.blocks j × (spread_block rest j ≡ k.0)).
      let n : Among (lefts (spread_stmt rest j.0.body)) k.3 = subst (λ (u : Always). Among (lefts u.body) k.3) (sym j.2) k.4 in
      let r = drive_from j.0 k.3 x b j.1 n k.5 in
      inr (j.0, j.1, ap (λ (u : Always). u.clocked) j.2 ∙ k.2, r.0, r.1, r.2))
      (λ (j : (y : Name) × Among (idle_words f) y × (keeper y ≡ k.0)). let z : true ≡ false = ap (λ (u : Always). u.clocked) j.2 ∙ k.2 in let no : ⊥ = cc in absurd no)
      (block_of k.0 k.1))
      h

  pub clocked_to : (x : Name) (b : ℕ) → IsClocked f x b → IsClocked (spread_flat f) x b
  clocked_to x b k =
      let r = drive_to k.0 k.3 x b k.1 k.4 k.5 in
      (spread_block rest k.0, block_in k.0 k.1, k.2, r.0, r.1, r.2)

  -- what a keeper drives is its word
  pub keeper_drives : (x y : Name) (b : ℕ) (left : Lval) → Among (lefts (keeper x).body) left → DrivesFull new left y b → x ≡ y
  keeper_drives x y b left n d =
      let e : l.Name x ≡ left = ⊎_elim (λ z. z) (λ z. absurd z) n in
      by (subst (λ u. DrivesFull new u y b) (sym e) d)
    where
      apart : true ≡ false → ⊥
      apart e = cc

      by : DrivesFull new (l.Name x) y b → x ≡ y
      by d =
          ⊎_elim (λ (k : DrivesBit new (l.Name x) y b). k.4 ∙ sym k.3)
          (λ (k : DrivesWord new (l.Name x) y).
          let z : nat_eq k.0.depth 0 ≡ true = holder_plain f.signals k.0 k.1 in
          let no : true ≡ false = sym z ∙ k.2 in absurd (apart no)) d

  pub clocked_from : (x : Name) (b : ℕ) → IsClocked (spread_flat f) x b → IsClocked f x b ⊎ Among (idle_words f) x
  clocked_from x b k =
      ⊎_elim
      (λ (j : (j : Always) × Among f.blocks j × (spread_block rest j ≡ k.0)).
      let n : Among (lefts (spread_stmt rest j.0.body)) k.3 = subst (λ (u : Always). Among (lefts u.body) k.3) (sym j.2) k.4 in
      let r = drive_from j.0 k.3 x b j.1 n k.5 in
      inl (j.0, j.1, ap (λ (u : Always). u.clocked) j.2 ∙ k.2, r.0, r.1, r.2))
      (λ (j : (y : Name) × Among (idle_words f) y × (keeper y ≡ k.0)).
      let n : Among (lefts (keeper j.0).body) k.3 = subst (λ (u : Always). Among (lefts u.body) k.3) (sym j.2) k.4 in
      inr (subst (λ z. Among (idle_words f) z) (keeper_drives j.0 x b k.3 n k.5) j.1))
      (block_of k.0 k.1)

  -- ---- registers

  -- a memory is assigned nowhere but in a clocked block
  not_elsewhere : (k : Always) (left : Lval) (g : Signal) → Among f.blocks k → Among (lefts k.body) left → Among f.signals g → nat_eq g.depth 0 ≡ false →
      Among (left_names left) g.name → k.clocked ≡ true
  not_elsewhere k left g h n mg t o =
      ⊎_elim (λ (u : k.clocked ≡ true). u)
      (λ (u : k.clocked ≡ false).
      ⊎_elim
      (λ e. absurd (fine (m.Kind g.name) (memory_true g mg t, inr (inr (inr (k, h, inl (flat_among left_names (blocking_lefts k.body) left g.name e o)))))))
      (λ e. absurd (fine (m.Kind g.name) (memory_true g mg t, inr (inr (inr (k, h, inr (u, flat_among left_names (nonblocking_lefts k.body) left g.name e o)))))))
      (early_or_late k.body left n))
      (bool_cases k.clocked)

  -- and it is assigned in one
  memory_assigned : (g : Signal) → Among f.signals g → nat_eq g.depth 0 ≡ false →
      (k : Always) × Among f.blocks k × (k.clocked ≡ true) × Among (flat_map left_names (lefts k.body)) g.name
  memory_assigned g mg t =
      ⊎_elim
      (λ (u : is_among (flat_map left_names (lefts_of f)) g.name ≡ true). somewhere (is_among_true (flat_map left_names (lefts_of f)) g.name u))
      (λ (u : is_among (flat_map left_names (lefts_of f)) g.name ≡ false).
      absurd (fine (m.Kind g.name) (memory_true g mg t, inr (inl (λ n. nowhere u (among_is_true (flat_map left_names (lefts_of f)) g.name n))))))
      (bool_cases (is_among (flat_map left_names (lefts_of f)) g.name))
    where
      nowhere : {b : Bool} → b ≡ false → b ≡ true → ⊥
      nowhere h k = let no : false ≡ true = sym h ∙ k in cc

      somewhere : Among (flat_map left_names (lefts_of f)) g.name → (k : Always) × Among f.blocks k × (k.clocked ≡ true) × Among (flat_map left_names (lefts k.body)) g.name
      somewhere n =
          let r = among_flat left_names (lefts_of f) g.name n in
          ⊎_elim
          (λ (h : Among (map (λ (z : Assign). z.left) f.assigns) r.0).
          let a = among_map (λ (z : Assign). z.left) f.assigns r.0 h in
          absurd (fine (m.Kind g.name) (memory_true g mg t, inr (inr (inl (a.0, a.1, subst (λ u. Among (left_names u) g.name) (sym a.2) r.2))))))
          (λ (h : Among (flat_map (λ (z : Always). lefts z.body) f.blocks) r.0).
          let k = among_flat (λ (z : Always). lefts z.body) f.blocks r.0 h in
          (k.0, k.1, not_elsewhere k.0 r.0 g k.1 k.2 mg t r.2, flat_among left_names (lefts k.0.body) r.0 g.name k.2 r.2))
          (among_append (map (λ (z : Assign). z.left) f.assigns) (flat_map (λ (z : Always). lefts z.body) f.blocks) r.0 r.1)

  -- the names that the text of a block without memories assigns
  abbrev assigned_names : Always → List Name
  assigned_names k = flat_map left_names (lefts (spread_stmt rest k.body))

  block_name : (k : Always) (y : Name) → Among f.blocks k → Among (assigned_names k) y →
      (left : Lval) × Among (lefts k.body) left × (Among (left_names left) y ⊎ NamesWord f.signals left y)
  block_name k y h n =
      let u = among_flat left_names (lefts (spread_stmt rest k.body)) y n in
      let r = among_flat (store_lefts rest) (lefts k.body) u.0 (subst (λ us. Among us u.0) (lefts_spread (at_once k) rest k.body (ready k h)) u.1) in
      (r.0, r.1, name_of f.signals asked can.distinct r.0 y (flat_among left_names (store_lefts rest r.0) u.0 y r.2 u.2))

  name_in_block : (k : Always) (left : Lval) (y : Name) → Among f.blocks k → Among (lefts k.body) left → depth_of rest (read y) ≡ 0 → Among (left_names left) y →
      Among (assigned_names k) y
  name_in_block k left y h n z o =
      let u = among_flat left_names (store_lefts rest left) y (name_kept f.signals asked can.distinct left y z o) in
      flat_among left_names (lefts (spread_stmt rest k.body)) u.0 y
      (subst (λ us. Among us u.0) (sym (lefts_spread (at_once k) rest k.body (ready k h))) (flat_among (store_lefts rest) (lefts k.body) left u.0 n u.1)) u.2

  abbrev IsIdleTest : Name → Bool
  IsIdleTest x = not (is_among (assigned_in (map (spread_block (at_rest (flat_place f))) f.blocks)) x)

  -- each word is a register of the module without memories
  pub word_register : (g : Signal) (j : ℕ) → Among f.signals g → nat_eq g.depth 0 ≡ false → j < g.depth → IsRegister (spread_flat f) (word_name (read g.name) j).text
  word_register g j mg t l =
      ⊎_elim (λ (u : is_among (assigned_in blocks) x ≡ true). some (is_among_true (assigned_in blocks) x u))
      (λ (u : is_among (assigned_in blocks) x ≡ false). (
        keeper x,
        keeper_in x (filter_in IsIdleTest (flat_map words_of f.signals) x (word_named f.signals g j mg l) (ap not u)),
        refl,
        (x, inl refl, word g j, word_held f.signals g j mg t l, (refl, word g j, own_holder (word g j) refl, refl)),
      ))
      (bool_cases (is_among (assigned_in blocks) x))
    where
      x : Name
      x = (word_name (read g.name) j).text

      clocked : (k : Always) → Among f.blocks k → Among (assigned_names k) (word_name (read g.name) j).text → k.clocked ≡ true
      clocked k h n =
          let r = block_name k (word_name (read g.name) j).text h n in
          ⊎_elim
          (λ o. absurd (no_word f.signals asked can.distinct (word_name (read g.name) j).text (left_declared r.0 (block_left k r.0 h r.1) (word_name (read g.name) j).text o) (word_named f.signals g j mg l)))
          (λ (w : NamesWord f.signals r.0 (word_name (read g.name) j).text). not_elsewhere k r.0 w.memory h r.1 w.among w.deep w.named)
          r.2

      some : Among (assigned_in blocks) (word_name (read g.name) j).text → IsRegister (spread_flat f) (word_name (read g.name) j).text
      some n =
          let r = among_flat (λ (k : Always). flat_map left_names (lefts k.body)) blocks (word_name (read g.name) j).text n in
          let q = among_map (spread_block rest) f.blocks r.0 r.1 in
          let o : Among (assigned_names q.0) (word_name (read g.name) j).text = subst (λ (u : Always). Among (flat_map left_names (lefts u.body)) (word_name (read g.name) j).text) (sym q.2) r.2 in (
            spread_block rest q.0,
            block_in q.0 q.1,
            clocked q.0 q.1 o,
            ((word_name (read g.name) j).text, o, word g j, word_held f.signals g j mg t l, (refl, word g j, own_holder (word g j) refl, refl)),
          )

  pub register_to : (x : Name) → IsRegister f x → IsRegister (spread_flat f) x
  register_to x (k, mk, ck, (y, ny, g, mg, (e, w, mw, ex))) =
      ⊎_elim
      (λ (t : nat_eq g.depth 0 ≡ true).
      let i : g ≡ w = plain_holder g w t mw in
      let r = among_flat left_names (lefts k.body) y ny in
      let z : depth_of rest (read y) ≡ 0 = ap (λ u. depth_of rest (read u)) (sym e) ∙ depth_plain f.signals asked can.distinct (λ u. 0) g mg t in (
        spread_block rest k,
        block_in k mk,
        ck,
        (y, name_in_block k r.0 y mk r.1 z r.2, g, plain_held f.signals g mg t, (e, g, own_holder g t, ex ∙ ap (λ (u : Signal). u.name) (sym i))),
      ))
      (λ (t : nat_eq g.depth 0 ≡ false).
      let r = deep_holder g w t mw in
      subst (λ u. IsRegister (spread_flat f) u) (ap (λ (u : Signal). u.name) r.2 ∙ sym ex) (word_register g r.0 mg t r.1))
      (bool_cases (nat_eq g.depth 0))

  -- an idle word is a memory's
  pub idle_word : (x : Name) → Among (idle_words f) x → IsWordNamed f.signals x
  idle_word x h =
      let n = filter_out IsIdleTest (flat_map words_of f.signals) x h in
      let r = among_flat words_of f.signals x n.0 in
      let q = among_map (λ (u : Signal). u.name) (words_from r.0 0 r.0.depth) x r.2 in
      let i = words_numbered r.0 0 r.0.depth q.0 q.1 in
      let l : i.0 < r.0.depth = omega (arith, i.1) in
      let t : nat_eq r.0.depth 0 ≡ false = ⊎_elim (λ (t : nat_eq r.0.depth 0 ≡ true). let z = eqb-true r.0.depth 0 t in absurd (omega (arith, z, l))) (λ t. t) (bool_cases (nat_eq r.0.depth 0)) in
      record { memory = r.0; among = r.1; deep = t; index = i.0; below = l; is = ap (λ (u : Signal). u.name) i.2 ∙ q.2 }

  pub register_from : (x : Name) → IsRegister (spread_flat f) x → IsRegister f x
  register_from x (k, mk, ck, (y, ny, g, mg, (e, w, mw, ex))) =
      let i : g ≡ w = plain_holder g w (holder_plain f.signals g mg) mw in
      let same : x ≡ y = ex ∙ (ap (λ (u : Signal). u.name) (sym i) ∙ e) in
      ⊎_elim
      (λ (j : (j : Always) × Among f.blocks j × (spread_block rest j ≡ k)).
      let c : j.0.clocked ≡ true = ap (λ (u : Always). u.clocked) j.2 ∙ ck in
      let r = block_name j.0 y j.1 (subst (λ (u : Always). Among (flat_map left_names (lefts u.body)) y) (sym j.2) ny) in
      ⊎_elim
      (λ o.
      let d = left_declared r.0 (block_left j.0 r.0 j.1 r.1) y o in
      ⊎_elim
      (λ (p : Among f.signals g × (nat_eq g.depth 0 ≡ true)).
      (j.0, j.1, c, (y, flat_among left_names (lefts j.0.body) r.0 y r.1 o, g, p.0, (e, g, own_holder g p.1, same ∙ sym e))))
      (λ (v : IsWord f.signals g). absurd (word_apart f.signals asked can.distinct y g d v e))
      (holder_is f.signals g mg))
      (λ (v : NamesWord f.signals r.0 y). (
        j.0,
        j.1,
        c,
        (
          v.memory.name,
          flat_among left_names (lefts j.0.body) r.0 v.memory.name r.1 v.named,
          v.memory,
          v.among,
          (refl, word v.memory v.index, word_holder v.memory v.index v.deep v.below, same ∙ sym v.is),
        ),
      ))
      r.2)
      (λ (j : (z : Name) × Among (idle_words f) z × (keeper z ≡ k)).
      let n : Among (j.0 ∷ []) y = subst (λ (u : Always). Among (flat_map left_names (lefts u.body)) y) (sym j.2) ny in
      let z : j.0 ≡ y = ⊎_elim (λ u. u) (λ u. absurd u) n in
      let v = idle_word j.0 j.1 in
      let a = memory_assigned v.memory v.among v.deep in
      (a.0, a.1, a.2, (v.memory.name, a.3, v.memory, v.among, (refl, word v.memory v.index, word_holder v.memory v.index v.deep v.below, same ∙ (sym z ∙ sym v.is)))))
      (block_of k mk)

  -- no block assigns an idle word
  pub idle_unassigned : (x : Name) → Among (idle_words f) x → (k : Always) → Among f.blocks k → (u : Lval) → Among (lefts (spread_stmt rest k.body)) u → Among (left_names u) x → ⊥
  idle_unassigned x h k mk u mu n =
      let t : not (is_among (assigned_in blocks) x) ≡ true = (filter_out IsIdleTest (flat_map words_of f.signals) x h).1 in
      let o : Among (assigned_in blocks) x =
      flat_among (λ (z : Always). flat_map left_names (lefts z.body)) blocks (spread_block rest k) x (map_among (spread_block rest) f.blocks k mk)
      (flat_among left_names (lefts (spread_stmt rest k.body)) u x mu n) in
      let z : is_among (assigned_in blocks) x ≡ true = among_is_true (assigned_in blocks) x o in
      let no : false ≡ true = sym (ap not z) ∙ t in
      apart no
    where
      apart : false ≡ true → ⊥
      apart e = cc
