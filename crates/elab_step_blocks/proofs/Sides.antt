-- The parts of left sides, as targets.
use Rattle.std.proofs.Common.{arith, ◌≡◌, ℕ, zero, suc, ◌+◌, ◌-◌, ◌<◌, ◌≤◌, Bool, true, false, List, [], ◌∷◌, ◌++◌, ◌&&◌, length, get_or, map, refl, sym, ap, ◌∙◌, subst, Some, None, ℤ, pos, negsuc, ◌+ℤ◌, ◌-ℤ◌, ◌≤ℤ◌, ◌<ℤ◌, ◌^◌}
use Rattle.std.specs.Prelude.{nat_eq, if◌then◌else◌}
use Rattle.std.specs.List.{flat_map}
use Rattle.std.specs.Str.{bytes_eq}
use Rattle.std.proofs.lemmas.Slice.Eq.{bytes_eq-Decides}
use Rattle.std.proofs.lemmas.Int.{ints}
use Rattle.word_core.specs.Words.{Bits}
use Rattle.word_dag.specs.declared.node.Node.{Node}
use Rattle.word_dag.specs.Nodes.{Naming, word_at}
use Rattle.word_dag.specs.Adding.{Keeps}
use Rattle.vlog_tree.specs.declared.expr.Constant.{Constant}
use Rattle.vlog_tree.specs.declared.expr.Expr.{Expr}
use Rattle.vlog_tree.specs.declared.valuation.Entry.{Entry}
use Rattle.vlog_tree.specs.Valuation.{IsLength, named, depth_of, place_at}
use Rattle.vlog_tree.specs.declared.expr.Span.{Span}
use Rattle.vlog_tree.specs.declared.expr.Span.TheVariants as w
use Rattle.vlog_tree.specs.declared.stmt.Lval.{Lval, Row_of-Lval, end_of-Lval, more_of-Lval, items-the_row-Lval, items_hidden-the_row-Lval-0}
use Rattle.vlog_tree.specs.declared.stmt.Lval.TheVariants as l
use Rattle.vlog_tree.specs.declared.stmt.Lval.TheBlock.{hidden-the_row-Lval-0}
use Rattle.vlog_tree.specs.Value.{Stands, integer, operand_of, own_integer, value_of, part_low, part_width, natural, NamesOnly, HasConstantParts}
use Rattle.vlog_tree_values.specs.Shapes.{HasShape, HasOwn}
use Rattle.vlog_tree_runs.specs.declared.flat.Signal.{Signal}
use Rattle.vlog_tree_runs.specs.Places.{Name, Cycle, Piece, valuation, read, entries_of, held_entry, words_from, entry_of, whole_piece, bit_piece, word_piece, Place, pieces, row_pieces}
use Rattle.elab_step_expr.specs.declared.leaves.Leaf.{Leaf}
use Rattle.elab_step_expr.specs.Leaves.{declared, valued, leaf_at, AreReady, AreWide}
use Rattle.elab_step_expr.specs.Leaves as ls
use Rattle.elab_step_expr.specs.Nodes.{number_at, words}
use Rattle.elab_step_expr.specs.Terms.{nothing, HasNode, IsTaken, IsAlone}
use Rattle.elab_step_expr.proofs.Placed.{leaf_placed, leaf_absent}
use Rattle.elab_step_expr.proofs.Kept.{valued_kept, number_kept}
use Rattle.elab_step_expr.proofs.Read.{named_leaf, depth_is, stands_leaf}
use Rattle.elab_step_expr.proofs.Shaped.{shape_valued, alone_taken}
use Rattle.elab_step_expr.specs.declared.indexed.Own.{Own}
use Rattle.elab_step_blocks.specs.Standing.{flat, IsLeafOf, AreLeavesOf, AreShown}
use Rattle.elab_step_blocks.specs.declared.targets.Spot.TheVariants as s
use Rattle.elab_step_blocks.specs.declared.targets.Target.{Target}
use Rattle.elab_step_expr.proofs.Alike.{constant_same}
use Rattle.elab_step_blocks.specs.Ready.{IsPlaced, IsSingle, left_width, row_width, IsReadyLeft, AreReadyLefts, EachReadyLeft}
use Rattle.elab_step_blocks.specs.Targets.{name_at, width_at, piece_of, pieces_of, bits_in, AreTargets}
use Rattle.elab_step_blocks.specs.Lefts.{IsLeafAt, IsIndex, IsPart, lefts_width, AreParts}
use Rattle.elab_step_blocks.proofs.Giving.{leaf_width, target_kept, piece_same}

-- ---- what names stand for

pub one_entry : (g : Signal) (l : Leaf) (c : Cycle) (n : ℕ) → IsLeafOf g l → c l.name ≡ n → entries_of [] c g ≡ ls.entry_of l n ∷ []
one_entry g l c n k v =
    ap (λ m. if nat_eq m 0 then held_entry [] c g ∷ [] else entry_of g 0 ∷ map (held_entry [] c) (words_from g 0 g.depth)) k.depth
    ∙ (λ r. record {
      name = sym k.name r;
      offset = sym k.offset r;
      width = sym k.width r;
      low = sym k.low r;
      signed = sym k.signed r;
      depth = k.depth r;
      value = (ap c (sym k.name) ∙ v) r;
    } ∷ [])

pub valuation_is : (gs : List Signal) (es : List Leaf) (e : Naming) (ns : List Node) (c : Cycle) → AreLeavesOf gs es → AreShown e ns es c → valuation (flat gs) c ≡ valued es (words e ns)
valuation_is [] [] e ns c k h = refl
valuation_is [] (l ∷ es) e ns c k h = absurd k
valuation_is (g ∷ gs) [] e ns c k h = absurd k
valuation_is (g ∷ gs) (l ∷ es) e ns c k h = λ r. one_entry g l c (number_at e ns l.node) k.0 h.0 r ++ valuation_is gs es e ns c k.1 h.1 r

-- ---- the leaf of a name

found_name : (es : List Leaf) (x : Name) (j : ℕ) (l : Leaf) → leaf_at es x j ≡ Some l → l.name ≡ x
found_name [] x j l h = cc
found_name (k ∷ es) x j l h = pick (found_name es x j l) (nat_eq k.offset j) (bytes_eq k.name x) refl h
  where
    some_is : (a b : Leaf) → Some a ≡ Some b → a ≡ b
    some_is a b e = cc

    pick : (leaf_at es x j ≡ Some l → l.name ≡ x) → (t u : Bool) → bytes_eq k.name x ≡ u → (if t && u then Some k else leaf_at es x j) ≡ Some l → l.name ≡ x
    pick rest true true q e = ap (λ (z : Leaf). z.name) (sym (some_is k l e)) ∙ (bytes_eq-Decides k.name x).0 q
    pick rest true false q e = rest e
    pick rest false u q e = rest e

leaf_name : (es : List Leaf) (i : ℕ) (l : Leaf) → i < length es → l ≡ get_or es i l → name_at es i ≡ l.name
leaf_name [] i l lt g = absurd (omega arith)
leaf_name (y ∷ es) zero l lt g = ap (λ (z : Leaf). z.name) (sym g)
leaf_name (y ∷ es) (suc i) l lt g = leaf_name es i l (omega arith) g

module _ (es : List Leaf) (x : Name) (i : ℕ) (h : IsLeafAt es x i) where
  pub name_is : name_at es i ≡ x
  name_is = leaf_name es i h.leaf h.within h.at ∙ found_name es x 0 h.leaf h.found

  pub width_is : width_at es i ≡ h.leaf.width
  width_is = leaf_width es i h.leaf h.within h.at

  pub meaning_is : (ws : List Bits) → named (valued es ws) (read x) ≡ record { width = h.leaf.width; low = h.leaf.low; signed = h.leaf.signed; value = (word_at ws h.leaf.node).value }
  meaning_is ws = named_leaf (λ l. (word_at ws l.node).value) es (read x) h.leaf h.found

-- ---- the pieces of each form

module _ (es : List Leaf) (x : Name) (i : ℕ) (h : IsLeafAt es x i) (gs : List Signal) (e : Naming) (ns : List Node) (c : Cycle) (k : AreLeavesOf gs es) (s : AreShown e ns es c) where
  stands_for : named (valuation (flat gs) c) (read x) ≡ record { width = h.leaf.width; low = h.leaf.low; signed = h.leaf.signed; value = number_at e ns h.leaf.node }
  stands_for = ap (λ v. named v (read x)) (valuation_is gs es e ns c k s) ∙ meaning_is es x i h (words e ns)

  pub whole_is : record { name = name_at es i; size = width_at es i; from = pos 0; count = h.leaf.width } ≡ whole_piece x (named (valuation (flat gs) c) (read x))
  whole_is = (λ r. record { name = name_is es x i h r; size = width_is es x i h r; from = pos 0; count = h.leaf.width }) ∙ ap (whole_piece x) (sym stands_for)

  pub bit_is : (j : ℤ) (a : Expr) → j ≡ own_integer (operand_of (valued es (words e ns)) a)
      → record { name = name_at es i; size = width_at es i; from = j -ℤ pos h.leaf.low; count = 1 }
      ≡ (if nat_eq (depth_of (valuation (flat gs) c) (read x)) 0 then bit_piece x (named (valuation (flat gs) c) (read x)) (operand_of (valuation (flat gs) c) a)
      else word_piece [] x (valuation (flat gs) c) (operand_of (valuation (flat gs) c) a))
  bit_is j a is =
      let v = valued es (words e ns) in
      let p = valuation_is gs es e ns c k s in
      (λ r. record { name = name_is es x i h r; size = width_is es x i h r; from = is r -ℤ pos h.leaf.low; count = 1 })
      ∙ ap (λ z. bit_piece x z (operand_of v a)) (sym (meaning_is es x i h (words e ns)))
      ∙ ap (λ n. if nat_eq n 0 then bit_piece x (named v (read x)) (operand_of v a) else word_piece [] x v (operand_of v a)) (sym (depth_is (λ l. number_at e ns l.node) es (read x)))
      ∙ ap (λ z. if nat_eq (depth_of z (read x)) 0 then bit_piece x (named z (read x)) (operand_of z a) else word_piece [] x z (operand_of z a)) (sym p)

  pub part_is : (span : Span) (a b : Expr) (j : ℤ) (n : ℕ)
      → j ≡ (part_low span (own_integer (operand_of (valued es (words e ns)) a)) (own_integer (operand_of (valued es (words e ns)) b)) -ℤ pos h.leaf.low)
      → n ≡ part_width span (own_integer (operand_of (valued es (words e ns)) a)) (own_integer (operand_of (valued es (words e ns)) b))
      → record { name = name_at es i; size = width_at es i; from = j; count = n } ∷ [] ≡ pieces (flat gs) c (l.Part x span a b)
  part_is span a b j n from count =
      let p = valuation_is gs es e ns c k s in
      (λ r. record { name = name_is es x i h r; size = width_is es x i h r; from = from r; count = count r } ∷ [])
      ∙ ap (λ z. piece_in z (valued es (words e ns)) ∷ []) (sym (meaning_is es x i h (words e ns)))
      ∙ ap (λ v. piece_in (named v (read x)) v ∷ []) (sym p)
    where
      piece_in : Constant → List Entry → Piece
      piece_in z v = record {
        name = x;
        size = z.width;
        from = part_low span (own_integer (operand_of v a)) (own_integer (operand_of v b)) -ℤ pos z.low;
        count = part_width span (own_integer (operand_of v a)) (own_integer (operand_of v b));
      }

-- an expression that is taken
pub placed_taken : (es : List Leaf) (a : Expr) (n : ℕ) (s : Bool) → IsPlaced (declared es) a n s → IsTaken es a n s
placed_taken es a n s h = record { ready = h.ready; constant = h.constant; defined = h.defined }

pub single_alone : (es : List Leaf) (a : Expr) → IsSingle (declared es) a → IsAlone es a
single_alone es a h = record { formed = h.formed; constant = h.constant; defined = h.defined }

pub single_taken : (es : List Leaf) (a : Expr) (n : ℕ) (s : Bool) → IsSingle (declared es) a → HasShape (declared es) a n s → IsTaken es a n s
single_taken es a n s h g = alone_taken es a n s (single_alone es a h) g

-- the node of an index
pub index_is : (es : List Leaf) (old new : List Node) (a : Expr) (n : ℕ) (s : Bool) (i : ℕ) (o : Own) → AreReady es old → Keeps old new → HasConstantParts nothing a → HasShape (declared es) a n s → HasNode es old new a n s i
    → o ≡ record { wire = record { node = i; width = n }; signed = s } → IsIndex es new a o
index_is es old new a n s i o r k d g h is = subst (λ (z : Own). IsIndex es new a z) (sym is) (record {
  node = h.node;
  value = λ e.
      let v = valued es (words e old) in
      let t = shape_valued es (words e old) a d n s g in
      ap (integer s n) (ap (λ (b : Bits). b.value) (h.word e).word)
      ∙ (λ z. integer (t.sign z) (t.width z) (value_of v a (t.width z) (t.sign z)))
      ∙ ap (λ z. own_integer (operand_of z a)) (sym (valued_kept e es old new k r));
})

-- the integer of an expression without names
pub constant_is : (v : List Entry) (a : Expr) (w : Bits) (s : Bool) → HasOwn v a w s → integer s w.width w.value ≡ own_integer (operand_of v a)
constant_is v a w s h = λ r. integer (h.shape.sign r) (h.shape.width r) (h.value r)

-- ---- one target for each form

pub same_leaf : (es : List Leaf) (i : ℕ) (k l : Leaf) → i < length es → k ≡ get_or es i k → l ≡ get_or es i l → k ≡ l
same_leaf [] i k l lt p q = absurd (omega arith)
same_leaf (y ∷ es) zero k l lt p q = p ∙ sym q
same_leaf (y ∷ es) (suc i) k l lt p q = same_leaf es i k l (omega arith) p q

-- the leaf as it was read
abbrev pub leaf_read : (es : List Leaf) (x : Name) (i : ℕ) (l : Leaf) → l ≡ get_or es i l → IsLeafAt es x i → IsLeafAt es x i
leaf_read es x i l e h = record { leaf = l; within = h.within; at = e; found = h.found ∙ ap Some (same_leaf es i h.leaf l h.within h.at e) }

-- the place of a name is the number of its leaf
pub leaf_there : (es : List Leaf) (x : Name) (i : ℕ) → place_at (declared es) x 0 ≡ Some i → IsLeafAt es x i
leaf_there es x i e =
    let r = leaf_placed es x 0 i e in
    let d = some es r.0 in
    record { leaf = get_or es i d; within = r.0; at = again es i d r.0; found = r.1 d }
  where
    some : (ls : List Leaf) → i < length ls → Leaf
    some [] lt = absurd (omega arith)
    some (l ∷ ls) lt = l

    again : (ls : List Leaf) (j : ℕ) (d : Leaf) → j < length ls → get_or ls j d ≡ get_or ls j (get_or ls j d)
    again [] j d lt = absurd (omega arith)
    again (l ∷ ls) zero d lt = refl
    again (l ∷ ls) (suc j) d lt = again ls j d (omega arith)

pub leaf_none : (es : List Leaf) (x : Name) → Stands (declared es) (read x) → place_at (declared es) x 0 ≡ None → ⊥
leaf_none es x h e = stands_leaf es (read x) h (leaf_absent es x 0 e)

pub wide_leaf : (es : List Leaf) (i : ℕ) (l : Leaf) → AreWide es → i < length es → l ≡ get_or es i l → IsLength l.width
wide_leaf [] i l w lt e = absurd (omega arith)
wide_leaf (k ∷ es) zero l w lt e = subst (λ (z : Leaf). IsLength z.width) (sym e) w.0
wide_leaf (k ∷ es) (suc i) l w lt e = wide_leaf es i l w.1 (omega arith) e

natural_pos : (n : ℤ) → 1 ≤ natural n → pos (natural n) ≡ n
natural_pos (pos n) le = refl
natural_pos (negsuc n) le = absurd (omega arith)

module _ (es : List Leaf) (x : Name) (i : ℕ) (h : IsLeafAt es x i) where
  declared_here : (named (declared es) (read x)).width ≡ h.leaf.width
  declared_here = ap (λ (z : Constant). z.width) (named_leaf (λ l. 0) es (read x) h.leaf h.found)

  pub whole_part : (ns : List Node) (t : Target) → IsLength h.leaf.width → t ≡ record { leaf = i; spot = s.Fixed (pos 0); count = h.leaf.width } → IsPart es ns t (l.Name x)
  whole_part ns t w is = subst (λ (z : Target). IsPart es ns z (l.Name x)) (sym is) (record {
    target = record { leaf = h.within; count = w; spot = (omega (arith, ints), omega (arith, ints)) };
    bits = sym declared_here;
    piece = λ gs e c k p. ap (λ z. z ∷ []) (whole_is es x i h gs e ns c k p);
  })

  pub bit_part : (ns : List Node) (t : Target) (a : Expr) (o : Own) (from : ℤ) → IsIndex es ns a o → h.leaf.low < 2 ^ 64 → from ≡ (pos h.leaf.low +ℤ pos 0) → t ≡ record { leaf = i; spot = s.Indexed o from; count = 1 }
      → IsPart es ns t (l.Select x a)
  bit_part ns t a o from g small fi is = subst (λ (z : Target). IsPart es ns z (l.Select x a)) (sym is) (record {
    target = record { leaf = h.within; count = (omega arith, omega arith); spot = (g.node, omega (arith, ints, small, fi), omega (arith, ints, small, fi)) };
    bits = refl;
    piece = λ gs e c k p.
        let j = integer o.signed o.wire.width (number_at e ns o.wire.node) in
        let moved : j -ℤ from ≡ j -ℤ pos h.leaf.low = omega (arith, ints, fi) in
        ap (λ z. record { name = name_at es i; size = width_at es i; from = z; count = 1 } ∷ []) moved ∙ ap (λ z. z ∷ []) (bit_is es x i h gs e ns c k p j a (g.value e));
  })

  -- the numbers of a part-select, where what must be constant is
  pub fixed_part : (ns : List Node) (t : Target) (a b : Expr) (m n at : ℤ) → NamesOnly nothing a → NamesOnly nothing b → m ≡ own_integer (operand_of (declared es) a) → n ≡ own_integer (operand_of (declared es) b)
      → IsLength (part_width w.Fixed m n) → (negsuc (2 ^ 64) ≤ℤ n) → (n <ℤ pos (2 ^ 64)) → h.leaf.low < 2 ^ 64 → at ≡ (n -ℤ pos h.leaf.low)
      → t ≡ record { leaf = i; spot = s.Fixed at; count = part_width w.Fixed m n } → IsPart es ns t (l.Part x w.Fixed a b)
  fixed_part ns t a b m n at ca cb mi ni long lo hi small fi is = subst (λ (z : Target). IsPart es ns z (l.Part x w.Fixed a b)) (sym is) (record {
    target = record { leaf = h.within; count = long; spot = (omega (arith, ints, lo, small, fi), omega (arith, ints, hi, small, fi)) };
    bits = λ r. part_width w.Fixed (mi r) (ni r);
    piece = λ gs e c k p.
        let v = valued es (words e ns) in
        let ma : m ≡ own_integer (operand_of v a) = mi ∙ ap own_integer (constant_same (declared es) v a ca) in
        let nb : n ≡ own_integer (operand_of v b) = ni ∙ ap own_integer (constant_same (declared es) v b cb) in
        part_is es x i h gs e ns c k p w.Fixed a b at (part_width w.Fixed m n) (fi ∙ (λ r. nb r -ℤ pos h.leaf.low)) (λ r. part_width w.Fixed (ma r) (nb r));
  })

  pub up_part : (ns : List Node) (t : Target) (a b : Expr) (o : Own) (n from : ℤ) → NamesOnly nothing b → n ≡ own_integer (operand_of (declared es) b) → IsLength (natural n) → IsIndex es ns a o → h.leaf.low < 2 ^ 64
      → from ≡ (pos h.leaf.low +ℤ pos 0) → t ≡ record { leaf = i; spot = s.Indexed o from; count = natural n } → IsPart es ns t (l.Part x w.Up a b)
  up_part ns t a b o n from cb ni long g small fi is = subst (λ (z : Target). IsPart es ns z (l.Part x w.Up a b)) (sym is) (record {
    target = record { leaf = h.within; count = long; spot = (g.node, omega (arith, ints, small, fi), omega (arith, ints, small, fi)) };
    bits = ap natural ni;
    piece = λ gs e c k p.
        let v = valued es (words e ns) in
        let nb : n ≡ own_integer (operand_of v b) = ni ∙ ap own_integer (constant_same (declared es) v b cb) in
        let j = integer o.signed o.wire.width (number_at e ns o.wire.node) in
        let moved : j -ℤ from ≡ j -ℤ pos h.leaf.low = omega (arith, ints, fi) in
        part_is es x i h gs e ns c k p w.Up a b (j -ℤ from) (natural n) (moved ∙ ap (λ q. q -ℤ pos h.leaf.low) (g.value e)) (ap natural nb);
  })

  pub down_part : (ns : List Node) (t : Target) (a b : Expr) (o : Own) (n from : ℤ) → NamesOnly nothing b → n ≡ own_integer (operand_of (declared es) b) → IsLength (natural n) → IsIndex es ns a o → h.leaf.low < 2 ^ 64
      → from ≡ (pos h.leaf.low +ℤ pos (natural n - 1)) → t ≡ record { leaf = i; spot = s.Indexed o from; count = natural n } → IsPart es ns t (l.Part x w.Down a b)
  down_part ns t a b o n from cb ni long g small fi is = subst (λ (z : Target). IsPart es ns z (l.Part x w.Down a b)) (sym is) (record {
    target = record { leaf = h.within; count = long; spot = (g.node, omega (arith, ints, small, fi), omega (arith, ints, small, fi, long.1)) };
    bits = ap natural ni;
    piece = λ gs e c k p.
        let v = valued es (words e ns) in
        let nb : n ≡ own_integer (operand_of v b) = ni ∙ ap own_integer (constant_same (declared es) v b cb) in
        let j = integer o.signed o.wire.width (number_at e ns o.wire.node) in
        let np : pos (natural n) ≡ n = natural_pos n long.0 in
        let some = long.0 in
        let moved : j -ℤ from ≡ ((j -ℤ n) +ℤ pos 1) -ℤ pos h.leaf.low = omega (arith, ints, fi, np, some) in
        part_is es x i h gs e ns c k p w.Down a b (j -ℤ from) (natural n) (moved ∙ (λ r. ((g.value e r -ℤ nb r) +ℤ pos 1) -ℤ pos h.leaf.low)) (ap natural nb);
  })

pub fixed_length : (es : List Leaf) (a b : Expr) (m n : ℤ) → m ≡ own_integer (operand_of (declared es) a) → n ≡ own_integer (operand_of (declared es) b)
    → IsLength (part_width w.Fixed (own_integer (operand_of (declared es) a)) (own_integer (operand_of (declared es) b))) → IsLength (part_width w.Fixed m n)
fixed_length es a b m n mi ni h = subst (λ k. IsLength (part_width w.Fixed k n)) (sym mi) (subst (λ k. IsLength (part_width w.Fixed (own_integer (operand_of (declared es) a)) k)) (sym ni) h)

-- ---- targets of left sides

pub no_parts : (es : List Leaf) (ns : List Node) → AreParts es ns [] []
no_parts es ns = record { targets = tt; bits = refl; pieces_are = λ gs e c k s. refl }

pub append_none : {X : Type 0} (xs : List X) → xs ++ [] ≡ xs
append_none [] = refl
append_none (x ∷ xs) = ap (λ r. x ∷ r) (append_none xs)

append_all : {X : Type 0} (xs ys zs : List X) → (xs ++ ys) ++ zs ≡ xs ++ (ys ++ zs)
append_all [] ys zs = refl
append_all (x ∷ xs) ys zs = ap (λ r. x ∷ r) (append_all xs ys zs)

pub one_part : (es : List Leaf) (ns : List Node) (t : Target) (left : Lval) (ts : List Target) → IsPart es ns t left → ts ≡ t ∷ [] → AreParts es ns ts (left ∷ [])
one_part es ns t left ts h is = subst (λ z. AreParts es ns z (left ∷ [])) (sym is) (record {
  targets = (h.target, tt);
  bits = ap (λ k. k + 0) h.bits;
  pieces_are = λ gs e c k s. h.piece gs e c k s ∙ sym (append_none (pieces (flat gs) c left));
})

targets_append : (es : List Leaf) (ns : List Node) (ts us : List Target) → AreTargets es ns ts → AreTargets es ns us → AreTargets es ns (ts ++ us)
targets_append es ns [] us h k = k
targets_append es ns (t ∷ ts) us h k = (h.0, targets_append es ns ts us h.1 k)

bits_append : (ts us : List Target) → bits_in (ts ++ us) ≡ bits_in ts + bits_in us
bits_append [] us = omega arith
bits_append (t ∷ ts) us = ap (λ k. t.count + k) (bits_append ts us) ∙ omega arith

widths_append : (v : List Entry) (xs ys : List Lval) → lefts_width v (xs ++ ys) ≡ lefts_width v xs + lefts_width v ys
widths_append v [] ys = omega arith
widths_append v (x ∷ xs) ys = ap (λ k. left_width v x + k) (widths_append v xs ys) ∙ omega arith

map_append : (f : Target → Piece) (ts us : List Target) → map f (ts ++ us) ≡ map f ts ++ map f us
map_append f [] us = refl
map_append f (t ∷ ts) us = ap (λ r. f t ∷ r) (map_append f ts us)

flat_append : (f : Lval → List Piece) (xs ys : List Lval) → flat_map f (xs ++ ys) ≡ flat_map f xs ++ flat_map f ys
flat_append f [] ys = refl
flat_append f (x ∷ xs) ys = ap (λ r. f x ++ r) (flat_append f xs ys) ∙ sym (append_all (f x) (flat_map f xs) (flat_map f ys))

pub more_parts : (es : List Leaf) (ns : List Node) (ts us vs : List Target) (xs ys : List Lval) → AreParts es ns ts xs → AreParts es ns us ys → vs ≡ ts ++ us → AreParts es ns vs (xs ++ ys)
more_parts es ns ts us vs xs ys h k is = subst (λ z. AreParts es ns z (xs ++ ys)) (sym is) (record {
  targets = targets_append es ns ts us h.targets k.targets;
  bits = bits_append ts us ∙ (λ r. h.bits r + k.bits r) ∙ sym (widths_append (declared es) xs ys);
  pieces_are = λ gs e c m s. map_append (piece_of e ns es) ts us ∙ (λ r. h.pieces_are gs e c m s r ++ k.pieces_are gs e c m s r) ∙ sym (flat_append (pieces (flat gs) c) xs ys);
})

targets_kept : (es : List Leaf) (a b : List Node) (ts : List Target) → Keeps a b → AreTargets es a ts → AreTargets es b ts
targets_kept es a b [] k h = tt
targets_kept es a b (t ∷ ts) k h = (target_kept es es a b t refl k h.0, targets_kept es a b ts k h.1)

pieces_kept : (e : Naming) (es : List Leaf) (a b : List Node) (ts : List Target) → Keeps a b → AreTargets es a ts → pieces_of e b es ts ≡ pieces_of e a es ts
pieces_kept e es a b [] k h = refl
pieces_kept e es a b (t ∷ ts) k h = λ r. piece_same e es es a b t refl k h.0.spot r ∷ pieces_kept e es a b ts k h.1 r

shown_before : (e : Naming) (es : List Leaf) (a b : List Node) (c : Cycle) → Keeps a b → AreReady es a → AreShown e b es c → AreShown e a es c
shown_before e [] a b c k r h = tt
shown_before e (l ∷ es) a b c k r h = (h.0 ∙ number_kept e a b l.node l.width k r.1, shown_before e es a b c k r.2 h.1)

pub parts_kept : (es : List Leaf) (a b : List Node) (ts : List Target) (xs : List Lval) → AreReady es a → Keeps a b → AreParts es a ts xs → AreParts es b ts xs
parts_kept es a b ts xs r k h = record {
  targets = targets_kept es a b ts k h.targets;
  bits = h.bits;
  pieces_are = λ gs e c m s. pieces_kept e es a b ts k h.targets ∙ h.pieces_are gs e c m (shown_before e es a b c k r s);
}

-- ---- a concatenation

row_ready : {m : _} (es : List Entry) (row : Row_of-Lval m) → AreReadyLefts es row → EachReadyLeft es (items-the_row-Lval m row)
row_ready es end_of-Lval h = tt
row_ready es (more_of-Lval a rest) h = (h.0, row_ready es rest h.1)

pub concat_ready : (es : List Entry) (xs : List Lval) (tree : Lval) → tree ≡ l.Concat xs → IsReadyLeft es tree → EachReadyLeft es xs
concat_ready es xs tree is h =
    let k : AreReadyLefts es (hidden-the_row-Lval-0 xs) = subst (λ z. IsReadyLeft es z) is h in
    subst (λ z. EachReadyLeft es z) (items_hidden-the_row-Lval-0 xs) (row_ready es (hidden-the_row-Lval-0 xs) k)

pub each_ready : (es : List Entry) (xs : List Lval) (i : ℕ) (a d : Lval) → EachReadyLeft es xs → i < length xs → a ≡ get_or xs i d → IsReadyLeft es a
each_ready es [] i a d h lt e = absurd (omega arith)
each_ready es (x ∷ xs) zero a d h lt e = subst (λ z. IsReadyLeft es z) (sym e) h.0
each_ready es (x ∷ xs) (suc i) a d h lt e = each_ready es xs i a d h.1 (omega arith) e

row_wide : {m : _} (v : List Entry) (row : Row_of-Lval m) → row_width v row ≡ lefts_width v (items-the_row-Lval m row)
row_wide v end_of-Lval = refl
row_wide v (more_of-Lval a rest) = ap (λ k. left_width v a + k) (row_wide v rest)

pub row_flat : {m : _} (p : Place) (c : Cycle) (row : Row_of-Lval m) → row_pieces p c row ≡ flat_map (pieces p c) (items-the_row-Lval m row)
row_flat p c end_of-Lval = refl
row_flat p c (more_of-Lval a rest) = ap (λ k. pieces p c a ++ k) (row_flat p c rest)

pub concat_parts : (es : List Leaf) (ns : List Node) (tree : Lval) (xs ys : List Lval) (ts : List Target) → tree ≡ l.Concat xs → ys ≡ xs → AreParts es ns ts ys → AreParts es ns ts (tree ∷ [])
concat_parts es ns tree xs ys ts is same h = record {
  targets = h.targets;
  bits = h.bits ∙ ap (lefts_width (declared es)) same ∙ sym (ap (λ z. left_width (declared es) z + 0) is ∙ (wide ∙ nothing));
  pieces_are = λ gs e c k s. h.pieces_are gs e c k s ∙ ap (flat_map (pieces (flat gs) c)) same
      ∙ sym (append_none (pieces (flat gs) c tree) ∙ ap (pieces (flat gs) c) is ∙ row_flat (flat gs) c (hidden-the_row-Lval-0 xs) ∙ ap (flat_map (pieces (flat gs) c)) (items_hidden-the_row-Lval-0 xs));
}
  where
    v : List Entry
    v = declared es

    wide : left_width v (l.Concat xs) + 0 ≡ lefts_width v xs + 0
    wide = ap (λ k. k + 0) (row_wide v (hidden-the_row-Lval-0 xs) ∙ ap (lefts_width v) (items_hidden-the_row-Lval-0 xs))

    nothing : lefts_width v xs + 0 ≡ lefts_width v xs
    nothing = omega arith
