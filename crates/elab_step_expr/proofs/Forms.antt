-- The node of each form of an expression, over the leaves of the dag in which it stands.
use Rattle.std.proofs.Common.{◌≡◌, ℕ, ◌^◌, ◌%◌, ◌≤◌, Bool, refl, sym, ap, ◌∙◌, subst, List, arith, ℤ, pos, negsuc, ◌-ℤ◌}
use Rattle.std.specs.Prelude.{nat_eq, if◌then◌else◌}
use Rattle.vlog_tree.specs.declared.expr.Binary.{Binary}
use Rattle.vlog_tree.specs.declared.expr.Cast.{Cast}
use Rattle.vlog_tree.specs.declared.expr.Constant.{Constant}
use Rattle.vlog_tree.specs.declared.expr.Expr.{Expr}
use Rattle.vlog_tree.specs.declared.expr.Expr.TheVariants as e
use Rattle.vlog_tree.specs.declared.expr.Name.{Name}
use Rattle.vlog_tree.specs.declared.expr.Span.{Span}
use Rattle.vlog_tree.specs.declared.expr.Span.TheVariants as span
use Rattle.vlog_tree.specs.declared.expr.Unary.{Unary}
use Rattle.vlog_tree.specs.declared.valuation.Entry.{Entry}
use Rattle.vlog_tree.specs.Valuation.{named, depth_of}
use Rattle.vlog_tree.specs.Value.{Operand, operand_of, own_integer, natural, extend, integer, moved_down, bits_of, bit_of, word_of, part_of, part_low, part_width, width_of, sign_of, value_of, IsFormed, NamesOnly, HasConstantParts, IsPartConstant}
use Rattle.word_core.specs.Words.{Bits}
use Rattle.word_dag.specs.declared.node.Node.{Node}
use Rattle.word_dag.specs.Nodes.{Naming, word_at}
use Rattle.word_dag.specs.Adding.{Keeps}
use Rattle.vlog_tree_values.specs.declared.operators.Family.{Family}
use Rattle.vlog_tree_values.specs.declared.operators.Family.TheVariants as f
use Rattle.vlog_tree_values.specs.Operators.{family_of, joined_number, made_number, left_width, right_width, PlacesFit}
use Rattle.vlog_tree_values.specs.Shapes.{HasShape, HasValue, HasOwn}
use Rattle.vlog_tree_values.proofs.Facts.{own_is}
use Rattle.vlog_tree_values.proofs.Forms.{select_operand, part_operand, constant_select_operand, constant_part_operand, cast_operand}
use Rattle.elab_step_expr.specs.declared.leaves.Leaf.{Leaf}
use Rattle.elab_step_expr.specs.declared.nodes.Wire.{Wire}
use Rattle.elab_step_expr.specs.declared.operands.Vector.{Vector}
use Rattle.elab_step_expr.specs.Leaves.{valued, declared, AreReady}
use Rattle.elab_step_expr.specs.Nodes.{words, number_at, Makes}
use Rattle.elab_step_expr.specs.Terms.{nothing, IsTaken, IsAlone, IsInner, AreOperands, HasNode, HasOwnNode}
use Rattle.elab_step_expr.specs.Vectors.{IsVector}
use Rattle.elab_step_expr.proofs.Alike.{constant_same}
use Rattle.elab_step_expr.proofs.Kept.{made_node, node_kept, valued_kept}
use Rattle.vlog_tree_values.proofs.Lengths.{formed_shape}
use Rattle.elab_step_expr.proofs.Parts.{binary_constant, part_constant, constant_part_constant, binary_names, constant_part_names}
use Rattle.elab_step_expr.proofs.Read.{depth_is}
use Rattle.elab_step_expr.proofs.Shaped.{shape_valued, defined_valued}
use Rattle.elab_step_expr.proofs.Whole.{unary_has, binary_has, cast_has, choice_has, own_wide, division_names}

abbrev at : ℕ → ℕ → Bits
at n x = record { width = n; value = x }

-- ---- a dag that grows

-- the leaves have the same values in the dag before
pub settled : (ls : List Leaf) (a b : List Node) (t : Expr) (n : ℕ) (s : Bool) (i : ℕ) → AreReady ls a → Keeps a b → HasNode ls a b t n s i → HasNode ls b b t n s i
settled ls a b t n s i r k h = record { node = h.node; word = λ x. subst (λ v. HasValue v t n s (word_at (words x b) i)) (sym (valued_kept x ls a b k r)) (h.word x) }

-- and after
pub unsettled : (ls : List Leaf) (a b : List Node) (t : Expr) (n : ℕ) (s : Bool) (i : ℕ) → AreReady ls a → Keeps a b → HasNode ls b b t n s i → HasNode ls a b t n s i
unsettled ls a b t n s i r k h = record { node = h.node; word = λ x. subst (λ v. HasValue v t n s (word_at (words x b) i)) (valued_kept x ls a b k r) (h.word x) }

pub node_still : (ls : List Leaf) (a b : List Node) (t : Expr) (n : ℕ) (s : Bool) (i : ℕ) → AreReady ls a → Keeps a b → HasNode ls a a t n s i → HasNode ls b b t n s i
node_still ls a b t n s i r k h = settled ls a b t n s i r k (record {
  node = node_kept a b i n k h.node;
  word = λ x. subst (λ w. HasValue (valued ls (words x a)) t n s w) (sym (k.values x i h.node.0)) (h.word x);
})

pub own_still : (ls : List Leaf) (a b : List Node) (t : Expr) (w : Wire) (s : Bool) → AreReady ls a → Keeps a b → HasOwnNode ls a a t w s → HasOwnNode ls b b t w s
own_still ls a b t w s r k h = record {
  node = node_kept a b w.node w.width k h.node;
  shape = h.shape;
  word = λ x.
      subst (λ v. HasOwn v t (word_at (words x b) w.node) s) (sym (valued_kept x ls a b k r))
      (subst (λ z. HasOwn (valued ls (words x a)) t z s) (sym (k.values x w.node h.node.0)) (h.word x));
}

-- ---- numbers and names

-- ---- an expression that names nothing

pub constant_has : (ls : List Leaf) (new : List Node) (tree : Expr) (L : ℕ) (s : Bool) (i : ℕ) → NamesOnly nothing tree → IsTaken ls tree L s → Makes new i L (λ x. value_of (declared ls) tree L s) → HasNode ls new new tree L s i
constant_has ls new tree L s i names taken made = record {
  node = made_node new i L _ made;
  word = λ x. record {
    defined = defined_valued ls (words x new) tree taken.constant L s taken.defined;
    word = made.word x ∙ ap (λ (o : Operand). at L (o.value L s)) (constant_same (declared ls) (valued ls (words x new)) tree names);
  };
}

pub division_constant : (op : Binary) (a b tree : Expr) → tree ≡ e.Binary op a b → HasConstantParts nothing tree → family_of op ≡ f.Division → NamesOnly nothing tree
division_constant op a b tree is h div = binary_names op a b tree is (division_names op a b div (binary_constant op a b tree is h).2)

pub fixed_constant : (k : Constant) (p : Span) (a b tree : Expr) → tree ≡ e.ConstantPart k p a b → HasConstantParts nothing tree → p ≡ span.Fixed → NamesOnly nothing tree
fixed_constant k p a b tree is h fixed = constant_part_names k p a b tree is (subst (λ z. IsPartConstant nothing z a b) fixed (constant_part_constant k p a b tree is h).2)

-- ---- bits of vectors

module _ (ls : List Leaf) (m new : List Node) (k : List Entry → Constant) (V : Vector) (tree : Expr) (L : ℕ) (s : Bool) (ready : AreReady ls m) (keeps : Keeps m new) (taken : IsTaken ls tree L s) (vector : IsVector ls m k V) where
  pub bits_has : (from : Naming → ℤ) (n i : ℕ) → ((x : Naming) → value_of (valued ls (words x m)) tree L s ≡ bits_of (k (valued ls (words x m))) (from x) n) →
      Makes new i L (λ x. moved_down (from x -ℤ pos V.low) (number_at x m V.wire.node) % 2 ^ n) → HasNode ls new new tree L s i
  bits_has from n i value made = settled ls m new tree L s i ready keeps (record {
    node = made_node new i L _ made;
    word = λ x.
        let low = sym (vector.low x) in
        let number = vector.number x in
        record {
          defined = defined_valued ls (words x m) tree taken.constant L s taken.defined;
          word = made.word x ∙ (λ j. at L (moved_down (from x -ℤ pos (low j)) (number j) % 2 ^ n)) ∙ ap (λ n. at L n) (sym (value x));
        };
  })

-- the integer that an index is
own_integer_is : (ls : List Leaf) (m : List Node) (a y : Expr) (w : Wire) (t : Bool) (x : Naming) → y ≡ a → HasConstantParts nothing y → HasOwnNode ls m m y w t → integer t w.width (number_at x m w.node) ≡ own_integer (operand_of (valued ls (words x m)) a)
own_integer_is ls m a y w t x ya d h =
    ap (λ n. integer t n (number_at x m w.node)) (own_wide ls m m y w t d h x) ∙ own_is (valued ls (words x m)) a y (word_at (words x m) w.node) t ya (h.word x)

as_operand : (v : List Entry) (tree : Expr) (L : ℕ) (s : Bool) (o : Operand) → operand_of v tree ≡ o → value_of v tree L s ≡ o.value L s
as_operand v tree L s o h = ap (λ (z : Operand). z.value L s) h

module _ (ls : List Leaf) (m : List Node) (a tree y : Expr) (L : ℕ) (s t : Bool) (w : Wire) (ya : y ≡ a) (d : HasConstantParts nothing y) (h : HasOwnNode ls m m y w t) (x : Naming) where
  abbrev pub index_at : ℤ
  index_at = integer t w.width (number_at x m w.node)

  pub select_bits : (n : Name) → tree ≡ e.Select n a → value_of (valued ls (words x m)) tree L s ≡ bits_of (named (valued ls (words x m)) n) index_at 1
  select_bits n is =
      let v = valued ls (words x m) in
      let flat : depth_of v n ≡ 0 = depth_is (λ l. number_at x m l.node) ls n in
      let o : operand_of v tree ≡ bit_of (named v n) (operand_of v a) =
      ap (λ z. operand_of v z) is ∙ select_operand v n a ∙ ap (λ z. if nat_eq z 0 then bit_of (named v n) (operand_of v a) else word_of v n (operand_of v a)) flat in
      as_operand v tree L s _ o ∙ ap (λ z. bits_of (named v n) z 1) (sym (own_integer_is ls m a y w t x ya d h))

  pub constant_select_bits : (k : Constant) → tree ≡ e.ConstantSelect k a → value_of (valued ls (words x m)) tree L s ≡ bits_of k index_at 1
  constant_select_bits k is =
      let v = valued ls (words x m) in
      let o : operand_of v tree ≡ bit_of k (operand_of v a) = ap (λ z. operand_of v z) is ∙ constant_select_operand v k a in
      as_operand v tree L s _ o ∙ ap (λ z. bits_of k z 1) (sym (own_integer_is ls m a y w t x ya d h))

-- ---- part-selects

is_pos : (z : ℤ) (n : ℕ) → 1 ≤ n → n ≡ natural z → z ≡ pos n
is_pos (pos k) n some h = ap pos (sym h)
is_pos (negsuc k) n some h = absurd (omega (arith, h, some))

part_wide : (ls : List Leaf) (ws : List Bits) (k : Constant) (p : Span) (a b tree : Expr) (n : ℕ) (t : Bool) → HasConstantParts nothing tree → HasShape (declared ls) tree n t → operand_of (valued ls ws) tree ≡ part_of k p (operand_of (valued ls ws) a) (operand_of (valued ls ws) b) →
    n ≡ part_width p (own_integer (operand_of (valued ls ws) a)) (own_integer (operand_of (valued ls ws) b))
part_wide ls ws k p a b tree n t d h o = (shape_valued ls ws tree d n t h).width ∙ ap (λ (z : Operand). z.width) o

based : (p : Span) (k : Constant) (A B : Operand) (L n : ℕ) (s : Bool) (i : ℤ) → (p ≡ span.Fixed → ⊥) → 1 ≤ n → i ≡ own_integer A → n ≡ part_width p (own_integer A) (own_integer B) → (part_of k p A B).value L s ≡ bits_of k (part_low p i (pos n)) n
based span.Fixed k A B L n s i varies some ia wide = absurd (varies refl)
based span.Up k A B L n s i varies some ia wide =
    let j = is_pos (own_integer B) n some wide in
    let i' = sym ia in
    λ r. bits_of k (part_low span.Up (i' r) (j r)) (sym wide r)
based span.Down k A B L n s i varies some ia wide =
    let j = is_pos (own_integer B) n some wide in
    let i' = sym ia in
    λ r. bits_of k (part_low span.Down (i' r) (j r)) (sym wide r)

fixed : (p : Span) (k : Constant) (A B : Operand) (L n : ℕ) (s : Bool) (low : ℤ) → p ≡ span.Fixed → low ≡ own_integer B → n ≡ part_width p (own_integer A) (own_integer B) → (part_of k p A B).value L s ≡ bits_of k low n
fixed span.Fixed k A B L n s low is lb wide =
    let l = sym lb in
    let n' = sym wide in
    λ r. bits_of k (l r) (n' r)
fixed span.Up k A B L n s low is lb wide = cc
fixed span.Down k A B L n s low is lb wide = cc

fixed_second : (p : Span) (a b : Expr) → p ≡ span.Fixed → IsPartConstant nothing p a b → NamesOnly nothing b
fixed_second p a b is h = (subst (λ z. IsPartConstant nothing z a b) is h).1

fixed_bits_are : (ls : List Leaf) (m : List Node) (n : Name) (p : Span) (a b tree : Expr) (L : ℕ) (s : Bool) (width : ℕ) (t : Bool) (low : ℤ) (x : Naming) → tree ≡ e.Part n p a b → p ≡ span.Fixed → HasConstantParts nothing tree → HasShape (declared ls) tree width t →
    low ≡ own_integer (operand_of (declared ls) b) → value_of (valued ls (words x m)) tree L s ≡ bits_of (named (valued ls (words x m)) n) low width
fixed_bits_are ls m n p a b tree L s width t low x is fx d h lb =
    let v = valued ls (words x m) in
    let o : operand_of v tree ≡ part_of (named v n) p (operand_of v a) (operand_of v b) = ap (λ z. operand_of v z) is ∙ part_operand v n p a b in
    let names = fixed_second p a b fx (part_constant n p a b tree is d).2 in
    as_operand v tree L s _ o
    ∙ fixed p (named v n) (operand_of v a) (operand_of v b) L width s low fx (lb ∙ ap (λ (z : Operand). own_integer z) (constant_same (declared ls) v b names))
    (part_wide ls (words x m) (named v n) p a b tree width t d h o)

pub fixed_has : (ls : List Leaf) (m new : List Node) (V : Vector) (n : Name) (p : Span) (a b tree : Expr) (L : ℕ) (s : Bool) (width : ℕ) (t : Bool) (low : ℤ) (i : ℕ) → AreReady ls m → Keeps m new → IsTaken ls tree L s → IsVector ls m (λ v. named v n) V → tree ≡ e.Part n p a b → p ≡ span.Fixed →
    HasShape (declared ls) tree width t → Makes new i L (λ x. moved_down (low -ℤ pos V.low) (number_at x m V.wire.node) % 2 ^ width) → low ≡ own_integer (operand_of (declared ls) b) → HasNode ls new new tree L s i
fixed_has ls m new V n p a b tree L s width t low i ready keeps taken vector is fx shape made lb =
    bits_has ls m new (λ v. named v n) V tree L s ready keeps taken vector (λ x. low) width i (λ x. fixed_bits_are ls m n p a b tree L s width t low x is fx taken.constant shape lb) made

module _ (ls : List Leaf) (m : List Node) (p : Span) (a b tree y : Expr) (L : ℕ) (s t o : Bool) (width : ℕ) (w : Wire) (varies : p ≡ span.Fixed → ⊥) (c : HasConstantParts nothing tree) (shape : HasShape (declared ls) tree width o) (ya : y ≡ a) (d : HasConstantParts nothing y) (h : HasOwnNode ls m m y w t) (x : Naming) where
  abbrev pub base_at : ℤ
  base_at = part_low p (integer t w.width (number_at x m w.node)) (pos width)

  based_by : (k : Constant) → operand_of (valued ls (words x m)) tree ≡ part_of k p (operand_of (valued ls (words x m)) a) (operand_of (valued ls (words x m)) b) → value_of (valued ls (words x m)) tree L s ≡ bits_of k base_at width
  based_by k z =
      let v = valued ls (words x m) in
      as_operand v tree L s _ z
      ∙ based p k (operand_of v a) (operand_of v b) L width s (integer t w.width (number_at x m w.node)) varies shape.length.0 (own_integer_is ls m a y w t x ya d h)
      (part_wide ls (words x m) k p a b tree width o c shape z)

  pub based_bits_are : (n : Name) → tree ≡ e.Part n p a b → value_of (valued ls (words x m)) tree L s ≡ bits_of (named (valued ls (words x m)) n) base_at width
  based_bits_are n is = let v = valued ls (words x m) in based_by (named v n) (ap (λ z. operand_of v z) is ∙ part_operand v n p a b)

  pub constant_bits_are : (k : Constant) → tree ≡ e.ConstantPart k p a b → value_of (valued ls (words x m)) tree L s ≡ bits_of k base_at width
  constant_bits_are k is = let v = valued ls (words x m) in based_by k (ap (λ z. operand_of v z) is ∙ constant_part_operand v k p a b)

-- ---- casts

pub cast_wide : (ls : List Leaf) (m : List Node) (c : Cast) (a tree y : Expr) (L : ℕ) (t : Bool) (w : Wire) → tree ≡ e.Cast c a → y ≡ a → HasOwnNode ls m m y w t → width_of (declared ls) tree ≤ L → w.width ≤ L
cast_wide ls m c a tree y L t w is ya h le =
    let le' : width_of (declared ls) a ≤ L = rw (is, width_of, cast_operand) at le in
    let same : w.width ≡ width_of (declared ls) a = h.shape.width ∙ ap (λ z. width_of (declared ls) z) ya in
    omega (arith, same, le')

pub cast_done : (ls : List Leaf) (m new : List Node) (c : Cast) (a tree y : Expr) (L : ℕ) (s t : Bool) (w : Wire) (i : ℕ) → AreReady ls m → Keeps m new → tree ≡ e.Cast c a → y ≡ a → IsAlone ls y → HasOwnNode ls m m y w t →
    Makes new i L (λ x. extend s w.width L (number_at x m w.node)) → HasNode ls new new tree L s i
cast_done ls m new c a tree y L s t w i ready keeps is ya alone h made = settled ls m new tree L s i ready keeps (cast_has ls m m new c a tree y L s t w i is ya alone h made)

-- ---- operators

pub unary_done : (ls : List Leaf) (m new : List Node) (op : Unary) (a tree y : Expr) (L : ℕ) (s : Bool) (p : ℕ) (q : Bool) (j i : ℕ) → AreReady ls m → Keeps m new → tree ≡ e.Unary op a → y ≡ a → IsTaken ls y p q → IsInner ls op a L s p q → HasNode ls m m y p q j →
    Makes new i L (λ x. made_number op p (number_at x m j)) → HasNode ls new new tree L s i
unary_done ls m new op a tree y L s p q j i ready keeps is ya taken place h made =
    settled ls m new tree L s i ready keeps (unary_has ls m m new op a tree a y L (width_of (declared ls) a) p s (sign_of (declared ls) a) q j i is refl ya taken (formed_shape (declared ls) a (subst (IsFormed (declared ls)) ya taken.ready.formed)) place.width place.sign h made)

places : (k : Family) (L m n : ℕ) → PlacesFit k L (left_width k L m n) (right_width k L m n)
places f.Arithmetic L m n = (refl, refl)
places f.Division L m n = (refl, refl)
places f.Shift L m n = refl
places f.Order L m n = refl
places f.Equality L m n = refl
places f.Logic L m n = tt

pub binary_done : (ls : List Leaf) (one m new : List Node) (op : Binary) (a b tree y u : Expr) (L : ℕ) (s : Bool) (j : ℕ) (p : Bool) (k : ℕ) (q : Bool) (g h i : ℕ) → AreReady ls one → Keeps one m → AreReady ls m → Keeps m new → tree ≡ e.Binary op a b → y ≡ a → u ≡ b →
    IsTaken ls y j p → IsTaken ls u k q → AreOperands ls (family_of op) a b L s j p k q → (family_of op ≡ f.Division → ⊥) → HasNode ls one one y j p g → HasNode ls m m u k q h →
    Makes new i L (λ x. joined_number (family_of op) op L s j p (number_at x m g) (number_at x m h)) → HasNode ls new new tree L s i
binary_done ls one m new op a b tree y u L s j p k q g h i r kept ready keeps is ya ub left right o apart x z made =
    settled ls m new tree L s i ready keeps
    (binary_has ls m m new op a b tree y u L (width_of (declared ls) a) (width_of (declared ls) b) j k s (sign_of (declared ls) a) (sign_of (declared ls) b) p q g h i is ya ub left right (formed_shape (declared ls) a (subst (IsFormed (declared ls)) ya left.ready.formed)) (formed_shape (declared ls) b (subst (IsFormed (declared ls)) ub right.ready.formed)) o.left o.left_signed o.right o.right_signed apart (node_still ls one m y j p g r kept x) z made)

pub choice_done : (ls : List Leaf) (one two m new : List Node) (c a b tree x y u : Expr) (L : ℕ) (s t : Bool) (w : Wire) (p q i : ℕ) → AreReady ls one → Keeps one two → AreReady ls two → Keeps two m → AreReady ls m → Keeps m new → tree ≡ e.Choice c a b → x ≡ c → y ≡ a → u ≡ b →
    HasOwnNode ls one one x w t → HasNode ls two two y L s p → HasNode ls m m u L s q → Makes new i L (λ e. if nat_eq (number_at e m w.node) 0 then number_at e m q else number_at e m p) → HasNode ls new new tree L s i
choice_done ls one two m new c a b tree x y u L s t w p q i r k r2 k2 ready keeps is xc ya ub h left right made =
    settled ls m new tree L s i ready keeps
    (choice_has ls m m new c a b tree x y u L s t w p q i is xc ya ub (own_still ls two m x w t r2 k2 (own_still ls one two x w t r k h)) (node_still ls two m y L s p r2 k2 left) right made)
