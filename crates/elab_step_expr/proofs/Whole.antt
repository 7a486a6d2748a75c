-- The node of each form of an expression, from those of its parts.
use Rattle.std.proofs.Common.{◌≡◌, ℕ, ◌%◌, ◌^◌, Bool, true, false, refl, sym, ap, ◌∙◌, subst, List}
use Rattle.std.specs.Prelude.{nat_eq, if◌then◌else◌}
use Rattle.vlog_tree.specs.declared.expr.Binary.{Binary}
use Rattle.vlog_tree.specs.declared.expr.Binary.TheVariants as b
use Rattle.vlog_tree.specs.declared.expr.Cast.{Cast}
use Rattle.vlog_tree.specs.declared.expr.Expr.{Expr}
use Rattle.vlog_tree.specs.declared.expr.Expr.TheVariants as e
use Rattle.vlog_tree.specs.declared.expr.Name.{Name}
use Rattle.vlog_tree.specs.declared.expr.Unary.{Unary}
use Rattle.vlog_tree.specs.Valuation.{named}
use Rattle.vlog_tree.specs.Value.{extend, HasConstantParts, NamesOnly, IsDivisionConstant}
use Rattle.word_core.specs.Words.{Bits}
use Rattle.word_dag.specs.declared.node.Node.{Node}
use Rattle.word_dag.specs.Nodes.{Naming, word_at}
use Rattle.vlog_tree_values.specs.declared.operators.Family.{Family}
use Rattle.vlog_tree_values.specs.declared.operators.Family.TheVariants as f
use Rattle.vlog_tree_values.specs.Operators.{family_of, is_joined, joined_number, made_number, inner_width, inner_sign, left_width, right_width, left_sign, right_sign}
use Rattle.vlog_tree_values.specs.Shapes.{HasShape}
use Rattle.vlog_tree_values.proofs.Values.{cast_value, paren_value, unary_value, binary_value, choice_value, taken_at}
use Rattle.elab_step_expr.specs.declared.leaves.Leaf.{Leaf}
use Rattle.elab_step_expr.specs.declared.nodes.Wire.{Wire}
use Rattle.elab_step_expr.specs.Leaves.{valued, declared}
use Rattle.elab_step_expr.specs.Nodes.{words, number_at, Makes}
use Rattle.elab_step_expr.specs.Terms.{nothing, IsTaken, IsAlone, HasNode, HasOwnNode}
use Rattle.elab_step_expr.proofs.Kept.{made_node}
use Rattle.elab_step_expr.proofs.Shaped.{shape_valued}

abbrev at : ℕ → ℕ → Bits
at n x = record { width = n; value = x }

pub name_has : (ls : List Leaf) (old new : List Node) (n : Name) (tree : Expr) (L : ℕ) (s : Bool) (i : ℕ) → tree ≡ e.Name n →
    Makes new i L (λ e. extend s (named (valued ls (words e old)) n).width L (named (valued ls (words e old)) n).value) → HasNode ls old new tree L s i
name_has ls old new n tree L s i is m = record {
  node = made_node new i L _ m;
  word = λ x. rw is (record { defined = refl; word = m.word x });
}

pub paren_has : (ls : List Leaf) (old new : List Node) (a tree y : Expr) (L : ℕ) (s : Bool) (i : ℕ) → tree ≡ e.Paren a → y ≡ a → HasNode ls old new y L s i → HasNode ls old new tree L s i
paren_has ls old new a tree y L s i is ya h = record { node = h.node; word = λ x. paren_value (valued ls (words x old)) a tree y L s (word_at (words x new) i) is ya (h.word x) }

pub unary_has : (ls : List Leaf) (old mid new : List Node) (op : Unary) (a tree y u : Expr) (L m p : ℕ) (s t q : Bool) (j i : ℕ) → tree ≡ e.Unary op a → y ≡ a → u ≡ a → IsTaken ls u p q → HasShape (declared ls) y m t →
    p ≡ inner_width op L m → q ≡ inner_sign op s t → HasNode ls old mid u p q j → Makes new i L (λ e. made_number op p (number_at e mid j)) → HasNode ls old new tree L s i
unary_has ls old mid new op a tree y u L m p s t q j i is ya ua k g pn qn h made = record {
  node = made_node new i L _ made;
  word = λ x.
      let ws = words x old in
      let r = word_at (words x mid) j in
      let yu : u ≡ y = ua ∙ sym ya in
      let g' : HasShape (valued ls ws) y m t = subst (λ z. HasShape (valued ls ws) z m t) yu (shape_valued ls ws u k.constant m t (subst (λ z. HasShape (declared ls) z m t) (sym yu) g)) in
      unary_value (valued ls ws) op a tree y u L m p s t q r (word_at (words x new) i) is ya ua g' pn qn (h.word x)
      (made.word x ∙ ap (λ n. at L (made_number op n r.value)) (sym (ap (λ (b : Bits). b.width) (h.word x).word)));
}

free : (k : Family) (y : ℕ) → (k ≡ f.Division → ⊥) → is_joined k true true y ≡ true
free f.Arithmetic y d = refl
free f.Division y d = absurd (d refl)
free f.Shift y d = refl
free f.Order y d = refl
free f.Equality y d = refl
free f.Logic y d = refl

pub binary_has : (ls : List Leaf) (old mid new : List Node) (op : Binary) (a b tree y u : Expr) (L m n j k : ℕ) (s t o p q : Bool) (g h i : ℕ) → tree ≡ e.Binary op a b → y ≡ a → u ≡ b → IsTaken ls y j p → IsTaken ls u k q →
    HasShape (declared ls) a m t → HasShape (declared ls) b n o → j ≡ left_width (family_of op) L m n → p ≡ left_sign (family_of op) s t o → k ≡ right_width (family_of op) L m n → q ≡ right_sign (family_of op) s t o →
    (family_of op ≡ f.Division → ⊥) → HasNode ls old mid y j p g → HasNode ls old mid u k q h → Makes new i L (λ e. joined_number (family_of op) op L s j p (number_at e mid g) (number_at e mid h)) → HasNode ls old new tree L s i
binary_has ls old mid new op a b tree y u L m n j k s t o p q g h i is ya ub left right sa sb jn pn kn qn apart x z made = record {
  node = made_node new i L _ made;
  word = λ e.
      let ws = words e old in
      let v = valued ls ws in
      let r = word_at (words e mid) g in
      let c = word_at (words e mid) h in
      let sa' : HasShape v a m t = shape_valued ls ws a (subst (HasConstantParts nothing) ya left.constant) m t sa in
      let sb' : HasShape v b n o = shape_valued ls ws b (subst (HasConstantParts nothing) ub right.constant) n o sb in
      let all = taken_at v op a b a b L j k m n s p q t o refl refl sa' sb' jn kn pn qn in
      binary_value v op a b tree y u L j k s p q r c (word_at (words e new) i) is ya ub all (x.word e) (z.word e) (free (family_of op) c.value apart)
      (made.word e ∙ ap (λ w. at L (joined_number (family_of op) op L s w p r.value c.value)) (sym (ap (λ (b : Bits). b.width) (x.word e).word)));
}

-- the length of a word that is taken by itself
pub own_wide : (ls : List Leaf) (old new : List Node) (a : Expr) (w : Wire) (s : Bool) → HasConstantParts nothing a → HasOwnNode ls old new a w s → (x : Naming) → w.width ≡ (word_at (words x new) w.node).width
own_wide ls old new a w s d h x = (shape_valued ls (words x old) a d w.width s h.shape).width ∙ sym (h.word x).shape.width

pub cast_has : (ls : List Leaf) (old mid new : List Node) (c : Cast) (a tree y : Expr) (L : ℕ) (s t : Bool) (w : Wire) (i : ℕ) → tree ≡ e.Cast c a → y ≡ a → IsAlone ls y → HasOwnNode ls old mid y w t →
    Makes new i L (λ e. extend s w.width L (number_at e mid w.node)) → HasNode ls old new tree L s i
cast_has ls old mid new c a tree y L s t w i is ya k h made = record {
  node = made_node new i L _ made;
  word = λ x.
      let r = word_at (words x mid) w.node in
      cast_value (valued ls (words x old)) c a tree y L s t r (word_at (words x new) i) is ya (h.word x)
      (made.word x ∙ ap (λ n. at L (extend s n L r.value)) (own_wide ls old mid y w t k.constant h x));
}

-- a word of a length by its number
wide_is : (b : Bits) (L n : ℕ) → b ≡ at L n → b ≡ at L b.value
wide_is b L n h = h ∙ ap (λ m. at L m) (sym (ap (λ (w : Bits). w.value) h))

pub choice_has : (ls : List Leaf) (old mid new : List Node) (c a b tree x y u : Expr) (L : ℕ) (s t : Bool) (w : Wire) (p q i : ℕ) → tree ≡ e.Choice c a b → x ≡ c → y ≡ a → u ≡ b → HasOwnNode ls old mid x w t → HasNode ls old mid y L s p → HasNode ls old mid u L s q →
    Makes new i L (λ e. if nat_eq (number_at e mid w.node) 0 then number_at e mid q else number_at e mid p) → HasNode ls old new tree L s i
choice_has ls old mid new c a b tree x y u L s t w p q i is xc ya ub h k g made = record {
  node = made_node new i L _ made;
  word = λ z.
      let o = word_at (words z mid) w.node in
      let j = word_at (words z mid) p in
      let l = word_at (words z mid) q in
      choice_value (valued ls (words z old)) c a b tree x y u L s t o j l (word_at (words z new) i) is xc ya ub (h.word z) (k.word z) (g.word z)
      (made.word z ∙ pick (nat_eq o.value 0) j l L (wide_is j L _ (k.word z).word) (wide_is l L _ (g.word z).word));
}
  where
    pick : (t : Bool) (j l : Bits) (L : ℕ) → j ≡ at L j.value → l ≡ at L l.value → at L (if t then l.value else j.value) ≡ (if t then l else j)
    pick true j l L hj hl = sym hl
    pick false j l L hj hl = sym hj

-- both operands of a division name nothing
pub division_names : (op : Binary) (a c : Expr) → family_of op ≡ f.Division → IsDivisionConstant nothing op a c → NamesOnly nothing a × NamesOnly nothing c
division_names b.Div a c h d = d
division_names b.Rem a c h d = d
division_names b.Mul a c h d = cc
division_names b.Add a c h d = cc
division_names b.Sub a c h d = cc
division_names b.Shl a c h d = cc
division_names b.Shr a c h d = cc
division_names b.ArithmeticShl a c h d = cc
division_names b.ArithmeticShr a c h d = cc
division_names b.Less a c h d = cc
division_names b.LessEqual a c h d = cc
division_names b.Greater a c h d = cc
division_names b.GreaterEqual a c h d = cc
division_names b.Equal a c h d = cc
division_names b.NotEqual a c h d = cc
division_names b.BitAnd a c h d = cc
division_names b.BitXor a c h d = cc
division_names b.BitXnor a c h d = cc
division_names b.BitOr a c h d = cc
division_names b.LogicalAnd a c h d = cc
division_names b.LogicalOr a c h d = cc
