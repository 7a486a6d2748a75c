-- The places at which an operator's operands may be taken.
use Rattle.std.proofs.Common.{◌≡◌, ℕ, Bool, true, false, refl, ap, ◌∙◌, subst, List}
use Rattle.vlog_tree.specs.declared.expr.Binary.{Binary}
use Rattle.vlog_tree.specs.declared.expr.Expr.{Expr}
use Rattle.vlog_tree.specs.declared.expr.Expr.TheVariants as e
use Rattle.vlog_tree.specs.declared.expr.Unary.{Unary}
use Rattle.vlog_tree.specs.Value.{width_of, sign_of}
use Rattle.vlog_tree_values.specs.declared.operators.Family.{Family}
use Rattle.vlog_tree_values.specs.Operators.{family_of, is_reduction, left_width, right_width, left_sign, right_sign, places_by_left, places_by_right}
use Rattle.vlog_tree_values.specs.Shapes.{HasShape}
use Rattle.vlog_tree_values.proofs.Forms.{unary_formed, binary_formed}
use Rattle.elab_step_expr.specs.declared.leaves.Leaf.{Leaf}
use Rattle.elab_step_expr.specs.Leaves.{declared}
use Rattle.elab_step_expr.specs.Terms.{IsTaken, IsInner, AreOperands}
use Rattle.vlog_tree_values.proofs.Lengths.{formed_shape}
use Rattle.vlog_tree_values.proofs.Counted.{left_width_by, right_width_by, left_sign_by, right_sign_by}
use Rattle.elab_step_expr.proofs.Parts.{unary_inner, binary_first, binary_second}

-- a reduction takes its operand by itself, and another unary operator at the place of the whole
pub reduced : (ls : List Leaf) (op : Unary) (a y : Expr) (L : ℕ) (s : Bool) (n : ℕ) (t : Bool) → is_reduction op ≡ true → y ≡ a → HasShape (declared ls) y n t → IsInner ls op a L s n t
reduced ls op a y L s n t test ya h = record {
  width = rw test (h.width ∙ ap (λ z. width_of (declared ls) z) ya);
  sign = rw test (h.sign ∙ ap (λ z. sign_of (declared ls) z) ya);
}

pub unreduced : (ls : List Leaf) (op : Unary) (a : Expr) (L : ℕ) (s : Bool) → is_reduction op ≡ false → IsInner ls op a L s L s
unreduced ls op a L s test = record { width = rw test refl; sign = rw test refl }

-- operands whose own lengths and signs don't count may have any
pub operands_where : (ls : List Leaf) (k : Family) (l r : Bool) (a b : Expr) (L : ℕ) (s : Bool) (m n i j : ℕ) (t u p q : Bool) → l ≡ places_by_left k → r ≡ places_by_right k →
    (l ≡ true → HasShape (declared ls) a m t) → (r ≡ true → HasShape (declared ls) b n u) → i ≡ left_width k L m n → p ≡ left_sign k s t u → j ≡ right_width k L m n → q ≡ right_sign k s t u → AreOperands ls k a b L s i p j q
operands_where ls k l r a b L s m n i j t u p q lk rk left right iw ps jw qs =
    let v = declared ls in
    let wide : (places_by_left k ≡ true → m ≡ width_of v a) × (places_by_right k ≡ true → n ≡ width_of v b) = (λ c. (left (lk ∙ c)).width, λ c. (right (rk ∙ c)).width) in
    let sign : (places_by_left k ≡ true → t ≡ sign_of v a) × (places_by_right k ≡ true → u ≡ sign_of v b) = (λ c. (left (lk ∙ c)).sign, λ c. (right (rk ∙ c)).sign) in
    record {
      left = iw ∙ left_width_by k L m n (width_of v a) (width_of v b) wide.0 wide.1;
      left_signed = ps ∙ left_sign_by k s t u (sign_of v a) (sign_of v b) sign.0 sign.1;
      right = jw ∙ right_width_by k L m n (width_of v a) (width_of v b) wide.0 wide.1;
      right_signed = qs ∙ right_sign_by k s t u (sign_of v a) (sign_of v b) sign.0 sign.1;
    }

pub operands_of : (ls : List Leaf) (op : Binary) (k : Family) (a b y z : Expr) (L : ℕ) (s : Bool) (i j : ℕ) (p q : Bool) → k ≡ family_of op → y ≡ a → z ≡ b → AreOperands ls k y z L s i p j q → AreOperands ls (family_of op) a b L s i p j q
operands_of ls op k a b y z L s i j p q ko ya zb h =
    subst (λ (x : Family). AreOperands ls x a b L s i p j q) ko (subst (λ (x : Expr). AreOperands ls k x b L s i p j q) ya (subst (λ (x : Expr). AreOperands ls k y x L s i p j q) zb h))

module _ (ls : List Leaf) (tree : Expr) (L : ℕ) (s : Bool) (h : IsTaken ls tree L s) where
  pub inner_taken : (op : Unary) (a : Expr) (n : ℕ) (t : Bool) → tree ≡ e.Unary op a → IsInner ls op a L s n t → IsTaken ls a n t
  inner_taken op a n t is k =
      let v = declared ls in
      unary_inner ls tree L s h op a a (width_of v a) n (sign_of v a) t is refl (formed_shape v a (unary_formed v op a tree is h.ready.formed)) k.width k.sign

  module _ (op : Binary) (a b : Expr) (i j : ℕ) (p q : Bool) where
    pub first_taken : tree ≡ e.Binary op a b → AreOperands ls (family_of op) a b L s i p j q → IsTaken ls a i p
    first_taken is k =
        let v = declared ls in
        let f = binary_formed v op a b tree is h.ready.formed in
        binary_first ls tree L s h op a b a b (width_of v a) (width_of v b) (sign_of v a) (sign_of v b) i j p q is refl refl (formed_shape v a f.0) (formed_shape v b f.1) k.left k.left_signed

    pub second_taken : tree ≡ e.Binary op a b → AreOperands ls (family_of op) a b L s i p j q → IsTaken ls b j q
    second_taken is k =
        let v = declared ls in
        let f = binary_formed v op a b tree is h.ready.formed in
        binary_second ls tree L s h op a b a b (width_of v a) (width_of v b) (sign_of v a) (sign_of v b) i j p q is refl refl (formed_shape v a f.0) (formed_shape v b f.1) k.right k.right_signed
