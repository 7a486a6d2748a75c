-- Operands whose own lengths and signs don't count may have any.
use Rattle.std.proofs.Common.{◌≡◌, ℕ, Bool, true, false, refl, ◌∙◌, List}
use Rattle.std.specs.Prelude.{if◌then◌else◌}
use Rattle.vlog_tree.specs.declared.expr.Binary.{Binary}
use Rattle.vlog_tree.specs.declared.expr.Expr.{Expr}
use Rattle.vlog_tree.specs.declared.expr.Expr.TheVariants as e
use Rattle.vlog_tree.specs.declared.expr.Unary.{Unary}
use Rattle.vlog_tree.specs.declared.valuation.Entry.{Entry}
use Rattle.vlog_tree.specs.Value.{width_of, sign_of, IsFormed}
use Rattle.vlog_tree_values.specs.declared.operators.Family.{Family}
use Rattle.vlog_tree_values.specs.declared.operators.Family.TheVariants as f
use Rattle.vlog_tree_values.specs.Operators.{family_of, is_reduction, left_width, right_width, left_sign, right_sign, joined_width, joined_sign, inner_width, inner_sign, places_by_left, places_by_right, sizes_by_left, sizes_by_right}
use Rattle.vlog_tree_values.specs.Shapes.{HasShape, IsReady}
use Rattle.vlog_tree_values.proofs.Forms.{unary_formed, binary_formed}
use Rattle.vlog_tree_values.proofs.Lengths.{formed_shape}
use Rattle.vlog_tree_values.proofs.Shaped.{binary_shape}
use Rattle.vlog_tree_values.proofs.Values.{AreTaken, taken_at, binary_ready}

pub left_width_by : (k : Family) (L m n x y : ℕ) → (places_by_left k ≡ true → m ≡ x) → (places_by_right k ≡ true → n ≡ y) → left_width k L m n ≡ left_width k L x y
left_width_by f.Arithmetic L m n x y h g = refl
left_width_by f.Division L m n x y h g = refl
left_width_by f.Shift L m n x y h g = refl
left_width_by f.Order L m n x y h g = rw (h refl, g refl) refl
left_width_by f.Equality L m n x y h g = rw (h refl, g refl) refl
left_width_by f.Logic L m n x y h g = h refl

pub right_width_by : (k : Family) (L m n x y : ℕ) → (places_by_left k ≡ true → m ≡ x) → (places_by_right k ≡ true → n ≡ y) → right_width k L m n ≡ right_width k L x y
right_width_by f.Arithmetic L m n x y h g = refl
right_width_by f.Division L m n x y h g = refl
right_width_by f.Shift L m n x y h g = g refl
right_width_by f.Order L m n x y h g = rw (h refl, g refl) refl
right_width_by f.Equality L m n x y h g = rw (h refl, g refl) refl
right_width_by f.Logic L m n x y h g = g refl

pub left_sign_by : (k : Family) (s t u x y : Bool) → (places_by_left k ≡ true → t ≡ x) → (places_by_right k ≡ true → u ≡ y) → left_sign k s t u ≡ left_sign k s x y
left_sign_by f.Arithmetic s t u x y h g = refl
left_sign_by f.Division s t u x y h g = refl
left_sign_by f.Shift s t u x y h g = refl
left_sign_by f.Order s t u x y h g = rw (h refl, g refl) refl
left_sign_by f.Equality s t u x y h g = rw (h refl, g refl) refl
left_sign_by f.Logic s t u x y h g = h refl

pub right_sign_by : (k : Family) (s t u x y : Bool) → (places_by_left k ≡ true → t ≡ x) → (places_by_right k ≡ true → u ≡ y) → right_sign k s t u ≡ right_sign k s x y
right_sign_by f.Arithmetic s t u x y h g = refl
right_sign_by f.Division s t u x y h g = refl
right_sign_by f.Shift s t u x y h g = g refl
right_sign_by f.Order s t u x y h g = rw (h refl, g refl) refl
right_sign_by f.Equality s t u x y h g = rw (h refl, g refl) refl
right_sign_by f.Logic s t u x y h g = g refl

joined_width_by : (k : Family) (m n x y : ℕ) → (sizes_by_left k ≡ true → m ≡ x) → (sizes_by_right k ≡ true → n ≡ y) → joined_width k m n ≡ joined_width k x y
joined_width_by f.Arithmetic m n x y h g = rw (h refl, g refl) refl
joined_width_by f.Division m n x y h g = rw (h refl, g refl) refl
joined_width_by f.Shift m n x y h g = h refl
joined_width_by f.Order m n x y h g = refl
joined_width_by f.Equality m n x y h g = refl
joined_width_by f.Logic m n x y h g = refl

joined_sign_by : (k : Family) (t u x y : Bool) → (sizes_by_left k ≡ true → t ≡ x) → (sizes_by_right k ≡ true → u ≡ y) → joined_sign k t u ≡ joined_sign k x y
joined_sign_by f.Arithmetic t u x y h g = rw (h refl, g refl) refl
joined_sign_by f.Division t u x y h g = rw (h refl, g refl) refl
joined_sign_by f.Shift t u x y h g = h refl
joined_sign_by f.Order t u x y h g = refl
joined_sign_by f.Equality t u x y h g = refl
joined_sign_by f.Logic t u x y h g = refl

-- a binary operator's expression is as long as those of its operands say that count
pub sized_where : (v : List Entry) (op : Binary) (a b tree y z : Expr) (k : Family) (l r : Bool) (n m i : ℕ) (s t u : Bool) → tree ≡ e.Binary op a b → y ≡ a → z ≡ b → IsFormed v tree → k ≡ family_of op → l ≡ sizes_by_left k → r ≡ sizes_by_right k →
    (l ≡ true → HasShape v y m t) → (r ≡ true → HasShape v z i u) → n ≡ joined_width k m i → s ≡ joined_sign k t u → HasShape v tree n s
sized_where v op a b tree y z k l r n m i s t u is ya zb h ko lk rk left right wide sign =
    binary_shape v op a b tree y z k n s is ya zb h ko
    (wide ∙ joined_width_by k m i (width_of v y) (width_of v z) (λ c. (left (lk ∙ c)).width) (λ c. (right (rk ∙ c)).width))
    (sign ∙ joined_sign_by k t u (sign_of v y) (sign_of v z) (λ c. (left (lk ∙ c)).sign) (λ c. (right (rk ∙ c)).sign))

-- and its operands are taken where those say that count for it
pub taken_where : (v : List Entry) (op : Binary) (a b tree y z : Expr) (k : Family) (l r : Bool) (L i j m n : ℕ) (s p q t u : Bool) → tree ≡ e.Binary op a b → y ≡ a → z ≡ b → IsFormed v tree → k ≡ family_of op → l ≡ places_by_left k → r ≡ places_by_right k →
    (l ≡ true → HasShape v y m t) → (r ≡ true → HasShape v z n u) → i ≡ left_width k L m n → j ≡ right_width k L m n → p ≡ left_sign k s t u → q ≡ right_sign k s t u → AreTaken v op a b L i j s p q
taken_where v op a b tree y z k l r L i j m n s p q t u is ya zb h ko lk rk left right iw jw ps qs =
    let f = binary_formed v op a b tree is h in
    let wide : (places_by_left k ≡ true → m ≡ width_of v y) × (places_by_right k ≡ true → n ≡ width_of v z) = (λ c. (left (lk ∙ c)).width, λ c. (right (rk ∙ c)).width) in
    let sign : (places_by_left k ≡ true → t ≡ sign_of v y) × (places_by_right k ≡ true → u ≡ sign_of v z) = (λ c. (left (lk ∙ c)).sign, λ c. (right (rk ∙ c)).sign) in
    taken_at v op a b y z L i j (width_of v y) (width_of v z) s p q (sign_of v y) (sign_of v z) ya zb (formed_shape v y (rw ya f.0)) (formed_shape v z (rw zb f.1))
    (rw ko at (iw ∙ left_width_by k L m n (width_of v y) (width_of v z) wide.0 wide.1))
    (rw ko at (jw ∙ right_width_by k L m n (width_of v y) (width_of v z) wide.0 wide.1))
    (rw ko at (ps ∙ left_sign_by k s t u (sign_of v y) (sign_of v z) sign.0 sign.1))
    (rw ko at (qs ∙ right_sign_by k s t u (sign_of v y) (sign_of v z) sign.0 sign.1))

-- so they may be taken there
pub ready_where : (v : List Entry) (op : Binary) (a b tree : Expr) (L i j : ℕ) (s p q : Bool) → tree ≡ e.Binary op a b → IsReady v tree L → AreTaken v op a b L i j s p q → IsReady v a i × IsReady v b j
ready_where v op a b tree L i j s p q is r g =
    let f = binary_formed v op a b tree is r.formed in
    let h = binary_ready v op a b tree a b L (width_of v a) (width_of v b) (sign_of v a) (sign_of v b) is r refl refl (formed_shape v a f.0) (formed_shape v b f.1) in
    (rw g.left h.0, rw g.right h.1)

inner_width_by : (c : Bool) (L m x : ℕ) → (c ≡ true → m ≡ x) → (if c then m else L) ≡ (if c then x else L)
inner_width_by true L m x h = h refl
inner_width_by false L m x h = refl

inner_sign_by : (c : Bool) (s t x : Bool) → (c ≡ true → t ≡ x) → (if c then t else s) ≡ (if c then x else s)
inner_sign_by true s t x h = h refl
inner_sign_by false s t x h = refl

-- the same of a unary operator and its operand
pub inner_where : (v : List Entry) (op : Unary) (a tree y : Expr) (c : Bool) (L m p : ℕ) (s t q : Bool) → tree ≡ e.Unary op a → y ≡ a → IsFormed v tree → c ≡ is_reduction op → (c ≡ true → HasShape v y m t) → p ≡ inner_width op L m → q ≡ inner_sign op s t →
    HasShape v y (width_of v y) (sign_of v y) × (p ≡ inner_width op L (width_of v y)) × (q ≡ inner_sign op s (sign_of v y))
inner_where v op a tree y c L m p s t q is ya h co shape pw qs = (
  formed_shape v y (rw ya (unary_formed v op a tree is h)),
  pw ∙ inner_width_by (is_reduction op) L m (width_of v y) (λ d. (shape (co ∙ d)).width),
  qs ∙ inner_sign_by (is_reduction op) s t (sign_of v y) (λ d. (shape (co ∙ d)).sign),
)
