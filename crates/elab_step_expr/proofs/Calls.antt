-- What the calls hand out.
use Rattle.std.proofs.Common.{◌≡◌, ℕ, ◌/◌, ◌%◌, ◌^◌, ◌≤◌, max, not, Bool, sym, ap, ◌∙◌, subst, List, arith}
use Rattle.std.specs.Prelude.{nat_eq}
use Rattle.std.proofs.Math.Nat.{div-one}
use Rattle.vlog_tree.specs.declared.expr.Expr.{Expr}
use Rattle.vlog_tree.specs.declared.valuation.Entry.{Entry}
use Rattle.vlog_tree.specs.Value.{IsDefined, HasConstantParts, width_of, sign_of, value_of, own_value, assigned, bit}
use Rattle.word_core.specs.Words.{Bits}
use Rattle.word_dag.specs.declared.node.Node.{Node}
use Rattle.word_dag.specs.Adding.{Keeps}
use Rattle.word_dag.specs.Nodes.{word_at}
use Rattle.vlog_tree.specs.Valuation.{IsLength}
use Rattle.elab_step_expr.proofs.Whole.{own_wide}
use Rattle.vlog_tree_values.specs.Shapes.{HasShape}
use Rattle.elab_step_expr.specs.declared.leaves.Leaf.{Leaf}
use Rattle.elab_step_expr.specs.declared.nodes.Wire.{Wire}
use Rattle.elab_step_expr.specs.Leaves.{valued, declared, AreReady}
use Rattle.elab_step_expr.specs.Nodes.{words, number_at, Makes}
use Rattle.elab_step_expr.specs.Terms.{nothing, IsTaken, HasNode, HasOwnNode}
use Rattle.elab_step_expr.proofs.Kept.{made_same, valued_kept}
use Rattle.elab_step_expr.proofs.Shaped.{shape_valued}

-- the right side of an assignment is taken at the longer of both lengths
pub assigned_taken : (ls : List Leaf) (a : Expr) (n width length : ℕ) (s : Bool) → HasShape (declared ls) a n s → length ≡ max n width → width ≤ 64 → HasConstantParts nothing a → IsDefined (declared ls) a (max (width_of (declared ls) a) width) (sign_of (declared ls) a) → IsTaken ls a length s
assigned_taken ls a n width length s h long most constant defined =
    let v = declared ls in
    let wide : length ≡ max (width_of v a) width = long ∙ ap (λ z. max z width) h.width in
    record {
      ready = record { formed = h.formed; some = omega (arith, long, h.length.0); long = omega (arith, wide); most = omega (arith, long, h.length.1, most) };
      constant = constant;
      defined = subst (λ z. IsDefined v a z s) (sym wide) (subst (λ z. IsDefined v a (max (width_of v a) width) z) (sym h.sign) defined);
    }

pub assigned_has : (ls : List Leaf) (old m new : List Node) (a : Expr) (n width length : ℕ) (s : Bool) (j i : ℕ) → AreReady ls old → Keeps old m → HasConstantParts nothing a → HasShape (declared ls) a n s → length ≡ max n width → HasNode ls m m a length s j →
    Makes new i width (λ e. number_at e m j / 2 ^ 0 % 2 ^ width) → Makes new i width (λ e. assigned (valued ls (words e old)) a width)
assigned_has ls old m new a n width length s j i ready keeps constant h long node made = made_same new i width _ _ made (λ e.
    let v = valued ls (words e old) in
    let k : HasShape v a n s = shape_valued ls (words e old) a constant n s h in
    let number : number_at e m j ≡ value_of v a length s = ap (λ (b : Bits). b.value) (node.word e).word ∙ ap (λ (z : List Entry). value_of z a length s) (valued_kept e ls old m keeps ready) in
    let wide : length ≡ max (width_of v a) width = long ∙ ap (λ z. max z width) k.width in
    ap (λ z. z % 2 ^ width) (div-one (number_at e m j) ∙ number ∙ ap (λ z. value_of v a z s) wide ∙ ap (λ z. value_of v a (max (width_of v a) width) z) k.sign))

pub holds_has : (ls : List Leaf) (old m new : List Node) (a : Expr) (w : Wire) (s : Bool) (i : ℕ) → AreReady ls old → Keeps old m → HasOwnNode ls m m a w s → Makes new i 1 (λ e. bit (not (nat_eq (number_at e m w.node) 0))) →
    Makes new i 1 (λ e. bit (not (nat_eq (own_value (valued ls (words e old)) a) 0)))
holds_has ls old m new a w s i ready keeps node made = made_same new i 1 _ _ made (λ e.
    ap (λ z. bit (not (nat_eq z 0))) ((node.word e).value ∙ ap (λ (z : List Entry). own_value z a) (valued_kept e ls old m keeps ready)))

word_by : (b : Bits) (n x : ℕ) → b.width ≡ n → b.value ≡ x → b ≡ record { width = n; value = x }
word_by b n x h k = λ r. let w : Bits = record { width = h r; value = k r } in w

pub own_has : (ls : List Leaf) (old m : List Node) (a : Expr) (w : Wire) (s : Bool) → AreReady ls old → Keeps old m → HasConstantParts nothing a → HasOwnNode ls m m a w s → Makes m w.node (width_of (declared ls) a) (λ e. own_value (valued ls (words e old)) a)
own_has ls old m a w s ready keeps constant node = record {
  within = node.node.0;
  wide = node.node.1 ∙ node.shape.width;
  word = λ e.
      word_by (word_at (words e m) w.node) (width_of (declared ls) a) (own_value (valued ls (words e old)) a) (sym (own_wide ls m m a w s constant node e) ∙ node.shape.width)
      ((node.word e).value ∙ ap (λ (z : List Entry). own_value z a) (valued_kept e ls old m keeps ready));
}

pub own_length : (ls : List Leaf) (m : List Node) (a : Expr) (w : Wire) (s : Bool) → HasOwnNode ls m m a w s → IsLength (width_of (declared ls) a)
own_length ls m a w s node = subst IsLength node.shape.width node.shape.length
