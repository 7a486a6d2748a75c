-- Shapes and values of expressions over the leaves' nodes.
use Rattle.std.proofs.Common.{◌≡◌, ℕ, ◌≤◌, Bool, sym, ap, ◌∙◌, subst, List, IsTrue, arith}
use Rattle.vlog_tree.specs.declared.expr.Expr.{Expr}
use Rattle.vlog_tree.specs.Value.{IsDefined, HasConstantParts, operand_of, own_defined, width_of, value_of}
use Rattle.vlog_tree_values.specs.Shapes.{HasShape, HasValue}
use Rattle.word_core.specs.Words.{Bits}
use Rattle.word_dag.specs.declared.node.Node.{Node}
use Rattle.word_dag.specs.Nodes.{word_at}
use Rattle.word_dag.specs.Adding.{Keeps}
use Rattle.elab_step_expr.specs.declared.leaves.Leaf.{Leaf}
use Rattle.elab_step_expr.specs.declared.nodes.Wire.{Wire}
use Rattle.elab_step_expr.specs.Leaves.{valued, declared, AreReady}
use Rattle.elab_step_expr.specs.Nodes.{words, Makes}
use Rattle.elab_step_expr.specs.Terms.{nothing, IsTaken, IsAlone, HasNode, HasOwnNode}
use Rattle.elab_step_expr.proofs.Alike.{same_operand, same_formed, own_same}
use Rattle.elab_step_expr.proofs.Read.{alike_valued}
use Rattle.elab_step_expr.proofs.Kept.{node_kept, valued_kept}

module _ (ls : List Leaf) (ws : List Bits) (a : Expr) (d : HasConstantParts nothing a) where
  pub shape_valued : (n : ℕ) (s : Bool) → HasShape (declared ls) a n s → HasShape (valued ls ws) a n s
  shape_valued n s h =
      let m = alike_valued ls ws in
      let o = same_operand (declared ls) (valued ls ws) a m d in
      record { formed = same_formed (declared ls) (valued ls ws) a m d h.formed; width = h.width ∙ o.width; sign = h.sign ∙ o.signed; length = h.length }

  pub defined_valued : (n : ℕ) (s : Bool) → IsDefined (declared ls) a n s → IsDefined (valued ls ws) a n s
  defined_valued n s h = subst IsTrue ((same_operand (declared ls) (valued ls ws) a (alike_valued ls ws) d).defined n s) h

  pub own_defined_valued : IsTrue (own_defined (operand_of (declared ls) a)) → IsTrue (own_defined (operand_of (valued ls ws) a))
  own_defined_valued h = subst IsTrue (own_same _ _ (same_operand (declared ls) (valued ls ws) a (alike_valued ls ws) d)) h

-- an expression that is taken by itself is taken at its own length and sign
pub alone_taken : (ls : List Leaf) (a : Expr) (n : ℕ) (s : Bool) → IsAlone ls a → HasShape (declared ls) a n s → IsTaken ls a n s
alone_taken ls a n s h g = record {
  ready = record { formed = h.formed; some = g.length.0; long = omega (arith, g.width); most = g.length.1 };
  constant = h.constant;
  defined = subst (λ k. IsDefined (declared ls) a k s) (sym g.width) (subst (λ t. IsDefined (declared ls) a (width_of (declared ls) a) t) (sym g.sign) h.defined);
}

pub alone_node : (ls : List Leaf) (old new : List Node) (a : Expr) (n : ℕ) (s : Bool) (i : ℕ) (w : Wire) → IsAlone ls a → HasShape (declared ls) a n s → HasNode ls old new a n s i → w ≡ record { node = i; width = n } → HasOwnNode ls old new a w s
alone_node ls old new a n s i w h g k is = subst (λ (z : Wire). HasOwnNode ls old new a z s) (sym is) (record {
  node = k.node;
  shape = g;
  word = λ e.
      let ws = words e old in
      let v = k.word e in
      let t = shape_valued ls ws a h.constant n s g in
      record {
        shape = subst (λ z. HasShape (valued ls ws) a z s) (sym (ap (λ (b : Bits). b.width) v.word)) t;
        defined = own_defined_valued ls ws a h.constant h.defined;
        value = ap (λ (b : Bits). b.value) v.word ∙ ap (λ z. value_of (valued ls ws) a z s) t.width ∙ ap (λ z. value_of (valued ls ws) a (width_of (valued ls ws) a) z) t.sign;
      };
})

-- a node in a dag that has grown before and after it
pub later : (ls : List Leaf) (a b c x : List Node) (t : Expr) (n : ℕ) (s : Bool) (i : ℕ) → AreReady ls a → Keeps a b → Keeps c x → HasNode ls b c t n s i → HasNode ls a x t n s i
later ls a b c x t n s i r k j h = record {
  node = node_kept c x i n j h.node;
  word = λ e. subst (λ v. HasValue v t n s (word_at (words e x) i)) (valued_kept e ls a b k r) (subst (λ w. HasValue (valued ls (words e b)) t n s w) (sym (j.values e i h.node.0)) (h.word e));
}

-- what the calls hand out
pub value_made : (ls : List Leaf) (old new : List Node) (a : Expr) (n : ℕ) (s : Bool) (i : ℕ) → HasNode ls old new a n s i → Makes new i n (λ e. value_of (valued ls (words e old)) a n s)
value_made ls old new a n s i h = record { within = h.node.0; wide = h.node.1; word = λ e. (h.word e).word }
