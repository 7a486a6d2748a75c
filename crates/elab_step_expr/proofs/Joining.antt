-- What an operator makes, by its family.
use Rattle.std.proofs.Common.{◌≡◌, ℕ, Bool, true, false, List, sym, ap, ◌∙◌, subst}
use Rattle.std.specs.Prelude.{if◌then◌else◌}
use Rattle.word_dag.specs.declared.node.Node.{Node}
use Rattle.vlog_tree.specs.declared.expr.Binary.{Binary}
use Rattle.vlog_tree.specs.declared.expr.Unary.{Unary}
use Rattle.vlog_tree.specs.Value.{bit, integer}
use Rattle.vlog_tree_values.specs.declared.operators.Family.{Family}
use Rattle.vlog_tree_values.specs.declared.operators.Family.TheVariants as f
use Rattle.vlog_tree_values.specs.Operators.{family_of, order_of, joined_number, made_number, is_reduction, reduction_of, sign_change_of}
use Rattle.elab_step_expr.specs.declared.nodes.Wire.{Wire}
use Rattle.elab_step_expr.specs.Nodes.{number_at, Makes}
use Rattle.elab_step_expr.proofs.Kept.{made_same, made_number as number_made}

module _ (d new : List Node) (r : ℕ) (op : Binary) (L : ℕ) (s t : Bool) (a b : Wire) where
  abbrev pub Whole : Family → Type 0
  Whole k = Makes new r L (λ e. joined_number k op L s a.width t (number_at e d a.node) (number_at e d b.node))

  module _ (mid : List Node) (i : ℕ) where
    pub by_order : family_of op ≡ f.Order → Makes mid i 1 (λ e. bit (order_of op (integer t a.width (number_at e d a.node)) (integer t a.width (number_at e d b.node)))) → Makes new r L (λ e. number_at e mid i) → Whole (family_of op)
    by_order h m k = subst Whole (sym h) (made_same new r L _ _ k (λ e. number_made e mid i 1 _ m))

module _ (d new : List Node) (r : ℕ) (op : Unary) (L : ℕ) (a : Wire) where
  reduced : (n x : ℕ) → is_reduction op ≡ true → bit (reduction_of op n x) ≡ made_number op n x
  reduced n x h = sym (ap (λ t. if t then bit (reduction_of op n x) else sign_change_of op n x) h)

  changed : (n x : ℕ) → is_reduction op ≡ false → sign_change_of op n x ≡ made_number op n x
  changed n x h = sym (ap (λ t. if t then bit (reduction_of op n x) else sign_change_of op n x) h)
