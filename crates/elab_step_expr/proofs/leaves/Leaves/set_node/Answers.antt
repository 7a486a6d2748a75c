use Rattle.std.proofs.Common.{sym, ◌∙◌, ap, subst, List, ◌≡◌, ◌<◌, length}
use Rattle.elab_step_expr.specs.declared.leaves.Leaf.{Leaf}
use Rattle.elab_step_expr.specs.Leaves.{AreWide, declared, with_node}
use Rattle.elab_step_expr.proofs.Leaving.{set_is, wide_with, declared_with}
use Rattle.elab_step_expr.proofs.leaves.Leaves.set_node.Goals as goal

pub invariant_of-self : goal.invariant_of-self
invariant_of-self c =
    let ls = c.self.inside.leaves.items in
    let lt : c.args.i < length ls = subst (λ (k : List Leaf). c.args.i < length k) (sym c.self.view_is) c.requires in
    let is = set_is ls c.args.i c.args.node c.index_mut.result.now lt c.index_mut.ensures.value in
    subst (λ (k : List Leaf). AreWide k × c.self.inside.entries ≡ declared k) (sym is)
    (wide_with ls c.args.i c.args.node c.self.invariant.0, c.self.invariant.1 ∙ sym (declared_with ls c.args.i c.args.node))

pub returns : goal.returns
returns c =
    let ls = c.self.inside.leaves.items in
    let lt : c.args.i < length ls = subst (λ (k : List Leaf). c.args.i < length k) (sym c.self.view_is) c.requires in
    set_is ls c.args.i c.args.node c.index_mut.result.now lt c.index_mut.ensures.value ∙ ap (λ (k : List Leaf). with_node k c.args.i c.args.node) c.self.view_is
