use Rattle.std.proofs.Common.{sym, ◌∙◌, ap, subst, List, ◌≡◌, ◌++◌, ◌∷◌, []}
use Rattle.vlog_tree.specs.declared.valuation.Entry.{Entry}
use Rattle.elab_step_expr.specs.declared.leaves.Leaf.{Leaf}
use Rattle.elab_step_expr.specs.Leaves.{AreWide, declared}
use Rattle.elab_step_expr.proofs.Leaving.{wide_push, declared_push}
use Rattle.elab_step_expr.proofs.leaves.Leaves.push.Goals as goal

pub invariant_of-self-2 : goal.invariant_of-self-2
invariant_of-self-2 c =
    let ls = c.self.inside.leaves.items in
    let is : c.push-2.new.self.items ≡ ls ++ c.args.leaf ∷ [] = c.in_ok-push-2.ensures.items ∙ ap (λ (k : List Leaf). k ++ c.args.leaf ∷ []) c.in_ok-reserve.ensures.items in
    let same : c.push.new.self ≡ declared (ls ++ c.args.leaf ∷ []) = c.in_ok-push.ensures.ok ∙ ap (λ (k : List Entry). k ++ c.in_ok-entry.entry ∷ []) c.self.invariant.1
    ∙ ap (λ (e : Entry). declared ls ++ e ∷ []) c.in_ok-entry.ensures ∙ sym (declared_push ls c.args.leaf) in
    subst (λ (k : List Leaf). AreWide k × c.push.new.self ≡ declared k) (sym is) (wide_push ls c.args.leaf c.self.invariant.0 c.requires, same)
