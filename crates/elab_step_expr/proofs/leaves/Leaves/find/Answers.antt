use Rattle.std.proofs.Common.{◌<◌, List, length, Some, get_or, arith, sym, subst, ap, ◌∙◌}
use Rattle.elab_step_expr.specs.declared.leaves.Leaf.{Leaf}
use Rattle.elab_step_expr.proofs.Placed.{leaf_placed, leaf_absent}
use Rattle.elab_step_expr.proofs.leaves.Leaves.find.Goals as goal

pub index-requires : goal.index-requires
index-requires c =
    let r = leaf_placed c.args.self.now c.args.name.now c.args.offset c.in-Some.place (sym c.place.ensures ∙ c.in-Some.is) in
    let lt : c.in-Some.place < length c.self.inside.leaves.items = subst (λ (ls : List Leaf). c.in-Some.place < length ls) (sym c.self.view_is) r.0 in
    omega arith

pub returns-in-Some-clause-found : goal.returns-in-Some-clause-found
returns-in-Some-clause-found c =
    let r = leaf_placed c.args.self.now c.args.name.now c.args.offset c.in-Some.place (sym c.place.ensures ∙ c.in-Some.is) in
    r.1 c.index.result.now ∙ ap Some (sym (c.index.ensures ∙ ap (λ (ls : List Leaf). get_or ls c.in-Some.place c.index.result.now) c.self.view_is))

pub returns-in-None-clause-none : goal.returns-in-None-clause-none
returns-in-None-clause-none c = leaf_absent c.args.self.now c.args.name.now c.args.offset (sym c.place.ensures ∙ c.in-None.is)
