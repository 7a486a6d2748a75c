use Rattle.std.proofs.Common.{◌++◌, ◌∷◌, [], ap, ◌∙◌}
use Rattle.cdcl.specs.Lists.{list_at}
use Rattle.cdcl.proofs.ListLemmas.{set_is, at_is}
use Rattle.cdcl.proofs.lists.Lists.add.Goals as goal

pub returns : goal.returns
returns c =
    let xs = c.self.inside.lists.items in let lists = c.args.self.now in let lit = c.args.lit in
    let old = at_is xs lists lit c.code.result c.index_mut.result.now c.self.view_is c.code.ensures c.requires c.index_mut.ensures.value in
    set_is xs lists lit c.code.result c.push.new.self (list_at lists lit ++ c.args.number ∷ []) c.self.view_is c.code.ensures ((c.in_ok-push.ensures).items ∙ ap (λ ns. ns ++ c.args.number ∷ []) old)
