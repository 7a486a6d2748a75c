use Rattle.std.proofs.Common.{ap, ◌∙◌}
use Rattle.std.specs.List.{swap_remove}
use Rattle.cdcl.specs.Lists.{list_at}
use Rattle.cdcl.proofs.ListLemmas.{set_is, at_is, swap_remove_default}
use Rattle.cdcl.proofs.lists.Lists.remove.Goals as goal

pub returns : goal.returns
returns c =
    let xs = c.self.inside.lists.items in let lists = c.args.self.now in let lit = c.args.lit in
    let old = at_is xs lists lit c.code.result c.index_mut.result.now c.self.view_is c.code.ensures c.requires.room c.index_mut.ensures.value in
    set_is xs lists lit c.code.result c.swap_remove.new.self (swap_remove (list_at lists lit) c.args.i 0) c.self.view_is c.code.ensures
    (c.swap_remove.ensures.items ∙ (ap (λ ns. swap_remove ns c.args.i c.swap_remove.result) old ∙ swap_remove_default (list_at lists lit) c.args.i c.swap_remove.result 0 c.requires.within))
