use Rattle.std.proofs.Common.{◌++◌, sym, ap, ◌∙◌}
use Rattle.elab_step_copies.proofs.Noting.{list_get, taken_at}
use Rattle.elab_step_copies.proofs.lists.take_list.Goals as goal

pub returns-clause-lists : goal.returns-clause-lists
returns-clause-lists c = taken_at c.args.lists.now.items c.args.at c.append.new.other c.requires c.in_ok-append.ensures.other_items

pub returns-clause-all : goal.returns-clause-all
returns-clause-all c = c.in_ok-append.ensures.items ∙ ap (λ xs. c.args.all.now.items ++ xs) (sym (list_get c.args.lists.now.items c.args.at c.index_mut.result.now _ c.requires c.index_mut.ensures.value))
