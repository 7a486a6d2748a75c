use Rattle.std.proofs.lemmas.Result.{IfOk-weaker}
use Rattle.mem_flat.proofs.Lefts.{select_asked}
use Rattle.mem_flat.proofs.Stores.{word_depth, word_part, not_name, not_part, not_concat}
use Rattle.mem_flat.proofs.spreader.Spreader.word_of_store.Goals as goal

pub indexed_store-requires-clause-index : goal.indexed_store-requires-clause-index
indexed_store-requires-clause-index c =
    let v = c.args.self.now.rest.now in
    (select_asked v c.args.left.now c.in-Select.name c.in-Select.index c.in-Select.is c.requires.ready).0 (word_depth v c.args.left.now c.in-Select.name c.in-Select.index c.in-Select.is c.requires.word)

pub indexed_store-requires-clause-ready : goal.indexed_store-requires-clause-ready
indexed_store-requires-clause-ready c = (select_asked c.args.self.now.rest.now c.args.left.now c.in-Select.name c.in-Select.index c.in-Select.is c.requires.ready).1

pub returns : goal.returns
returns c =
    IfOk-weaker c.indexed_store.result _ _
    (λ r h. word_part c.args.self.now.rest.now c.args.left.now c.in-Select.name c.in-Select.index c.args.right.now r c.in-Select.is c.requires.word h) c.indexed_store.ensures

pub unreachable-requires : goal.unreachable-requires
unreachable-requires c = let z = not_name c.args.self.now.rest.now c.args.left.now _ c.in-Name.is c.requires.word in cc

pub unreachable-requires-in-Part : goal.unreachable-requires-in-Part
unreachable-requires-in-Part c = let z = not_part c.args.self.now.rest.now c.args.left.now _ _ _ _ c.in-Part.is c.requires.word in cc

pub unreachable-requires-in-Concat : goal.unreachable-requires-in-Concat
unreachable-requires-in-Concat c = let z = not_concat c.args.self.now.rest.now c.args.left.now _ c.in-Concat.is c.requires.word in cc
