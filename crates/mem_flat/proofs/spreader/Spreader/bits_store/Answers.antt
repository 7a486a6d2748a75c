use Rattle.std.proofs.lemmas.Result.{IfOk-weaker}
use Rattle.mem_laws.specs.Spread.{bits_from}
use Rattle.mem_flat.proofs.Stores.{store_same}
use Rattle.mem_flat.proofs.spreader.Spreader.bits_store.Goals as goal

pub returns : goal.returns
returns c =
    IfOk-weaker c.part_store.result _ _
    (λ r h. store_same c.args.self.now.rest.now c.args.part.now _ (bits_from c.args.right.now c.args.width c.args.from) r c.in_ok-bits_from.ensures h) c.part_store.ensures
