use Rattle.std.proofs.lemmas.Result.{IfOk-weaker}
use Rattle.mem_flat.proofs.Fetching.{memory_read_made}
use Rattle.mem_flat.proofs.spreader.Spreader.memory_read.Goals as goal

pub returns : goal.returns
returns c =
    IfOk-weaker c.braced.result _ _
    (λ r h. memory_read_made c.args.self.now.rest.now c.args.name.now c.args.index.now c.args.spread.now _ r _ _ _ _ _ _
    c.bytes.ensures c.depth-depth.ensures c.in_ok-words.ensures c.bytes-2.ensures c.width-width.ensures.width c.as_slice.ensures c.in_ok-part.ensures h)
    c.braced.ensures
