use Rattle.std.proofs.Common.{map, ap, ◌∙◌}
use Rattle.vlog_tree.specs.Valuation.{depth_of}
use Rattle.vlog_tree_runs.specs.Places.{read}
use Rattle.mem_laws.specs.Spread.{word_store}
use Rattle.mem_flat.proofs.Stores.{memory_store_made}
use Rattle.mem_flat.proofs.spreader.Spreader.memory_store.Goals as goal

pub returns : goal.returns
returns c =
    memory_store_made c.args.self.now.rest.now (read c.args.name.now) c.args.index.now c.args.spread.now c.args.right.now _ _ _
    (c.depth.ensures ∙ ap (λ t. depth_of c.args.self.now.rest.now (read t)) c.bytes.ensures) c.in_ok-words.ensures
    (c.in_ok-stores.ensures ∙ ap (map (word_store (read c.args.name.now) c.args.spread.now c.args.right.now)) c.as_slice.ensures)
