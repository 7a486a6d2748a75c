use Rattle.std.proofs.lemmas.Result.{IfOk-weaker}
use Rattle.vlog_tree_runs.specs.Places.{read}
use Rattle.mem_laws.specs.Spread.{spread}
use Rattle.mem_flat.proofs.Stores.{index_same}
use Rattle.mem_flat.proofs.spreader.Spreader.indexed_store.Goals as goal

pub returns : goal.returns
returns c =
    let v = c.args.self.now.rest.now in
    IfOk-weaker c.memory_store.result _ _
    (λ r h. index_same v (read c.args.name.now) c.args.index.now _ (spread v c.args.index.now) c.args.right.now r c.in_ok-spread.ensures h) c.memory_store.ensures
