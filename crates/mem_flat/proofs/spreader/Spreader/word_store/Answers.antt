use Rattle.std.proofs.Common.{◌∙◌}
use Rattle.elab_flat_move.proofs.Pairs.{made}
use Rattle.vlog_tree_runs.specs.Places.{read}
use Rattle.mem_flat.proofs.Stores.{word_store_made}
use Rattle.mem_flat.proofs.spreader.Spreader.word_store.Goals as goal

pub returns : goal.returns
returns c =
    word_store_made (read c.args.name.now) c.args.index.now c.args.right.now _ c.args.word _ (made _ _ _ c.in_ok-test.ensures.first c.is_word.ensures) (made _ _ _ c.in_ok-test.ensures.second c.new-store.ensures ∙ c.in_ok-assigned_word.ensures)
