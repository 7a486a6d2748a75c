-- Signals of declarations.
use Rattle.std.proofs.Common.{◌≡◌, ℕ, List, Option, Some, None, ◌∙◌}
use Rattle.vlog_tree.specs.declared.item.Range.{Range}
use Rattle.vlog_tree.specs.declared.valuation.Entry.{Entry}
use Rattle.vlog_tree_runs.specs.Scopes.{depth_in}
use Rattle.elab_flat_params.specs.Signals.{HasWords}

same_depth : (v : List Entry) (o : Option Range) (n : ℕ) → HasWords v o n → n ≡ depth_in o v
same_depth v None n h = h
same_depth v (Some x) n h = h.counts.words
