-- Case items under a prefix.
use Rattle.std.specs.Prelude.{List}
use Rattle.vlog_tree.specs.declared.stmt.CaseItem.{CaseItem}
use Rattle.vlog_tree.specs.declared.valuation.Entry.{Entry}
use Rattle.vlog_tree_runs.specs.Places.{Name}
use Rattle.elab_flat_laws.specs.Moved.{moved_labels, moved_stmt}

abbrev pub moved_case : Name → List Entry → CaseItem → CaseItem
moved_case pre ps item = record { labels = moved_labels pre ps item.labels; body = moved_stmt pre ps item.body }
