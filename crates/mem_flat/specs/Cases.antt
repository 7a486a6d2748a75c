-- Case items without memories, and assignments to concatenations.
use Rattle.std.specs.Prelude.{List, None, if◌then◌else◌}
use Rattle.std.specs.List.{list_any}
use Rattle.vlog_tree.specs.declared.expr.Expr.{Expr}
use Rattle.vlog_tree.specs.declared.stmt.CaseItem.{CaseItem}
use Rattle.vlog_tree.specs.declared.stmt.Lval.{Lval}
use Rattle.vlog_tree.specs.declared.stmt.Stmt.{Stmt}
use Rattle.vlog_tree.specs.declared.stmt.Stmt.TheVariants as s
use Rattle.vlog_tree.specs.declared.valuation.Entry.{Entry}
use Rattle.elab_flat_faults.specs.Drivers.{parts_of}
use Rattle.mem_laws.specs.Spread.{spread_left, spread_labels, spread_stmt, is_memory_word, lefts_length, part_stores}

abbrev pub spread_case : List Entry → CaseItem → CaseItem
spread_case v item = record { labels = spread_labels v item.labels; body = spread_stmt v item.body }

-- each of these parts with its bits
abbrev pub block_store : List Entry → List Lval → Expr → Stmt
block_store v qs right = s.Block None (part_stores v (lefts_length v qs) right qs)

-- part after part, where one is a word of a memory
abbrev pub concat_store : List Entry → Lval → Expr → Stmt
concat_store v left right = if list_any (is_memory_word v) (parts_of left) then block_store v (parts_of left) right else s.Nonblocking (spread_left v left) right
