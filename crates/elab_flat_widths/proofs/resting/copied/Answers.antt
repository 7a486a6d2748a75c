use Rattle.std.proofs.Common.{sym, subst}
use Rattle.vlog_tree.specs.Valuation.{AllFit}
use Rattle.elab_flat_widths.proofs.Zeros.{fits_at}
use Rattle.elab_flat_widths.proofs.resting.copied.Goals as goal

pub push-requires : goal.push-requires
push-requires c =
    fits_at c.entries-entry-items.result.now c.loop-entry.entry-index c.entry-item.result c.loop-entry-test.true c.entry-item.is (subst AllFit (sym c.entries-entry-items.ensures.same) c.entries-entry-items.ensures.fit)
