use Rattle.std.proofs.Common.{◌∙◌, arith}
use Rattle.replay_eval.proofs.Tracing.{row_long, entry_fits, row_next}
use Rattle.replay_eval.proofs.formula.add_row.Goals as goal

pub bounds-row-i : goal.bounds-row-i
bounds-row-i c = let long = row_long c.args.names.now c.args.row.now c.requires.row in omega (arith, long)

pub push-requires : goal.push-requires
push-requires c = entry_fits c.args.names.now c.args.row.now c.loop-i.i _ c.args.offset _ c.in_ok-entry.entry c.requires.widths c.requires.row (omega arith) c.index-names-i.is c.in_ok-entry.ensures

pub loop-i-preserved : goal.loop-i-preserved
loop-i-preserved c = row_next c.args.names.now c.args.row.now c.args.offset c.loop-i.i _ _ c.loop-i.entries c.push.new.self c.in_ok-entry.entry c.requires.row (omega arith) c.index-names-i.is c.in_ok-entry.ensures c.in_ok-push.ensures.ok ∙ c.loop-i.invariant
