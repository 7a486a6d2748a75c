use Rattle.vlog_tree_values.proofs.Meanings.{number_same}
use Rattle.vlog_tree_values.proofs.counts.settled.Goals as goal

pub returns-in-Some : goal.returns-in-Some
returns-in-Some c = number_same c.args.valuation.now c.args.expr _ _ c.number_for.result c.number_for.ensures.fits c.in-Some.ensures.some c.number_for.ensures.number
