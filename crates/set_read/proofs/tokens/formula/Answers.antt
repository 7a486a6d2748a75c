use Rattle.std.proofs.Common.{true}
use Rattle.vlog_tree.specs.Spelling.{Reads, height}
use Rattle.set_read.proofs.Steps.{refusal_denies, refusal_long, tree_at, tree_past, tree_within, tree_only}
use Rattle.set_read.proofs.tokens.formula.Goals as goal

pub returns-in-Ok-clause-past : goal.returns-in-Ok-clause-past
returns-in-Ok-clause-past c = (tree_past c.args.tokens.now c.args.at c.in-Ok.read.tree c.in-Ok.read.end c.in-Ok.ensures.reads.spelt, tree_within c.args.tokens.now c.args.at c.in-Ok.read.tree c.in-Ok.read.end c.in-Ok.ensures.reads.spelt)

pub returns-in-Ok-clause-only : goal.returns-in-Ok-clause-only
returns-in-Ok-clause-only c = tree_only c.args.tokens.now c.args.at _ _ c.in-Ok.ensures.reads

pub returns-in-Err-clause-only : goal.returns-in-Err-clause-only
returns-in-Err-clause-only c = λ x j q g. refusal_denies c.args.tokens.now c.args.at (Reads true c.args.tokens.now 1 c.args.at) height 498 _ _ c.of_reader.ensures c.in-Err.ensures x j (tree_at c.args.tokens.now c.args.at x j q g)

pub returns-in-Err-clause-long : goal.returns-in-Err-clause-long
returns-in-Err-clause-long c = refusal_long c.args.tokens.now c.args.at (Reads true c.args.tokens.now 1 c.args.at) height _ _ c.of_reader.ensures c.in-Err.ensures
