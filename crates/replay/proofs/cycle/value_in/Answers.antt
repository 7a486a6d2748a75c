use Rattle.std.proofs.Common.{◌∙◌}
use Rattle.replay.proofs.Cycling.{word_past, word_there}
use Rattle.replay.proofs.cycle.value_in.Goals as goal

pub returns-in-Some : goal.returns-in-Some
returns-in-Some c = c.value.ensures.value ∙ word_there c.args.words.now c.args.node c.get.result c.in-Some.word c.get.ensures.lookup c.in-Some.is

pub returns-in-None : goal.returns-in-None
returns-in-None c = word_past c.args.words.now c.args.node c.get.result c.get.ensures.lookup c.in-None.is
