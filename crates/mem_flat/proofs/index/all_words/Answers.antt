use Rattle.std.proofs.Common.{◌∷◌, [], ◌++◌, ap, ◌∙◌, arith}
use Rattle.mem_flat.proofs.Indices.{word_more}
use Rattle.mem_flat.proofs.index.all_words.Goals as goal

pub loop-word-preserved : goal.loop-word-preserved
loop-word-preserved c = word_more c.loop-word.word c.loop-word.all _ c.loop-word.invariant c.in_ok-push.ensures.ok
