use Rattle.std.proofs.lemmas.Result.{IfOk-weaker}
use Rattle.mem_flat.proofs.Indices.{fixed_read, all_read}
use Rattle.mem_flat.proofs.index.read_words.Goals as goal

pub returns-in-Some : goal.returns-in-Some
returns-in-Some c =
    IfOk-weaker c.one_word.result _ _ (λ r h. fixed_read c.args.depth c.args.index.now c.in-Some.word r c.in-Some.ensures.0 c.in-Some.ensures.1 h) c.one_word.ensures

pub returns-in-None : goal.returns-in-None
returns-in-None c = IfOk-weaker c.all_words.result _ _ (λ r h. all_read c.args.depth c.args.index.now r c.in-None.ensures h) c.all_words.ensures
