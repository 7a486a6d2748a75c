use Rattle.std.proofs.lemmas.Result.{IfOk-weaker}
use Rattle.mem_flat.proofs.Indices.{fixed_named}
use Rattle.mem_flat.proofs.index.named_words.Goals as goal

pub returns-in-Some : goal.returns-in-Some
returns-in-Some c =
    IfOk-weaker c.one_word.result _ _ (λ r h. fixed_named c.args.depth c.args.index.now c.in-Some.word r c.in-Some.ensures.0 c.in-Some.ensures.1 h) c.one_word.ensures
