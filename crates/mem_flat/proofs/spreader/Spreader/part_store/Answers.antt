use Rattle.std.proofs.Common.{sym, ◌∙◌}
use Rattle.std.proofs.lemmas.Result.{IfOk-weaker}
use Rattle.mem_flat.proofs.Stores.{plain_same}
use Rattle.mem_flat.proofs.spreader.Spreader.part_store.Goals as goal

pub word_of_store-requires-clause-word : goal.word_of_store-requires-clause-word
word_of_store-requires-clause-word c = sym c.is_memory_word.ensures ∙ c.if-is_memory_word.true

pub returns-else-is_memory_word : goal.returns-else-is_memory_word
returns-else-is_memory_word c =
    IfOk-weaker c.plain_store.result _ _
    (λ r h. plain_same c.args.self.now.rest.now c.args.left.now c.args.right r (sym c.is_memory_word.ensures ∙ c.if-is_memory_word.false) h) c.plain_store.ensures
