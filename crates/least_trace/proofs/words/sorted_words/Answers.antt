use Rattle.std.proofs.Common.{rules, is_lt}
use Rattle.std.proofs.lemmas.List.Sorted.{ranks_by, answers_always}
use Rattle.least_trace.specs.declared.words.Word.{Word}
use Rattle.least_trace.specs.Bits.{word_cmp}
use Rattle.least_trace.proofs.Ordered.{word_cmp_total}
use Rattle.least_trace.proofs.words.sorted_words.Goals as goal

pub returns-clause-sorted : goal.returns-clause-sorted
returns-clause-sorted c =
    c.sort_unstable_by.ensures.sorted (λ x y. is_lt (word_cmp x y)) (ranks_by word_cmp_total (λ (w : Word). w)) (answers_always _ _ _ (λ f a r g h. search rules))
