use Rattle.std.proofs.Common.{ap, ◌∙◌}
use Rattle.word_core.specs.Words.{Bits}
use Rattle.elab_step_flow.proofs.cases.value_of.Goals as goal

pub returns : goal.returns
returns c = let value = rw c.in-Some.is at c.in_ok-word.ensures.some in c.value.ensures.value ∙ ap (λ (w : Bits). w.value) value.word

pub unreachable-requires : goal.unreachable-requires
unreachable-requires c = let none = rw c.in-None.is at c.in_ok-word.ensures.none in none c.requires.defined
