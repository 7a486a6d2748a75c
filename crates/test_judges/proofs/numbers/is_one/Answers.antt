use Rattle.std.proofs.Common.{nat_eq, ap, ◌∙◌}
use Rattle.word_core.specs.Words.{Bits}
use Rattle.test_judges.specs.Numbers.{nought}
use Rattle.test_judges.proofs.Asking.{none_fit, root_none}
use Rattle.test_judges.proofs.numbers.is_one.Goals as goal

pub value_at-requires-clause-values : goal.value_at-requires-clause-values
value_at-requires-clause-values c = none_fit c.in_ok-ob.ob.nodes

pub returns : goal.returns
returns c =
    ap (λ n. nat_eq n 1)
    (c.value.ensures.value
    ∙ ap (λ (w : Bits). w.value) (c.value_at.ensures.root ∙ root_none c.in_ok-ob.ob.nodes c.in_ok-ob.ob.root ∙ c.in_ok-ob.ensures.at_values nought))
