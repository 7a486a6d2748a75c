use Rattle.elab_flat_drivers.proofs.Kinding.{some_at, none_at}
use Rattle.elab_flat_drivers.proofs.Lacks.{bit_by, stand_by}
use Rattle.elab_flat_drivers.proofs.lacking.undriven_among.Goals as goal

pub numbered-requires : goal.numbered-requires
numbered-requires c =
    bit_by c.args.flat.now c.requires.can _ c.requires.same _ _
    (some_at c.in_ok-bit.field-0 _ c.in-Some.bit c.in_ok-bit.ensures.some c.in-Some.is)

pub returns-in_ok-number-in-Some-clause-some : goal.returns-in_ok-number-in-Some-clause-some
returns-in_ok-number-in-Some-clause-some c =
    stand_by c.args.flat.now c.requires.can _ c.requires.same _ _ _ _
    (some_at c.in_ok-bit.field-0 _ c.in-Some.bit c.in_ok-bit.ensures.some c.in-Some.is) c.in_ok-number-in-Some.ensures

pub returns-in-None-clause-none : goal.returns-in-None-clause-none
returns-in-None-clause-none c = none_at c.in_ok-bit.field-0 _ c.in_ok-bit.ensures.none c.in-None.is
