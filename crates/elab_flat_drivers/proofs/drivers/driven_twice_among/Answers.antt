use Rattle.std.proofs.Common.{map, ap, ◌∙◌}
use Rattle.elab_flat_drivers.specs.Driving.{driver_meant}
use Rattle.elab_flat_drivers.proofs.Kinding.{some_at, none_at}
use Rattle.elab_flat_drivers.proofs.Twice.{is_bit_at, is_stand, none_twice}
use Rattle.elab_flat_drivers.proofs.drivers.driven_twice_among.Goals as goal

pub numbered-requires : goal.numbered-requires
numbered-requires c =
    is_bit_at c.args.flat.now _ _ c.requires.same (ap (map driver_meant) c.deref.ensures.value ∙ c.in_ok-drivers.ensures) _ _ c.requires.can
    (some_at c.in_ok-bit.field-0 _ c.in-Some.bit c.in_ok-bit.ensures.some c.in-Some.is)

pub returns-in-Some-clause-some : goal.returns-in-Some-clause-some
returns-in-Some-clause-some c =
    is_stand c.args.flat.now _ _ c.requires.same (ap (map driver_meant) c.deref.ensures.value ∙ c.in_ok-drivers.ensures) _ _ _ _
    (some_at c.in_ok-bit.field-0 _ c.in-Some.bit c.in_ok-bit.ensures.some c.in-Some.is) c.in_ok-number-in-Some.ensures

pub returns-clause-none : goal.returns-clause-none
returns-clause-none c =
    none_twice c.args.flat.now _ _ c.requires.same (ap (map driver_meant) c.deref.ensures.value ∙ c.in_ok-drivers.ensures)
    (none_at c.in_ok-bit.field-0 _ c.in_ok-bit.ensures.none c.in-None.is)
