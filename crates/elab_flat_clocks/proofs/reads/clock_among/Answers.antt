use Rattle.std.proofs.Common.{map, refl}
use Rattle.elab_flat_scopes.specs.Borrowed.{name_meant}
use Rattle.elab_flat_drivers.proofs.Naming.{meant_at}
use Rattle.elab_flat_clocks.proofs.reads.clock_among.Goals as goal

pub returns-then-is_clock : goal.returns-then-is_clock
returns-then-is_clock c =
    let names = c.args.names.now in
    (meant_at name_meant names names (map name_meant names) c.loop-name.name-index c.name-item.result c.loop-name-test.true c.name-item.is refl refl, c.is_clock.ensures.0 c.if-is_clock.true)
