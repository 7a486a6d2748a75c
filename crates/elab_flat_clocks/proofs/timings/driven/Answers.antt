use Rattle.std.specs.Option.{option_map}
use Rattle.elab_flat_clocks.specs.Driving.{timed_meant}
use Rattle.elab_flat_clocks.proofs.Driven.{driven_by}
use Rattle.elab_flat_clocks.proofs.timings.driven.Goals as goal

pub returns-in-Some : goal.returns-in-Some
returns-in-Some c =
    driven_by c.args.table.now c.args.edges.now c.args.body.now c.timing_of.result c.timing_of.ensures c.in-Some.timing c.in-Some.is (option_map timed_meant c.timed_reached.result) c.timed_reached.ensures
