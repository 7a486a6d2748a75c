use Rattle.std.proofs.Common.{◌≡◌, take, map}
use Rattle.vlog_tree_runs.specs.Places.{Among}
use Rattle.elab_flat_clocks.specs.Driving.{Timed, timed_meant}
use Rattle.elab_flat_clocks.proofs.clocks.one_clock.Given as goal

abbrev pub invariant-loop-timing : goal.invariant-loop-timing
invariant-loop-timing l = (u : Timed) → Among (map timed_meant (take l.timing-index l.timings)) u → u.clock ≡ l.clock
