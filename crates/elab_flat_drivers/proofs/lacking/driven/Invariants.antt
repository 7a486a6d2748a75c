use Rattle.std.proofs.Common.{◌≡◌, drop, map, length, replicate}
use Rattle.elab_flat_drivers.specs.Driving.{driver_meant}
use Rattle.elab_flat_drivers.specs.Wanting.{driven_table}
use Rattle.elab_flat_drivers.proofs.lacking.driven.Given as goal

abbrev pub invariant-loop-driver : goal.invariant-loop-driver
invariant-loop-driver l = record {
  long : length l.table.items ≡ length l.signals;
  same : driven_table l.signals l.table.items (map driver_meant (drop l.driver-index l.drivers)) ≡ driven_table l.signals (replicate (length l.signals) 0) (map driver_meant l.drivers);
}
