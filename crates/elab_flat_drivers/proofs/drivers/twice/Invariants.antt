use Rattle.std.proofs.Common.{◌≡◌, ℕ, drop, map, length, replicate}
use Rattle.elab_flat_drivers.specs.Driving.{driver_meant, Clashes}
use Rattle.elab_flat_drivers.proofs.drivers.twice.Given as goal

abbrev pub invariant-loop-driver : goal.invariant-loop-driver
invariant-loop-driver l = record {
  long : length l.table.items ≡ length l.signals;
  to : (i b : ℕ) → Clashes l.signals l.table.items (map driver_meant (drop l.driver-index l.drivers)) i b → Clashes l.signals (replicate (length l.signals) 0) (map driver_meant l.drivers) i b;
  back : (i b : ℕ) → Clashes l.signals (replicate (length l.signals) 0) (map driver_meant l.drivers) i b → Clashes l.signals l.table.items (map driver_meant (drop l.driver-index l.drivers)) i b;
}
