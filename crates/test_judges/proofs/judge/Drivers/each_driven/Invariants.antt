use Rattle.std.proofs.Common.{◌≡◌, drop, map}
use Rattle.elab_flat_drivers.specs.Parts.{part_meant}
use Rattle.test_judges.specs.Judging.{each_driven}
use Rattle.test_judges.proofs.judge.Drivers.each_driven.Given as goal

abbrev pub invariant-loop-i : goal.invariant-loop-i
invariant-loop-i l =
    each_driven l.self.flat.now.ports (map part_meant l.self.nets.now) (map part_meant l.self.clocked.now) (drop l.i l.signals) (drop l.i l.values) ≡ each_driven l.self.flat.now.ports (map part_meant l.self.nets.now) (map part_meant l.self.clocked.now) l.signals l.values
