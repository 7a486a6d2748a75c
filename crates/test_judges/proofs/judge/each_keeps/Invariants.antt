use Rattle.std.proofs.Common.{◌≡◌, drop, map}
use Rattle.elab_flat_drivers.specs.Parts.{part_meant}
use Rattle.test_judges.specs.Judging.{each_keeps}
use Rattle.test_judges.proofs.judge.each_keeps.Given as goal

abbrev pub invariant-loop-i : goal.invariant-loop-i
invariant-loop-i l = each_keeps (map part_meant l.clocked) (drop l.i l.signals) (drop l.i l.now) (drop l.i l.next) ≡ each_keeps (map part_meant l.clocked) l.signals l.now l.next
