use Rattle.std.proofs.Common.{◌≤◌, map, refl, sym, ap, ◌∙◌, subst}
use Rattle.vlog_tree_runs.specs.declared.flat.Signal.{Signal}
use Rattle.elab_flat_drivers.specs.Parts.{part_meant}
use Rattle.test_judges.specs.Driving.{ArePartsReady}
use Rattle.test_judges.proofs.Holding.{all_of, values_long}
use Rattle.test_judges.proofs.Readying.{clocked_ready}
use Rattle.test_judges.proofs.judge.meets_edge.Goals as goal

pub each_keeps-requires-clause-narrow : goal.each_keeps-requires-clause-narrow
each_keeps-requires-clause-narrow c = all_of (λ (g : Signal). g.width ≤ 64) c.args.flat.now.signals c.args.flat.now.signals refl (λ g m. (c.requires.can.wide g m).1)

pub each_keeps-requires-clause-ready : goal.each_keeps-requires-clause-ready
each_keeps-requires-clause-ready c = subst ArePartsReady (sym (ap (map part_meant) c.deref.ensures.value ∙ c.in_ok-clocked.ensures)) (clocked_ready c.args.flat.now c.requires.can)

pub each_keeps-requires-clause-each : goal.each_keeps-requires-clause-each
each_keeps-requires-clause-each c = values_long c.args.flat.now.signals c.args.now.now c.requires.now

pub each_keeps-requires-clause-each_next : goal.each_keeps-requires-clause-each_next
each_keeps-requires-clause-each_next c = values_long c.args.flat.now.signals c.args.next.now c.requires.next
