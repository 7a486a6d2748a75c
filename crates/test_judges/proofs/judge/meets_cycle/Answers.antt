use Rattle.std.proofs.Common.{◌≤◌, map, refl, sym, ap, ◌∙◌, subst}
use Rattle.vlog_tree_runs.specs.declared.flat.Signal.{Signal}
use Rattle.elab_flat_drivers.specs.Parts.{part_meant}
use Rattle.test_judges.specs.Driving.{ArePartsReady}
use Rattle.test_judges.proofs.Holding.{all_of, values_long}
use Rattle.test_judges.proofs.Readying.{nets_ready}
use Rattle.test_judges.proofs.judge.meets_cycle.Goals as goal

pub whole-requires : goal.whole-requires
whole-requires c = all_of (λ (g : Signal). g.width ≤ 64) c.as_slice.result.now c.args.flat.now.signals c.as_slice.ensures (λ g m. (c.requires.can.wide g m).1)

pub each_driven-requires-clause-narrow : goal.each_driven-requires-clause-narrow
each_driven-requires-clause-narrow c = all_of (λ (g : Signal). g.width ≤ 64) c.args.flat.now.signals c.args.flat.now.signals refl (λ g m. (c.requires.can.wide g m).1)

pub each_driven-requires-clause-ready : goal.each_driven-requires-clause-ready
each_driven-requires-clause-ready c = subst ArePartsReady (sym (ap (map part_meant) c.deref-3.ensures.value ∙ c.in_ok-nets.ensures)) (nets_ready c.args.flat.now c.requires.can)

pub each_driven-requires-clause-each : goal.each_driven-requires-clause-each
each_driven-requires-clause-each c = values_long c.args.flat.now.signals c.args.values.now c.requires.values
