use Rattle.std.proofs.Common.{◌≡◌, drop}
use Rattle.std.specs.List.{list_all}
use Rattle.test_judges.specs.Judging.{assign_holds}
use Rattle.test_judges.proofs.judge.all_assigns_hold.Given as goal

abbrev pub invariant-loop-equation : goal.invariant-loop-equation
invariant-loop-equation l = list_all (assign_holds l.flat.signals l.values) (drop l.equation-index l.flat.assigns) ≡ list_all (assign_holds l.flat.signals l.values) l.flat.assigns
