use Rattle.std.proofs.Common.{◌≡◌, drop}
use Rattle.test_judges.specs.Judging.{is_input}
use Rattle.test_judges.proofs.judge.is_input.Given as goal

abbrev pub invariant-loop-port : goal.invariant-loop-port
invariant-loop-port l = is_input (drop l.port-index l.ports) l.name ≡ is_input l.ports l.name
