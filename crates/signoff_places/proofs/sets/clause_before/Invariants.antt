use Rattle.std.proofs.Common.{◌≡◌, [], take}
use Rattle.std.specs.List.{fold}
use Rattle.signoff_places.specs.Sets.{clause_behind}
use Rattle.signoff_places.proofs.sets.clause_before.Given as goal

abbrev pub invariant-loop-token : goal.invariant-loop-token
invariant-loop-token l = l.clause ≡ fold clause_behind [] (take l.token-index l.before)
