use Rattle.std.proofs.Common.{◌≡◌, [], drop}
use Rattle.signoff_places.specs.Modules.{first_behind, is_use}
use Rattle.signoff_places.proofs.modules.used_in.Given as goal

abbrev pub invariant-loop-at : goal.invariant-loop-at
invariant-loop-at l = first_behind (is_use l.name) l.previous (drop l.at l.body) ≡ first_behind (is_use l.name) [] l.body
