use Rattle.std.proofs.Common.{◌≡◌, take}
use Rattle.outside.proofs.rows.copy_of_signs.Given as goal

abbrev pub invariant-loop-sign : goal.invariant-loop-sign
invariant-loop-sign l = l.copies.items ≡ take l.sign-index l.signs
