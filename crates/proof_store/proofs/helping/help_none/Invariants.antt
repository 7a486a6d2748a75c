use Rattle.std.proofs.Common.{take}
use Rattle.std.specs.List.{AllZip}
use Rattle.proof_store.specs.Helping.{Helps}
use Rattle.proof_store.proofs.helping.help_none.Given as goal

-- the obligations so far
abbrev pub invariant-loop : goal.invariant-loop
invariant-loop l = AllZip Helps (take l.index l.obs) l.helped.items
