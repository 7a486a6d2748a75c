use Rattle.std.proofs.Common.{◌≡◌, ◌++◌, drop, map}
use Rattle.elab_flat_scopes.specs.Borrowed.{name_meant}
use Rattle.mem_laws.specs.Spread.{assigned_in}
use Rattle.mem_flat.proofs.idle.assigned_in.Given as goal

abbrev pub invariant-loop-block : goal.invariant-loop-block
invariant-loop-block l = map name_meant l.all.items ++ assigned_in (drop l.block-index l.blocks) ≡ assigned_in l.blocks
