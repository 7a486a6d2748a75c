use Rattle.std.proofs.Common.{◌≡◌, ◌++◌, drop, map}
use Rattle.std.specs.List.{flat_map}
use Rattle.elab_flat_scopes.specs.Borrowed.{name_meant}
use Rattle.elab_flat_drivers.specs.Names.{chosen_names}
use Rattle.elab_flat_drivers.proofs.names.block_names.Given as goal

abbrev pub invariant-loop-block : goal.invariant-loop-block
invariant-loop-block l = map name_meant l.all.items ++ flat_map (chosen_names l.clocked l.form) (drop l.block-index l.blocks) ≡ flat_map (chosen_names l.clocked l.form) l.blocks
