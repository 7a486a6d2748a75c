use Rattle.std.proofs.Common.{◌≡◌, ◌++◌, drop, map}
use Rattle.std.specs.List.{flat_map}
use Rattle.elab_flat_scopes.specs.Borrowed.{name_meant}
use Rattle.mem_faults.specs.Used.{block_listed}
use Rattle.mem_faults.proofs.survey.add_lists.Given as goal

abbrev pub invariant-loop-block : goal.invariant-loop-block
invariant-loop-block l = map name_meant l.all.items ++ flat_map block_listed (drop l.block-index l.blocks) ≡ map name_meant l.initial.all.items ++ flat_map block_listed l.blocks
