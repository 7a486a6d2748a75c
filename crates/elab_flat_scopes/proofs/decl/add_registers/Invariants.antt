use Rattle.std.proofs.Common.{◌≡◌, ◌++◌, drop, map}
use Rattle.vlog_tree_runs.specs.Contents.{reg_decl}
use Rattle.elab_flat_scopes.specs.Borrowed.{decl_meant}
use Rattle.elab_flat_scopes.proofs.decl.add_registers.Given as goal

abbrev pub invariant-loop-register : goal.invariant-loop-register
invariant-loop-register l = map decl_meant l.all.items ++ map (reg_decl l.shape) (drop l.register-index l.registers) ≡ map decl_meant l.initial.all.items ++ map (reg_decl l.shape) l.registers
