use Rattle.std.proofs.Common.{◌≡◌, ◌++◌, drop, map, filter}
use Rattle.elab_flat_scopes.specs.Borrowed.{name_meant, decl_meant}
use Rattle.elab_flat_scopes.specs.Finding.{decl_name}
use Rattle.elab_flat_clocks.specs.Tables.{is_bit_input}
use Rattle.elab_flat_clocks.proofs.bits.bits_among.Given as goal

abbrev pub invariant-loop-decl : goal.invariant-loop-decl
invariant-loop-decl l = map name_meant l.all.items ++ map decl_name (filter (is_bit_input l.scope.params) (map decl_meant (drop l.decl-index l.decls))) ≡ map decl_name (filter (is_bit_input l.scope.params) (map decl_meant l.decls))
