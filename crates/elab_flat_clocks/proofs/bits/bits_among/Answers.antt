use Rattle.elab_flat_scopes.specs.Borrowed.{decl_meant}
use Rattle.elab_flat_names.proofs.Searches.{among_here}
use Rattle.elab_flat_clocks.proofs.bits.bits_among.Goals as goal

pub is_bit_input-requires : goal.is_bit_input-requires
is_bit_input-requires c =
    c.requires (decl_meant c.decl-item.result) (among_here decl_meant c.args.decls.now c.loop-decl.decl-index c.decl-item.result c.loop-decl-test.true c.decl-item.is)
