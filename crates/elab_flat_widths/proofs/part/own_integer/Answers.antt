use Rattle.elab_flat_widths.proofs.part.own_integer.Goals as goal

pub unreachable-requires : goal.unreachable-requires
unreachable-requires c = let none = rw c.in-None.is at c.in_ok-own.ensures.none in none c.requires.formed c.requires.defined
