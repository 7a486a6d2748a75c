use Rattle.elab_flat_drivers.specs.Parts.{part_meant}
use Rattle.elab_flat_drivers.proofs.Growing.{ok_then, same_end}
use Rattle.elab_flat_drivers.proofs.Reading.{concat_parts}
use Rattle.elab_flat_drivers.proofs.parts.+parts.Goals as goal

pub add_parts-returns-in-Concat : goal.add_parts-returns-in-Concat
add_parts-returns-in-Concat t c =
    ok_then c.add_row_parts.result _ _ c.add_row_parts.ensures (λ h. same_end part_meant _ _ _ _ h (concat_parts _ _ _ c.in-Concat.is c.as_slice.ensures))
