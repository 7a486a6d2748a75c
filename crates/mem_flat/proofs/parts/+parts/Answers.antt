use Rattle.mem_flat.specs.Borrowed.{left_meant}
use Rattle.mem_faults.proofs.Growing.{ok_then, same_end}
use Rattle.mem_flat.proofs.Parting.{concat_parts}
use Rattle.mem_flat.proofs.parts.+parts.Goals as goal

pub add_parts-returns-in-Concat : goal.add_parts-returns-in-Concat
add_parts-returns-in-Concat t c =
    ok_then c.add_row_parts.result _ _ c.add_row_parts.ensures (λ h. same_end left_meant _ _ _ _ h (concat_parts _ _ _ c.in-Concat.is c.as_slice.ensures))
