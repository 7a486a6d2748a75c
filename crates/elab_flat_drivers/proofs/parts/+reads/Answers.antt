use Rattle.std.proofs.Common.{refl}
use Rattle.elab_flat_drivers.specs.Parts.{part_meant}
use Rattle.elab_flat_drivers.proofs.Growing.{ok_then, added, twice, same_end}
use Rattle.elab_flat_drivers.proofs.Reading.{select_reads, part_reads, constant_select_reads, constant_part_reads, cast_reads, paren_reads, concat_reads, repeat_reads, unary_reads, binary_reads, choice_reads}
use Rattle.elab_flat_drivers.proofs.parts.+reads.Goals as goal

pub add_reads-returns-in_ok-push-in-Select : goal.add_reads-returns-in_ok-push-in-Select
add_reads-returns-in_ok-push-in-Select t c =
    ok_then c.add_reads.result _ _ c.add_reads.ensures
    (λ h. added part_meant _ _ _ _ _ _ c.in_ok-push-in-Select.ensures.items h (select_reads _ _ _ _ c.in-Select.is c.get-index.ensures))

pub add_reads-returns-in_ok-add_reads-in-Part : goal.add_reads-returns-in_ok-add_reads-in-Part
add_reads-returns-in_ok-add_reads-in-Part t c =
    ok_then c.add_reads-in-Part-2.result _ _ c.add_reads-in-Part-2.ensures
    (λ h. added part_meant _ _ _ _ _ _ c.in_ok-push-in-Part.ensures.items (twice part_meant _ _ _ _ _ _ c.in_ok-add_reads-in-Part.ensures h refl)
    (part_reads _ _ _ _ _ _ _ c.in-Part.is c.get-a.ensures c.get-b.ensures))

pub add_reads-returns-in-ConstantSelect : goal.add_reads-returns-in-ConstantSelect
add_reads-returns-in-ConstantSelect t c =
    ok_then c.add_reads-in-ConstantSelect.result _ _ c.add_reads-in-ConstantSelect.ensures (λ h. same_end part_meant _ _ _ _ h (constant_select_reads _ _ _ _ c.in-ConstantSelect.is c.get.ensures))

pub add_reads-returns-in-Cast : goal.add_reads-returns-in-Cast
add_reads-returns-in-Cast t c =
    ok_then c.add_reads-in-Cast.result _ _ c.add_reads-in-Cast.ensures (λ h. same_end part_meant _ _ _ _ h (cast_reads _ _ _ _ c.in-Cast.is c.get-in-Cast.ensures))

pub add_reads-returns-in-Paren : goal.add_reads-returns-in-Paren
add_reads-returns-in-Paren t c =
    ok_then c.add_reads-in-Paren.result _ _ c.add_reads-in-Paren.ensures (λ h. same_end part_meant _ _ _ _ h (paren_reads _ _ _ c.in-Paren.is c.get-in-Paren.ensures))

pub add_reads-returns-in-Unary : goal.add_reads-returns-in-Unary
add_reads-returns-in-Unary t c =
    ok_then c.add_reads-in-Unary.result _ _ c.add_reads-in-Unary.ensures (λ h. same_end part_meant _ _ _ _ h (unary_reads _ _ _ _ c.in-Unary.is c.get-in-Unary.ensures))

pub add_reads-returns-in_ok-add_reads-in-ConstantPart : goal.add_reads-returns-in_ok-add_reads-in-ConstantPart
add_reads-returns-in_ok-add_reads-in-ConstantPart t c =
    ok_then c.add_reads-in-ConstantPart-2.result _ _ c.add_reads-in-ConstantPart-2.ensures
    (λ h. twice part_meant _ _ _ _ _ _ c.in_ok-add_reads-in-ConstantPart.ensures h (constant_part_reads _ _ _ _ _ _ _ c.in-ConstantPart.is c.get-in-ConstantPart.ensures c.get-in-ConstantPart-2.ensures))

pub add_reads-returns-in_ok-add_reads-in-Binary : goal.add_reads-returns-in_ok-add_reads-in-Binary
add_reads-returns-in_ok-add_reads-in-Binary t c =
    ok_then c.add_reads-in-Binary-2.result _ _ c.add_reads-in-Binary-2.ensures
    (λ h. twice part_meant _ _ _ _ _ _ c.in_ok-add_reads-in-Binary.ensures h (binary_reads _ _ _ _ _ _ c.in-Binary.is c.get-in-Binary.ensures c.get-in-Binary-2.ensures))

pub add_reads-returns-in-Concat : goal.add_reads-returns-in-Concat
add_reads-returns-in-Concat t c =
    ok_then c.add_row_reads.result _ _ c.add_row_reads.ensures (λ h. same_end part_meant _ _ _ _ h (concat_reads _ _ _ c.in-Concat.is c.as_slice.ensures))

pub add_reads-returns-in_ok-add_reads-in-Repeat : goal.add_reads-returns-in_ok-add_reads-in-Repeat
add_reads-returns-in_ok-add_reads-in-Repeat t c =
    ok_then c.add_row_reads-in-Repeat.result _ _ c.add_row_reads-in-Repeat.ensures
    (λ h. twice part_meant _ _ _ _ _ _ c.in_ok-add_reads-in-Repeat.ensures h (repeat_reads _ _ _ _ _ c.in-Repeat.is c.get-in-Repeat.ensures c.as_slice-in-Repeat.ensures))

pub add_reads-returns-in_ok-add_reads-in-Choice-2 : goal.add_reads-returns-in_ok-add_reads-in-Choice-2
add_reads-returns-in_ok-add_reads-in-Choice-2 t c =
    ok_then c.add_reads-in-Choice-3.result _ _ c.add_reads-in-Choice-3.ensures
    (λ h. twice part_meant _ _ _ _ _ _ c.in_ok-add_reads-in-Choice.ensures (twice part_meant _ _ _ _ _ _ c.in_ok-add_reads-in-Choice-2.ensures h refl)
    (choice_reads _ _ _ _ _ _ _ c.in-Choice.is c.get-in-Choice.ensures c.get-in-Choice-2.ensures c.get-in-Choice-3.ensures))
