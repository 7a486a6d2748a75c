use Rattle.elab_flat_drivers.specs.Parts.{part_meant}
use Rattle.elab_flat_drivers.proofs.Growing.{ok_then, same_end}
use Rattle.elab_flat_widths.proofs.Outputs.{same_list, one_more, concat_left, select_left, part_left, constant_select_none, constant_part_none, number_none, cast_none, paren_none, repeat_none, unary_none, binary_none, choice_none}
use Rattle.elab_flat_widths.proofs.output.+outputs.Goals as goal

pub add_parts-returns-in_ok-push-in-Select : goal.add_parts-returns-in_ok-push-in-Select
add_parts-returns-in_ok-push-in-Select t c = one_more part_meant _ _ _ _ c.in_ok-push-in-Select.ensures.items (select_left _ _ _ _ c.in-Select.is c.get-index.ensures)

pub add_parts-returns-in_ok-push-in-Part : goal.add_parts-returns-in_ok-push-in-Part
add_parts-returns-in_ok-push-in-Part t c = one_more part_meant _ _ _ _ c.in_ok-push-in-Part.ensures.items (part_left _ _ _ _ _ _ _ c.in-Part.is c.get-a.ensures c.get-b.ensures)

pub add_parts-returns-in-Concat : goal.add_parts-returns-in-Concat
add_parts-returns-in-Concat t c = ok_then c.add_row.result _ _ c.add_row.ensures (λ h. same_end part_meant _ _ _ _ h (concat_left _ _ _ c.in-Concat.is c.as_slice.ensures))

pub add_parts-returns-in-ConstantSelect : goal.add_parts-returns-in-ConstantSelect
add_parts-returns-in-ConstantSelect t c = same_list _ _ (constant_select_none _ _ _ c.in-ConstantSelect.is)

pub add_parts-returns-in-ConstantPart : goal.add_parts-returns-in-ConstantPart
add_parts-returns-in-ConstantPart t c = same_list _ _ (constant_part_none _ _ _ _ _ c.in-ConstantPart.is)

pub add_parts-returns-in-Number : goal.add_parts-returns-in-Number
add_parts-returns-in-Number t c = same_list _ _ (number_none _ _ c.in-Number.is)

pub add_parts-returns-in-Cast : goal.add_parts-returns-in-Cast
add_parts-returns-in-Cast t c = same_list _ _ (cast_none _ _ _ c.in-Cast.is)

pub add_parts-returns-in-Paren : goal.add_parts-returns-in-Paren
add_parts-returns-in-Paren t c = same_list _ _ (paren_none _ _ c.in-Paren.is)

pub add_parts-returns-in-Repeat : goal.add_parts-returns-in-Repeat
add_parts-returns-in-Repeat t c = same_list _ _ (repeat_none _ _ _ c.in-Repeat.is)

pub add_parts-returns-in-Unary : goal.add_parts-returns-in-Unary
add_parts-returns-in-Unary t c = same_list _ _ (unary_none _ _ _ c.in-Unary.is)

pub add_parts-returns-in-Binary : goal.add_parts-returns-in-Binary
add_parts-returns-in-Binary t c = same_list _ _ (binary_none _ _ _ _ c.in-Binary.is)

pub add_parts-returns-in-Choice : goal.add_parts-returns-in-Choice
add_parts-returns-in-Choice t c = same_list _ _ (choice_none _ _ _ _ c.in-Choice.is)
