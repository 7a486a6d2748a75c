use Rattle.std.proofs.Common.{refl}
use Rattle.twin_tests.specs.Leaves.{read_meant}
use Rattle.twin_tests.proofs.Walked.{ok_then, added, twice, same_end, select_names, part_names, constant_select_names, constant_part_names, cast_names, paren_names, concat_names, repeat_names, unary_names, binary_names, choice_names}
use Rattle.twin_tests.proofs.leaves.+names.Goals as goal

pub add_names-returns-in_ok-push-in-Select : goal.add_names-returns-in_ok-push-in-Select
add_names-returns-in_ok-push-in-Select t c =
    ok_then c.add_names.result _ _ c.add_names.ensures
    (λ h. added read_meant _ _ _ _ _ _ c.in_ok-push-in-Select.ensures.items h (select_names _ _ _ _ c.in-Select.is c.get.ensures))

pub add_names-returns-in_ok-add_names-in-Part : goal.add_names-returns-in_ok-add_names-in-Part
add_names-returns-in_ok-add_names-in-Part t c =
    ok_then c.add_names-in-Part-2.result _ _ c.add_names-in-Part-2.ensures
    (λ h. added read_meant _ _ _ _ _ _ c.in_ok-push-in-Part.ensures.items (twice read_meant _ _ _ _ _ _ c.in_ok-add_names-in-Part.ensures h refl)
    (part_names _ _ _ _ _ _ _ c.in-Part.is c.get-in-Part.ensures c.get-in-Part-2.ensures))

pub add_names-returns-in-ConstantSelect : goal.add_names-returns-in-ConstantSelect
add_names-returns-in-ConstantSelect t c =
    ok_then c.add_names-in-ConstantSelect.result _ _ c.add_names-in-ConstantSelect.ensures (λ h. same_end read_meant _ _ _ _ h (constant_select_names _ _ _ _ c.in-ConstantSelect.is c.get-in-ConstantSelect.ensures))

pub add_names-returns-in-Cast : goal.add_names-returns-in-Cast
add_names-returns-in-Cast t c =
    ok_then c.add_names-in-Cast.result _ _ c.add_names-in-Cast.ensures (λ h. same_end read_meant _ _ _ _ h (cast_names _ _ _ _ c.in-Cast.is c.get-in-Cast.ensures))

pub add_names-returns-in-Paren : goal.add_names-returns-in-Paren
add_names-returns-in-Paren t c =
    ok_then c.add_names-in-Paren.result _ _ c.add_names-in-Paren.ensures (λ h. same_end read_meant _ _ _ _ h (paren_names _ _ _ c.in-Paren.is c.get-in-Paren.ensures))

pub add_names-returns-in-Unary : goal.add_names-returns-in-Unary
add_names-returns-in-Unary t c =
    ok_then c.add_names-in-Unary.result _ _ c.add_names-in-Unary.ensures (λ h. same_end read_meant _ _ _ _ h (unary_names _ _ _ _ c.in-Unary.is c.get-in-Unary.ensures))

pub add_names-returns-in_ok-add_names-in-ConstantPart : goal.add_names-returns-in_ok-add_names-in-ConstantPart
add_names-returns-in_ok-add_names-in-ConstantPart t c =
    ok_then c.add_names-in-ConstantPart-2.result _ _ c.add_names-in-ConstantPart-2.ensures
    (λ h. twice read_meant _ _ _ _ _ _ c.in_ok-add_names-in-ConstantPart.ensures h (constant_part_names _ _ _ _ _ _ _ c.in-ConstantPart.is c.get-in-ConstantPart.ensures c.get-in-ConstantPart-2.ensures))

pub add_names-returns-in_ok-add_names-in-Binary : goal.add_names-returns-in_ok-add_names-in-Binary
add_names-returns-in_ok-add_names-in-Binary t c =
    ok_then c.add_names-in-Binary-2.result _ _ c.add_names-in-Binary-2.ensures
    (λ h. twice read_meant _ _ _ _ _ _ c.in_ok-add_names-in-Binary.ensures h (binary_names _ _ _ _ _ _ c.in-Binary.is c.get-in-Binary.ensures c.get-in-Binary-2.ensures))

pub add_names-returns-in-Concat : goal.add_names-returns-in-Concat
add_names-returns-in-Concat t c =
    ok_then c.add_row_names.result _ _ c.add_row_names.ensures (λ h. same_end read_meant _ _ _ _ h (concat_names _ _ _ c.in-Concat.is c.as_slice.ensures))

pub add_names-returns-in_ok-add_names-in-Repeat : goal.add_names-returns-in_ok-add_names-in-Repeat
add_names-returns-in_ok-add_names-in-Repeat t c =
    ok_then c.add_row_names-in-Repeat.result _ _ c.add_row_names-in-Repeat.ensures
    (λ h. twice read_meant _ _ _ _ _ _ c.in_ok-add_names-in-Repeat.ensures h (repeat_names _ _ _ _ _ c.in-Repeat.is c.get-in-Repeat.ensures c.as_slice-in-Repeat.ensures))

pub add_names-returns-in_ok-add_names-in-Choice-2 : goal.add_names-returns-in_ok-add_names-in-Choice-2
add_names-returns-in_ok-add_names-in-Choice-2 t c =
    ok_then c.add_names-in-Choice-3.result _ _ c.add_names-in-Choice-3.ensures
    (λ h. twice read_meant _ _ _ _ _ _ c.in_ok-add_names-in-Choice.ensures (twice read_meant _ _ _ _ _ _ c.in_ok-add_names-in-Choice-2.ensures h refl)
    (choice_names _ _ _ _ _ _ _ c.in-Choice.is c.get-in-Choice.ensures c.get-in-Choice-2.ensures c.get-in-Choice-3.ensures))
