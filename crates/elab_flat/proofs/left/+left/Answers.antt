use Rattle.elab_flat.proofs.Lefts.{select_is, part_is, concat_is, number_is, constant_select_is, constant_part_is, cast_is, paren_is, repeat_is, unary_is, binary_is, choice_is}
use Rattle.elab_flat.proofs.left.+left.Goals as goal

pub left_of-returns-in_ok-text-in-Select : goal.left_of-returns-in_ok-text-in-Select
left_of-returns-in_ok-text-in-Select t c =
    select_is c.args.mover.now.prefix.now c.args.mover.now.params.now c.args.expr.now c.in-Select.name _ _ c.in-Select.index _ _
    c.in-Select.is c.bytes-in-Select.ensures c.in_ok-text-in-Select.ensures c.get.ensures c.in_ok-index-in-Select.ensures

pub left_of-returns-in_ok-text-in-Part : goal.left_of-returns-in_ok-text-in-Part
left_of-returns-in_ok-text-in-Part t c =
    part_is c.args.mover.now.prefix.now c.args.mover.now.params.now c.args.expr.now c.in-Part.name _ _ c.in-Part.span c.in-Part.a c.in-Part.b _ _ _ _
    c.in-Part.is c.bytes-in-Part.ensures c.in_ok-text-in-Part.ensures c.get-in-Part.ensures c.get-in-Part-2.ensures c.in_ok-a-in-Part.ensures c.in_ok-b-in-Part.ensures

pub left_of-returns-in_ok-lefts_of-in-Concat : goal.left_of-returns-in_ok-lefts_of-in-Concat
left_of-returns-in_ok-lefts_of-in-Concat t c =
    concat_is c.args.mover.now.prefix.now c.args.mover.now.params.now c.args.expr.now c.in-Concat.parts _ _ c.in-Concat.is c.as_slice.ensures c.in_ok-lefts_of-in-Concat.ensures

pub left_of-returns-in-ConstantSelect : goal.left_of-returns-in-ConstantSelect
left_of-returns-in-ConstantSelect t c =
    constant_select_is c.args.mover.now.prefix.now c.args.mover.now.params.now c.args.expr.now c.in-ConstantSelect.field-0 c.in-ConstantSelect.field-1 _ c.in-ConstantSelect.is c.new-in-ConstantSelect.ensures

pub left_of-returns-in-ConstantPart : goal.left_of-returns-in-ConstantPart
left_of-returns-in-ConstantPart t c =
    constant_part_is c.args.mover.now.prefix.now c.args.mover.now.params.now c.args.expr.now c.in-ConstantPart.field-0 c.in-ConstantPart.field-1 c.in-ConstantPart.field-2 c.in-ConstantPart.field-3 _ c.in-ConstantPart.is c.new-in-ConstantPart.ensures

pub left_of-returns-in-Cast : goal.left_of-returns-in-Cast
left_of-returns-in-Cast t c =
    cast_is c.args.mover.now.prefix.now c.args.mover.now.params.now c.args.expr.now c.in-Cast.field-0 c.in-Cast.field-1 _ c.in-Cast.is c.new-in-Cast.ensures

pub left_of-returns-in-Paren : goal.left_of-returns-in-Paren
left_of-returns-in-Paren t c =
    paren_is c.args.mover.now.prefix.now c.args.mover.now.params.now c.args.expr.now c.in-Paren.field-0 _ c.in-Paren.is c.new-in-Paren.ensures

pub left_of-returns-in-Repeat : goal.left_of-returns-in-Repeat
left_of-returns-in-Repeat t c =
    repeat_is c.args.mover.now.prefix.now c.args.mover.now.params.now c.args.expr.now c.in-Repeat.field-0 c.in-Repeat.field-1 _ c.in-Repeat.is c.new-in-Repeat.ensures

pub left_of-returns-in-Unary : goal.left_of-returns-in-Unary
left_of-returns-in-Unary t c =
    unary_is c.args.mover.now.prefix.now c.args.mover.now.params.now c.args.expr.now c.in-Unary.field-0 c.in-Unary.field-1 _ c.in-Unary.is c.new-in-Unary.ensures

pub left_of-returns-in-Binary : goal.left_of-returns-in-Binary
left_of-returns-in-Binary t c =
    binary_is c.args.mover.now.prefix.now c.args.mover.now.params.now c.args.expr.now c.in-Binary.field-0 c.in-Binary.field-1 c.in-Binary.field-2 _ c.in-Binary.is c.new-in-Binary.ensures

pub left_of-returns-in-Choice : goal.left_of-returns-in-Choice
left_of-returns-in-Choice t c =
    choice_is c.args.mover.now.prefix.now c.args.mover.now.params.now c.args.expr.now c.in-Choice.field-0 c.in-Choice.field-1 c.in-Choice.field-2 _ c.in-Choice.is c.new-in-Choice.ensures

pub left_of-returns-in-Number : goal.left_of-returns-in-Number
left_of-returns-in-Number t c = number_is c.args.mover.now.prefix.now c.args.mover.now.params.now c.args.expr.now c.in-Number.field-0 _ c.in-Number.is c.new.ensures
