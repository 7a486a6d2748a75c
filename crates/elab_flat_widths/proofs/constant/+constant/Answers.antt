use Rattle.elab_flat_params.specs.Constants.{is_known}
use Rattle.elab_flat_widths.proofs.Constants.{select_parts, constant_select_parts, cast_parts, paren_parts, unary_parts, binary_parts, choice_parts, part_parts, constant_part_parts, concat_parts, repeat_parts}
use Rattle.elab_flat_widths.proofs.constant.+constant.Goals as goal

pub has_constant_parts-returns-in-Select : goal.has_constant_parts-returns-in-Select
has_constant_parts-returns-in-Select t c =
    select_parts (is_known c.args.params.now) c.args.expr.now c.in-Select.field-0 c.in-Select.index c.get.result.now c.has_constant_parts.result c.in-Select.is c.get.ensures c.has_constant_parts.ensures

pub has_constant_parts-returns-in-ConstantSelect : goal.has_constant_parts-returns-in-ConstantSelect
has_constant_parts-returns-in-ConstantSelect t c =
    constant_select_parts (is_known c.args.params.now) c.args.expr.now c.in-ConstantSelect.field-0 c.in-ConstantSelect.index c.get-in-ConstantSelect.result.now c.has_constant_parts-in-ConstantSelect.result c.in-ConstantSelect.is c.get-in-ConstantSelect.ensures c.has_constant_parts-in-ConstantSelect.ensures

pub has_constant_parts-returns-in-Cast : goal.has_constant_parts-returns-in-Cast
has_constant_parts-returns-in-Cast t c =
    cast_parts (is_known c.args.params.now) c.args.expr.now c.in-Cast.field-0 c.in-Cast.inner c.get-in-Cast.result.now c.has_constant_parts-in-Cast.result c.in-Cast.is c.get-in-Cast.ensures c.has_constant_parts-in-Cast.ensures

pub has_constant_parts-returns-in-Unary : goal.has_constant_parts-returns-in-Unary
has_constant_parts-returns-in-Unary t c =
    unary_parts (is_known c.args.params.now) c.args.expr.now c.in-Unary.field-0 c.in-Unary.a c.get-in-Unary.result.now c.has_constant_parts-in-Unary.result c.in-Unary.is c.get-in-Unary.ensures c.has_constant_parts-in-Unary.ensures

pub has_constant_parts-returns-in-Paren : goal.has_constant_parts-returns-in-Paren
has_constant_parts-returns-in-Paren t c =
    paren_parts (is_known c.args.params.now) c.args.expr.now c.in-Paren.inner c.get-in-Paren.result.now c.has_constant_parts-in-Paren.result c.in-Paren.is c.get-in-Paren.ensures c.has_constant_parts-in-Paren.ensures

pub has_constant_parts-returns-in-Part : goal.has_constant_parts-returns-in-Part
has_constant_parts-returns-in-Part t c =
    part_parts (is_known c.args.params.now) c.args.expr.now c.in-Part.field-0 c.in-Part.span c.in-Part.a c.in-Part.b c.get-in-Part.result.now c.get-in-Part-2.result.now c.get-in-Part-3.result.now c.get-in-Part-4.result.now c.has_constant_parts-in-Part.result c.has_constant_parts-in-Part-2.result c.is_part_constant.result c.all_three.result
    c.in-Part.is c.get-in-Part.ensures c.get-in-Part-2.ensures c.get-in-Part-3.ensures c.get-in-Part-4.ensures c.has_constant_parts-in-Part.ensures c.has_constant_parts-in-Part-2.ensures c.is_part_constant.ensures c.all_three.ensures

pub has_constant_parts-returns-in-ConstantPart : goal.has_constant_parts-returns-in-ConstantPart
has_constant_parts-returns-in-ConstantPart t c =
    constant_part_parts (is_known c.args.params.now) c.args.expr.now c.in-ConstantPart.field-0 c.in-ConstantPart.span c.in-ConstantPart.a c.in-ConstantPart.b c.get-in-ConstantPart.result.now c.get-in-ConstantPart-2.result.now c.get-in-ConstantPart-3.result.now c.get-in-ConstantPart-4.result.now c.has_constant_parts-in-ConstantPart.result c.has_constant_parts-in-ConstantPart-2.result c.is_part_constant-in-ConstantPart.result c.all_three-in-ConstantPart.result
    c.in-ConstantPart.is c.get-in-ConstantPart.ensures c.get-in-ConstantPart-2.ensures c.get-in-ConstantPart-3.ensures c.get-in-ConstantPart-4.ensures c.has_constant_parts-in-ConstantPart.ensures c.has_constant_parts-in-ConstantPart-2.ensures c.is_part_constant-in-ConstantPart.ensures c.all_three-in-ConstantPart.ensures

pub has_constant_parts-returns-in-Binary : goal.has_constant_parts-returns-in-Binary
has_constant_parts-returns-in-Binary t c =
    binary_parts (is_known c.args.params.now) c.args.expr.now c.in-Binary.op c.in-Binary.a c.in-Binary.b c.get-in-Binary.result.now c.get-in-Binary-2.result.now c.get-in-Binary-3.result.now c.get-in-Binary-4.result.now c.has_constant_parts-in-Binary.result c.has_constant_parts-in-Binary-2.result c.is_division_constant.result c.all_three-in-Binary.result
    c.in-Binary.is c.get-in-Binary.ensures c.get-in-Binary-2.ensures c.get-in-Binary-3.ensures c.get-in-Binary-4.ensures c.has_constant_parts-in-Binary.ensures c.has_constant_parts-in-Binary-2.ensures c.is_division_constant.ensures c.all_three-in-Binary.ensures

pub has_constant_parts-returns-in-Choice : goal.has_constant_parts-returns-in-Choice
has_constant_parts-returns-in-Choice t c =
    choice_parts (is_known c.args.params.now) c.args.expr.now c.in-Choice.condition c.in-Choice.a c.in-Choice.b c.get-in-Choice.result.now c.get-in-Choice-2.result.now c.get-in-Choice-3.result.now c.has_constant_parts-in-Choice.result c.has_constant_parts-in-Choice-2.result c.has_constant_parts-in-Choice-3.result c.all_three-in-Choice.result
    c.in-Choice.is c.get-in-Choice.ensures c.get-in-Choice-2.ensures c.get-in-Choice-3.ensures c.has_constant_parts-in-Choice.ensures c.has_constant_parts-in-Choice-2.ensures c.has_constant_parts-in-Choice-3.ensures c.all_three-in-Choice.ensures

pub has_constant_parts-returns-in-Concat : goal.has_constant_parts-returns-in-Concat
has_constant_parts-returns-in-Concat t c =
    concat_parts (is_known c.args.params.now) c.args.expr.now c.in-Concat.parts c.as_slice.result.now c.all_have_constant_parts.result c.in-Concat.is c.as_slice.ensures c.all_have_constant_parts.ensures

pub has_constant_parts-returns-in-Repeat : goal.has_constant_parts-returns-in-Repeat
has_constant_parts-returns-in-Repeat t c =
    repeat_parts (is_known c.args.params.now) c.args.expr.now c.in-Repeat.count c.get-in-Repeat.result.now c.get-in-Repeat-2.result.now c.in-Repeat.parts c.as_slice-in-Repeat.result.now c.has_constant_parts-in-Repeat.result c.is_constant.result c.all_have_constant_parts-in-Repeat.result c.all_three-in-Repeat.result
    c.in-Repeat.is c.get-in-Repeat.ensures c.get-in-Repeat-2.ensures c.as_slice-in-Repeat.ensures c.has_constant_parts-in-Repeat.ensures c.is_constant.ensures c.all_have_constant_parts-in-Repeat.ensures c.all_three-in-Repeat.ensures
