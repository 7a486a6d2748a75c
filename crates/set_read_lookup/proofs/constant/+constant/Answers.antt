use Rattle.std.proofs.Common.{refl, inl, inr}
use Rattle.set_read_lookup.specs.Tests.{is_part_constant, is_division_constant}
use Rattle.set_read_lookup.proofs.ConstantForms.{select_test, part_test, constant_select_test, constant_part_test, cast_test, paren_test, unary_test, binary_test, choice_test, concat_test, repeat_test}
use Rattle.set_read_lookup.proofs.constant.+constant.Goals as goal

pub has_constant_parts-returns-in-Select : goal.has_constant_parts-returns-in-Select
has_constant_parts-returns-in-Select t c = select_test c.args.expr.now c.in-Select.field-0 c.in-Select.a c.get.result.now c.has_constant_parts.result c.in-Select.is c.get.ensures c.has_constant_parts.ensures

pub has_constant_parts-returns-in-ConstantSelect : goal.has_constant_parts-returns-in-ConstantSelect
has_constant_parts-returns-in-ConstantSelect t c = constant_select_test c.args.expr.now c.in-ConstantSelect.field-0 c.in-ConstantSelect.a c.get-in-ConstantSelect.result.now c.has_constant_parts-in-ConstantSelect.result c.in-ConstantSelect.is c.get-in-ConstantSelect.ensures c.has_constant_parts-in-ConstantSelect.ensures

pub has_constant_parts-returns-in-Cast : goal.has_constant_parts-returns-in-Cast
has_constant_parts-returns-in-Cast t c = cast_test c.args.expr.now c.in-Cast.field-0 c.in-Cast.a c.get-in-Cast.result.now c.has_constant_parts-in-Cast.result c.in-Cast.is c.get-in-Cast.ensures c.has_constant_parts-in-Cast.ensures

pub has_constant_parts-returns-in-Paren : goal.has_constant_parts-returns-in-Paren
has_constant_parts-returns-in-Paren t c = paren_test c.args.expr.now c.in-Paren.a c.get-in-Paren.result.now c.has_constant_parts-in-Paren.result c.in-Paren.is c.get-in-Paren.ensures c.has_constant_parts-in-Paren.ensures

pub has_constant_parts-returns-in-Unary : goal.has_constant_parts-returns-in-Unary
has_constant_parts-returns-in-Unary t c = unary_test c.args.expr.now c.in-Unary.field-0 c.in-Unary.a c.get-in-Unary.result.now c.has_constant_parts-in-Unary.result c.in-Unary.is c.get-in-Unary.ensures c.has_constant_parts-in-Unary.ensures

pub has_constant_parts-returns-in-Binary : goal.has_constant_parts-returns-in-Binary
has_constant_parts-returns-in-Binary t c =
    binary_test c.in-Binary.a c.in-Binary.b c.get-in-Binary-4.result.now c.get-in-Binary.result.now c.get-in-Binary-2.result.now c.get-in-Binary-3.result.now (is_division_constant c.in-Binary.op) c.has_constant_parts-in-Binary-2.result c.has_constant_parts-in-Binary.result c.is_division_constant.result c.both-right-in-Binary.result c.both-in-Binary.result
    c.get-in-Binary-4.ensures c.get-in-Binary.ensures c.get-in-Binary-2.ensures c.get-in-Binary-3.ensures c.has_constant_parts-in-Binary-2.ensures c.has_constant_parts-in-Binary.ensures c.is_division_constant.ensures c.both-right-in-Binary.ensures c.both-in-Binary.ensures c.args.expr.now c.in-Binary.op c.in-Binary.is refl

pub has_constant_parts-returns-in-Choice : goal.has_constant_parts-returns-in-Choice
has_constant_parts-returns-in-Choice t c =
    choice_test c.args.expr.now c.in-Choice.c c.in-Choice.a c.in-Choice.b c.get-in-Choice-3.result.now c.get-in-Choice.result.now c.get-in-Choice-2.result.now c.has_constant_parts-in-Choice-3.result c.has_constant_parts-in-Choice.result c.has_constant_parts-in-Choice-2.result c.both-right-in-Choice.result c.both-in-Choice.result
    c.in-Choice.is c.get-in-Choice-3.ensures c.get-in-Choice.ensures c.get-in-Choice-2.ensures c.has_constant_parts-in-Choice-3.ensures c.has_constant_parts-in-Choice.ensures c.has_constant_parts-in-Choice-2.ensures c.both-right-in-Choice.ensures c.both-in-Choice.ensures

pub has_constant_parts-returns-in-Concat : goal.has_constant_parts-returns-in-Concat
has_constant_parts-returns-in-Concat t c = concat_test c.args.expr.now c.in-Concat.parts c.as_slice.result.now c.all_have_constant_parts.result c.in-Concat.is c.as_slice.ensures c.all_have_constant_parts.ensures

pub has_constant_parts-returns-in-Repeat : goal.has_constant_parts-returns-in-Repeat
has_constant_parts-returns-in-Repeat t c =
    repeat_test c.args.expr.now c.in-Repeat.count c.get-in-Repeat-2.result.now c.get-in-Repeat.result.now c.in-Repeat.parts c.as_slice-in-Repeat.result.now
    c.has_constant_parts-in-Repeat.result c.names_nothing.result c.all_have_constant_parts-in-Repeat.result c.both-right.result c.both.result
    c.in-Repeat.is c.get-in-Repeat-2.ensures c.get-in-Repeat.ensures c.as_slice-in-Repeat.ensures c.has_constant_parts-in-Repeat.ensures c.names_nothing.ensures c.all_have_constant_parts-in-Repeat.ensures
    c.both-right.ensures c.both.ensures

pub has_constant_parts-returns-in-Part : goal.has_constant_parts-returns-in-Part
has_constant_parts-returns-in-Part t c = elim (c.in-Part.is) [
  | inl k ↦ part_test c.in-Part.a c.in-Part.b c.get-in-Part-4.result.now c.get-in-Part.result.now c.get-in-Part-2.result.now c.get-in-Part-3.result.now (is_part_constant c.in-Part.span) c.has_constant_parts-in-Part-2.result c.has_constant_parts-in-Part.result c.is_part_constant.result c.both-right-in-Part.result c.both-in-Part.result
      c.get-in-Part-4.ensures c.get-in-Part.ensures c.get-in-Part-2.ensures c.get-in-Part-3.ensures c.has_constant_parts-in-Part-2.ensures c.has_constant_parts-in-Part.ensures c.is_part_constant.ensures c.both-right-in-Part.ensures c.both-in-Part.ensures c.args.expr.now k.0 c.in-Part.span k.1 refl
  | inr k ↦ constant_part_test c.in-Part.a c.in-Part.b c.get-in-Part-4.result.now c.get-in-Part.result.now c.get-in-Part-2.result.now c.get-in-Part-3.result.now (is_part_constant c.in-Part.span) c.has_constant_parts-in-Part-2.result c.has_constant_parts-in-Part.result c.is_part_constant.result c.both-right-in-Part.result c.both-in-Part.result
      c.get-in-Part-4.ensures c.get-in-Part.ensures c.get-in-Part-2.ensures c.get-in-Part-3.ensures c.has_constant_parts-in-Part-2.ensures c.has_constant_parts-in-Part.ensures c.is_part_constant.ensures c.both-right-in-Part.ensures c.both-in-Part.ensures c.args.expr.now k.0 c.in-Part.span k.1 refl
]
