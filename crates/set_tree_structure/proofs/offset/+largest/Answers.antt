use Rattle.std.proofs.Common.{◌≡◌, max, sym, ◌∙◌, arith}
use Rattle.set_tree_structure.proofs.Offsets.{select_largest, part_largest, constant_select_largest, constant_part_largest, cast_largest, paren_largest, unary_largest, binary_largest, choice_largest, concat_largest, repeat_largest, largest_of}
use Rattle.set_tree_structure.proofs.offset.+largest.Goals as goal

pub loop-part-init : goal.loop-part-init
loop-part-init t c =
    let none : max 0 (largest_of c.in-Concat.parts) ≡ largest_of c.in-Concat.parts = omega arith in
    rw (c.in-Concat.is, c.as_slice-part-items.ensures) (none ∙ sym (concat_largest c.in-Concat.parts))

pub loop-part-2-init : goal.loop-part-2-init
loop-part-2-init t c =
    rw (c.in-Repeat.is, c.as_slice-part-items-in-Repeat.ensures, c.largest-most.ensures, c.get-in-Repeat.ensures) (sym (repeat_largest c.in-Repeat.count c.in-Repeat.parts))

pub returns-in-Select : goal.returns-in-Select
returns-in-Select t c = rw (c.in-Select.is, c.max.ensures, c.largest.ensures, c.get.ensures) (sym (select_largest c.in-Select.name c.in-Select.a))

pub returns-in-Part : goal.returns-in-Part
returns-in-Part t c =
    rw (c.in-Part.is, c.max-in-Part-2.ensures, c.max-in-Part.ensures, c.largest-in-Part.ensures, c.largest-in-Part-2.ensures, c.get-in-Part.ensures, c.get-in-Part-2.ensures)
    (sym (part_largest c.in-Part.name c.in-Part.field-1 c.in-Part.a c.in-Part.b))

pub returns-in-ConstantSelect : goal.returns-in-ConstantSelect
returns-in-ConstantSelect t c =
    rw (c.in-ConstantSelect.is, c.largest-in-ConstantSelect.ensures, c.get-in-ConstantSelect.ensures) (sym (constant_select_largest c.in-ConstantSelect.field-0 c.in-ConstantSelect.a))

pub returns-in-ConstantPart : goal.returns-in-ConstantPart
returns-in-ConstantPart t c =
    rw (c.in-ConstantPart.is, c.max-in-ConstantPart.ensures, c.largest-in-ConstantPart.ensures, c.largest-in-ConstantPart-2.ensures, c.get-in-ConstantPart.ensures, c.get-in-ConstantPart-2.ensures)
    (sym (constant_part_largest c.in-ConstantPart.field-0 c.in-ConstantPart.field-1 c.in-ConstantPart.a c.in-ConstantPart.b))

pub returns-in-Cast : goal.returns-in-Cast
returns-in-Cast t c = rw (c.in-Cast.is, c.largest-in-Cast.ensures, c.get-in-Cast.ensures) (sym (cast_largest c.in-Cast.field-0 c.in-Cast.a))

pub returns-in-Paren : goal.returns-in-Paren
returns-in-Paren t c = rw (c.in-Paren.is, c.largest-in-Paren.ensures, c.get-in-Paren.ensures) (sym (paren_largest c.in-Paren.a))

pub returns-in-Unary : goal.returns-in-Unary
returns-in-Unary t c = rw (c.in-Unary.is, c.largest-in-Unary.ensures, c.get-in-Unary.ensures) (sym (unary_largest c.in-Unary.field-0 c.in-Unary.a))

pub returns-in-Binary : goal.returns-in-Binary
returns-in-Binary t c =
    rw (c.in-Binary.is, c.max-in-Binary.ensures, c.largest-in-Binary.ensures, c.largest-in-Binary-2.ensures, c.get-in-Binary.ensures, c.get-in-Binary-2.ensures)
    (sym (binary_largest c.in-Binary.field-0 c.in-Binary.a c.in-Binary.b))

pub returns-in-Choice : goal.returns-in-Choice
returns-in-Choice t c =
    rw (
      c.in-Choice.is,
      c.max-in-Choice-2.ensures,
      c.max-in-Choice.ensures,
      c.largest-in-Choice.ensures,
      c.largest-in-Choice-2.ensures,
      c.largest-in-Choice-3.ensures,
      c.get-in-Choice.ensures,
      c.get-in-Choice-2.ensures,
      c.get-in-Choice-3.ensures,
    )
    (sym (choice_largest c.in-Choice.condition c.in-Choice.a c.in-Choice.b))
