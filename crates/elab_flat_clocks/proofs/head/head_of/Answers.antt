use Rattle.elab_flat_clocks.proofs.Forms.{unary_head, binary_head, select_other, part_other, constant_select_other, constant_part_other, cast_other, paren_other, concat_other, repeat_other, choice_other}
use Rattle.elab_flat_clocks.proofs.head.head_of.Goals as goal

pub returns-in-Unary : goal.returns-in-Unary
returns-in-Unary c = unary_head _ _ _ _ c.in-Unary.is c.get.ensures

pub returns-in-Binary : goal.returns-in-Binary
returns-in-Binary c = binary_head _ _ _ _ _ _ c.in-Binary.is c.get-in-Binary.ensures c.get-in-Binary-2.ensures

pub returns-in-Select : goal.returns-in-Select
returns-in-Select c = select_other _ _ _ c.in-Select.is

pub returns-in-Part : goal.returns-in-Part
returns-in-Part c = part_other _ _ _ _ _ c.in-Part.is

pub returns-in-ConstantSelect : goal.returns-in-ConstantSelect
returns-in-ConstantSelect c = constant_select_other _ _ _ c.in-ConstantSelect.is

pub returns-in-ConstantPart : goal.returns-in-ConstantPart
returns-in-ConstantPart c = constant_part_other _ _ _ _ _ c.in-ConstantPart.is

pub returns-in-Cast : goal.returns-in-Cast
returns-in-Cast c = cast_other _ _ _ c.in-Cast.is

pub returns-in-Paren : goal.returns-in-Paren
returns-in-Paren c = paren_other _ _ c.in-Paren.is

pub returns-in-Concat : goal.returns-in-Concat
returns-in-Concat c = concat_other _ _ c.in-Concat.is

pub returns-in-Repeat : goal.returns-in-Repeat
returns-in-Repeat c = repeat_other _ _ _ c.in-Repeat.is

pub returns-in-Choice : goal.returns-in-Choice
returns-in-Choice c = choice_other _ _ _ _ c.in-Choice.is
