use Rattle.elab_flat_names.specs.Assignable.{is_assignable}
use Rattle.elab_flat_names.proofs.Assigning.{concat_can, select_can, part_can, constant_select_cannot, constant_part_cannot, cast_cannot, paren_cannot, repeat_cannot, unary_cannot, binary_cannot, choice_cannot, stops, goes_on}
use Rattle.elab_flat_names.proofs.assignable.+assignable.Goals as goal

pub is_assignable-returns-in-Select : goal.is_assignable-returns-in-Select
is_assignable-returns-in-Select t c = select_can c.args.signals.now _ _ _ _ _ c.in-Select.is c.bytes-in-Select.ensures c.has-in-Select.ensures

pub is_assignable-returns-in-Part : goal.is_assignable-returns-in-Part
is_assignable-returns-in-Part t c = part_can c.args.signals.now _ _ _ _ _ _ _ c.in-Part.is c.bytes-in-Part.ensures c.has-in-Part.ensures

pub is_assignable-returns-in-Concat : goal.is_assignable-returns-in-Concat
is_assignable-returns-in-Concat t c = concat_can c.args.signals.now _ _ _ _ c.in-Concat.is c.as_slice.ensures c.are_assignable.ensures

pub is_assignable-returns-in-ConstantSelect : goal.is_assignable-returns-in-ConstantSelect
is_assignable-returns-in-ConstantSelect t c = constant_select_cannot c.args.signals.now _ _ _ c.in-ConstantSelect.is

pub is_assignable-returns-in-ConstantPart : goal.is_assignable-returns-in-ConstantPart
is_assignable-returns-in-ConstantPart t c = constant_part_cannot c.args.signals.now _ _ _ _ _ c.in-ConstantPart.is

pub is_assignable-returns-in-Cast : goal.is_assignable-returns-in-Cast
is_assignable-returns-in-Cast t c = cast_cannot c.args.signals.now _ _ _ c.in-Cast.is

pub is_assignable-returns-in-Paren : goal.is_assignable-returns-in-Paren
is_assignable-returns-in-Paren t c = paren_cannot c.args.signals.now _ _ c.in-Paren.is

pub is_assignable-returns-in-Repeat : goal.is_assignable-returns-in-Repeat
is_assignable-returns-in-Repeat t c = repeat_cannot c.args.signals.now _ _ _ c.in-Repeat.is

pub is_assignable-returns-in-Unary : goal.is_assignable-returns-in-Unary
is_assignable-returns-in-Unary t c = unary_cannot c.args.signals.now _ _ _ c.in-Unary.is

pub is_assignable-returns-in-Binary : goal.is_assignable-returns-in-Binary
is_assignable-returns-in-Binary t c = binary_cannot c.args.signals.now _ _ _ _ c.in-Binary.is

pub is_assignable-returns-in-Choice : goal.is_assignable-returns-in-Choice
is_assignable-returns-in-Choice t c = choice_cannot c.args.signals.now _ _ _ _ c.in-Choice.is

pub are_assignable-returns-then-not-is_assignable : goal.are_assignable-returns-then-not-is_assignable
are_assignable-returns-then-not-is_assignable t c =
    stops (is_assignable c.args.signals.now) c.args.exprs.now c.loop-expr.expr-index c.expr-item.result c.loop-expr-test.true c.expr-item.is _ c.loop-expr.invariant c.is_assignable.result c.is_assignable.ensures c.if-not-is_assignable.true

pub are_assignable-loop-expr-preserved : goal.are_assignable-loop-expr-preserved
are_assignable-loop-expr-preserved t c =
    goes_on (is_assignable c.args.signals.now) c.args.exprs.now c.loop-expr.expr-index c.expr-item.result c.loop-expr-test.true c.expr-item.is _ c.loop-expr.invariant c.is_assignable.result c.is_assignable.ensures c.if-not-is_assignable.false
