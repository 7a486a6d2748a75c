use Rattle.std.proofs.Common.{◌<◌, ◌≤◌, length, arith}
use Rattle.mem_flat.proofs.Forms.{number_constant, name_inconstant, select_inconstant, part_inconstant, constant_select, constant_part, cast_constant, paren_constant, unary_constant, concat_constant, repeat_constant, binary_constant, choice_constant, one_constant, none_constant, all_constant}
use Rattle.mem_flat.proofs.index.+constant.Goals as goal

pub is_constant-returns-in-Number : goal.is_constant-returns-in-Number
is_constant-returns-in-Number t c = number_constant _ _ c.in-Number.is

pub is_constant-returns-in-Name : goal.is_constant-returns-in-Name
is_constant-returns-in-Name t c = name_inconstant _ _ c.in-Name.is

pub is_constant-returns-in-Select : goal.is_constant-returns-in-Select
is_constant-returns-in-Select t c = select_inconstant _ _ _ c.in-Select.is

pub is_constant-returns-in-Part : goal.is_constant-returns-in-Part
is_constant-returns-in-Part t c = part_inconstant _ _ _ _ _ c.in-Part.is

pub is_constant-returns-in-ConstantSelect : goal.is_constant-returns-in-ConstantSelect
is_constant-returns-in-ConstantSelect t c = constant_select _ _ _ _ _ c.in-ConstantSelect.is c.get.ensures c.is_constant.ensures

pub is_constant-returns-in-ConstantPart : goal.is_constant-returns-in-ConstantPart
is_constant-returns-in-ConstantPart t c =
    constant_part _ _ _ _ _ _ _ _ _ _ c.in-ConstantPart.is c.get-in-ConstantPart.ensures c.get-in-ConstantPart-2.ensures c.is_constant-in-ConstantPart.ensures c.is_constant-in-ConstantPart-2.ensures c.are_both.ensures

pub is_constant-returns-in-Cast : goal.is_constant-returns-in-Cast
is_constant-returns-in-Cast t c = cast_constant _ _ _ _ _ c.in-Cast.is c.get-in-Cast.ensures c.is_constant-in-Cast.ensures

pub is_constant-returns-in-Paren : goal.is_constant-returns-in-Paren
is_constant-returns-in-Paren t c = paren_constant _ _ _ _ c.in-Paren.is c.get-in-Paren.ensures c.is_constant-in-Paren.ensures

pub is_constant-returns-in-Concat : goal.is_constant-returns-in-Concat
is_constant-returns-in-Concat t c = concat_constant _ _ _ _ c.in-Concat.is c.as_slice.ensures c.are_constant.ensures

pub is_constant-returns-in-Repeat : goal.is_constant-returns-in-Repeat
is_constant-returns-in-Repeat t c =
    repeat_constant _ _ _ _ _ _ _ _ c.in-Repeat.is c.get-in-Repeat.ensures c.as_slice-in-Repeat.ensures c.is_constant-in-Repeat.ensures c.are_constant-in-Repeat.ensures c.are_both-in-Repeat.ensures

pub is_constant-returns-in-Unary : goal.is_constant-returns-in-Unary
is_constant-returns-in-Unary t c = unary_constant _ _ _ _ _ c.in-Unary.is c.get-in-Unary.ensures c.is_constant-in-Unary.ensures

pub is_constant-returns-in-Binary : goal.is_constant-returns-in-Binary
is_constant-returns-in-Binary t c =
    binary_constant _ _ _ _ _ _ _ _ _ c.in-Binary.is c.get-in-Binary.ensures c.get-in-Binary-2.ensures c.is_constant-in-Binary.ensures c.is_constant-in-Binary-2.ensures c.are_both-in-Binary.ensures

pub is_constant-returns-in-Choice : goal.is_constant-returns-in-Choice
is_constant-returns-in-Choice t c =
    choice_constant _ _ _ _ _ _ _ _ _ _ _ _ c.in-Choice.is c.get-in-Choice.ensures c.get-in-Choice-2.ensures c.get-in-Choice-3.ensures
    c.is_constant-in-Choice.ensures c.is_constant-in-Choice-2.ensures c.is_constant-in-Choice-3.ensures c.are_both-in-Choice.ensures c.are_both-in-Choice-2.ensures

pub are_constant-loop-expr-preserved : goal.are_constant-loop-expr-preserved
are_constant-loop-expr-preserved t c =
    let lt : c.loop-expr.expr-index < length c.args.exprs.now = omega (arith, c.loop-expr-test.true) in
    one_constant c.args.exprs.now c.loop-expr.expr-index c.expr-item.result _ _ lt c.expr-item.is c.is_constant.ensures c.if-not-is_constant.false c.loop-expr.invariant

pub are_constant-returns-then-not-is_constant : goal.are_constant-returns-then-not-is_constant
are_constant-returns-then-not-is_constant t c =
    let lt : c.loop-expr.expr-index < length c.args.exprs.now = omega (arith, c.loop-expr-test.true) in
    none_constant c.args.exprs.now c.loop-expr.expr-index c.expr-item.result _ _ lt c.expr-item.is c.is_constant.ensures c.if-not-is_constant.true c.loop-expr.invariant

pub are_constant-returns : goal.are_constant-returns
are_constant-returns t c =
    let le : length c.args.exprs.now ≤ c.loop-expr.expr-index = omega (arith, c.loop-expr-test.false) in
    all_constant c.args.exprs.now c.loop-expr.expr-index _ le c.loop-expr.invariant
