use Rattle.elab_flat_params.specs.Constants.{is_strange}
use Rattle.elab_flat_faults.specs.Texts.{names_in}
use Rattle.elab_flat_params.proofs.Searches.{passes_at, stops_at}
use Rattle.elab_flat_params.proofs.FormNames.{select_gives, part_gives, constant_select_gives, constant_part_gives, cast_gives, paren_gives, concat_gives, repeat_gives, unary_gives, binary_gives, choice_gives}
use Rattle.elab_flat_params.proofs.stranger.+strangers.Goals as goal

pub stranger_in-returns-in-Select : goal.stranger_in-returns-in-Select
stranger_in-returns-in-Select t c =
    select_gives (is_strange c.args.params.now) c.args.expr.now c.in-Select.name c.in-Select.index c.get.result.now c.itself-in-Select.result c.stranger_in.result c.or.result
    c.in-Select.is c.get.ensures c.itself-in-Select.ensures c.stranger_in.ensures c.or.ensures

pub stranger_in-returns-in-Part : goal.stranger_in-returns-in-Part
stranger_in-returns-in-Part t c =
    part_gives (is_strange c.args.params.now) c.args.expr.now c.in-Part.name c.in-Part.field-1 c.in-Part.a c.in-Part.b c.get-in-Part.result.now c.get-in-Part-2.result.now
    c.itself-in-Part.result c.stranger_in-in-Part.result c.stranger_in-in-Part-2.result c.or-in-Part.result c.or-in-Part-2.result
    c.in-Part.is c.get-in-Part.ensures c.get-in-Part-2.ensures c.itself-in-Part.ensures c.stranger_in-in-Part.ensures c.stranger_in-in-Part-2.ensures c.or-in-Part.ensures c.or-in-Part-2.ensures

pub stranger_in-returns-in-ConstantSelect : goal.stranger_in-returns-in-ConstantSelect
stranger_in-returns-in-ConstantSelect t c =
    constant_select_gives (is_strange c.args.params.now) c.args.expr.now c.in-ConstantSelect.field-0 c.in-ConstantSelect.index c.get-in-ConstantSelect.result.now c.stranger_in-in-ConstantSelect.result
    c.in-ConstantSelect.is c.get-in-ConstantSelect.ensures c.stranger_in-in-ConstantSelect.ensures

pub stranger_in-returns-in-ConstantPart : goal.stranger_in-returns-in-ConstantPart
stranger_in-returns-in-ConstantPart t c =
    constant_part_gives (is_strange c.args.params.now) c.args.expr.now c.in-ConstantPart.field-0 c.in-ConstantPart.field-1 c.in-ConstantPart.a c.in-ConstantPart.b c.get-in-ConstantPart.result.now c.get-in-ConstantPart-2.result.now
    c.stranger_in-in-ConstantPart.result c.stranger_in-in-ConstantPart-2.result c.or-in-ConstantPart.result
    c.in-ConstantPart.is c.get-in-ConstantPart.ensures c.get-in-ConstantPart-2.ensures c.stranger_in-in-ConstantPart.ensures c.stranger_in-in-ConstantPart-2.ensures c.or-in-ConstantPart.ensures

pub stranger_in-returns-in-Cast : goal.stranger_in-returns-in-Cast
stranger_in-returns-in-Cast t c =
    cast_gives (is_strange c.args.params.now) c.args.expr.now c.in-Cast.field-0 c.in-Cast.inner c.get-in-Cast.result.now c.stranger_in-in-Cast.result c.in-Cast.is c.get-in-Cast.ensures c.stranger_in-in-Cast.ensures

pub stranger_in-returns-in-Paren : goal.stranger_in-returns-in-Paren
stranger_in-returns-in-Paren t c =
    paren_gives (is_strange c.args.params.now) c.args.expr.now c.in-Paren.inner c.get-in-Paren.result.now c.stranger_in-in-Paren.result c.in-Paren.is c.get-in-Paren.ensures c.stranger_in-in-Paren.ensures

pub stranger_in-returns-in-Concat : goal.stranger_in-returns-in-Concat
stranger_in-returns-in-Concat t c =
    concat_gives (is_strange c.args.params.now) c.args.expr.now c.in-Concat.parts c.as_slice.result.now c.stranger_among.result c.in-Concat.is c.as_slice.ensures c.stranger_among.ensures

pub stranger_in-returns-in-Repeat : goal.stranger_in-returns-in-Repeat
stranger_in-returns-in-Repeat t c =
    repeat_gives (is_strange c.args.params.now) c.args.expr.now c.in-Repeat.count c.get-in-Repeat.result.now c.in-Repeat.parts c.as_slice-in-Repeat.result.now
    c.stranger_in-in-Repeat.result c.stranger_among-in-Repeat.result c.or-in-Repeat.result
    c.in-Repeat.is c.get-in-Repeat.ensures c.as_slice-in-Repeat.ensures c.stranger_in-in-Repeat.ensures c.stranger_among-in-Repeat.ensures c.or-in-Repeat.ensures

pub stranger_in-returns-in-Unary : goal.stranger_in-returns-in-Unary
stranger_in-returns-in-Unary t c =
    unary_gives (is_strange c.args.params.now) c.args.expr.now c.in-Unary.field-0 c.in-Unary.a c.get-in-Unary.result.now c.stranger_in-in-Unary.result c.in-Unary.is c.get-in-Unary.ensures c.stranger_in-in-Unary.ensures

pub stranger_in-returns-in-Binary : goal.stranger_in-returns-in-Binary
stranger_in-returns-in-Binary t c =
    binary_gives (is_strange c.args.params.now) c.args.expr.now c.in-Binary.field-0 c.in-Binary.a c.in-Binary.b c.get-in-Binary.result.now c.get-in-Binary-2.result.now
    c.stranger_in-in-Binary.result c.stranger_in-in-Binary-2.result c.or-in-Binary.result
    c.in-Binary.is c.get-in-Binary.ensures c.get-in-Binary-2.ensures c.stranger_in-in-Binary.ensures c.stranger_in-in-Binary-2.ensures c.or-in-Binary.ensures

pub stranger_in-returns-in-Choice : goal.stranger_in-returns-in-Choice
stranger_in-returns-in-Choice t c =
    choice_gives (is_strange c.args.params.now) c.args.expr.now c.in-Choice.condition c.in-Choice.a c.in-Choice.b c.get-in-Choice.result.now c.get-in-Choice-2.result.now c.get-in-Choice-3.result.now
    c.stranger_in-in-Choice.result c.stranger_in-in-Choice-2.result c.stranger_in-in-Choice-3.result c.or-in-Choice.result c.or-in-Choice-2.result
    c.in-Choice.is c.get-in-Choice.ensures c.get-in-Choice-2.ensures c.get-in-Choice-3.ensures c.stranger_in-in-Choice.ensures c.stranger_in-in-Choice-2.ensures c.stranger_in-in-Choice-3.ensures
    c.or-in-Choice.ensures c.or-in-Choice-2.ensures

pub stranger_among-returns-in-Some : goal.stranger_among-returns-in-Some
stranger_among-returns-in-Some t c =
    stops_at names_in (is_strange c.args.params.now) c.args.exprs.now c.loop-expr.expr-index c.expr-item.result c.loop-expr-test.true c.expr-item.is _ c.in-Some.name.now
    c.loop-expr.invariant c.in-Some.ensures

pub stranger_among-loop-expr-preserved : goal.stranger_among-loop-expr-preserved
stranger_among-loop-expr-preserved t c =
    passes_at names_in (is_strange c.args.params.now) c.args.exprs.now c.loop-expr.expr-index c.expr-item.result c.loop-expr-test.true c.expr-item.is _ c.stranger_in.result
    c.loop-expr.invariant c.stranger_in.ensures c.in_default.not-Some
