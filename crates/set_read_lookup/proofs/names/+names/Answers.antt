use Rattle.set_read_lookup.specs.Faults.{is_wanted, names_in}
use Rattle.set_read_lookup.proofs.Searches.{passes_at, stops_at}
use Rattle.set_read_lookup.proofs.FormNames.{select_gives, part_gives, constant_select_gives, constant_part_gives, cast_gives, paren_gives, concat_gives, repeat_gives, unary_gives, binary_gives, choice_gives}
use Rattle.set_read_lookup.proofs.names.+names.Goals as goal

pub wanted_in-returns-in-Select : goal.wanted_in-returns-in-Select
wanted_in-returns-in-Select t c =
    select_gives (is_wanted c.args.wanted.now) c.args.expr.now c.in-Select.name c.in-Select.index c.get.result.now c.itself-in-Select.result c.wanted_in.result c.or.result
    c.in-Select.is c.get.ensures c.itself-in-Select.ensures c.wanted_in.ensures c.or.ensures

pub wanted_in-returns-in-Part : goal.wanted_in-returns-in-Part
wanted_in-returns-in-Part t c =
    part_gives (is_wanted c.args.wanted.now) c.args.expr.now c.in-Part.name c.in-Part.field-1 c.in-Part.a c.in-Part.b c.get-in-Part.result.now c.get-in-Part-2.result.now
    c.itself-in-Part.result c.wanted_in-in-Part.result c.wanted_in-in-Part-2.result c.or-in-Part.result c.or-in-Part-2.result
    c.in-Part.is c.get-in-Part.ensures c.get-in-Part-2.ensures c.itself-in-Part.ensures c.wanted_in-in-Part.ensures c.wanted_in-in-Part-2.ensures c.or-in-Part.ensures c.or-in-Part-2.ensures

pub wanted_in-returns-in-ConstantSelect : goal.wanted_in-returns-in-ConstantSelect
wanted_in-returns-in-ConstantSelect t c =
    constant_select_gives (is_wanted c.args.wanted.now) c.args.expr.now c.in-ConstantSelect.field-0 c.in-ConstantSelect.index c.get-in-ConstantSelect.result.now c.wanted_in-in-ConstantSelect.result
    c.in-ConstantSelect.is c.get-in-ConstantSelect.ensures c.wanted_in-in-ConstantSelect.ensures

pub wanted_in-returns-in-ConstantPart : goal.wanted_in-returns-in-ConstantPart
wanted_in-returns-in-ConstantPart t c =
    constant_part_gives (is_wanted c.args.wanted.now) c.args.expr.now c.in-ConstantPart.field-0 c.in-ConstantPart.field-1 c.in-ConstantPart.a c.in-ConstantPart.b c.get-in-ConstantPart.result.now c.get-in-ConstantPart-2.result.now
    c.wanted_in-in-ConstantPart.result c.wanted_in-in-ConstantPart-2.result c.or-in-ConstantPart.result
    c.in-ConstantPart.is c.get-in-ConstantPart.ensures c.get-in-ConstantPart-2.ensures c.wanted_in-in-ConstantPart.ensures c.wanted_in-in-ConstantPart-2.ensures c.or-in-ConstantPart.ensures

pub wanted_in-returns-in-Cast : goal.wanted_in-returns-in-Cast
wanted_in-returns-in-Cast t c =
    cast_gives (is_wanted c.args.wanted.now) c.args.expr.now c.in-Cast.field-0 c.in-Cast.inner c.get-in-Cast.result.now c.wanted_in-in-Cast.result c.in-Cast.is c.get-in-Cast.ensures c.wanted_in-in-Cast.ensures

pub wanted_in-returns-in-Paren : goal.wanted_in-returns-in-Paren
wanted_in-returns-in-Paren t c =
    paren_gives (is_wanted c.args.wanted.now) c.args.expr.now c.in-Paren.inner c.get-in-Paren.result.now c.wanted_in-in-Paren.result c.in-Paren.is c.get-in-Paren.ensures c.wanted_in-in-Paren.ensures

pub wanted_in-returns-in-Concat : goal.wanted_in-returns-in-Concat
wanted_in-returns-in-Concat t c =
    concat_gives (is_wanted c.args.wanted.now) c.args.expr.now c.in-Concat.parts c.as_slice.result.now c.wanted_among.result c.in-Concat.is c.as_slice.ensures c.wanted_among.ensures

pub wanted_in-returns-in-Repeat : goal.wanted_in-returns-in-Repeat
wanted_in-returns-in-Repeat t c =
    repeat_gives (is_wanted c.args.wanted.now) c.args.expr.now c.in-Repeat.count c.get-in-Repeat.result.now c.in-Repeat.parts c.as_slice-in-Repeat.result.now
    c.wanted_in-in-Repeat.result c.wanted_among-in-Repeat.result c.or-in-Repeat.result
    c.in-Repeat.is c.get-in-Repeat.ensures c.as_slice-in-Repeat.ensures c.wanted_in-in-Repeat.ensures c.wanted_among-in-Repeat.ensures c.or-in-Repeat.ensures

pub wanted_in-returns-in-Unary : goal.wanted_in-returns-in-Unary
wanted_in-returns-in-Unary t c =
    unary_gives (is_wanted c.args.wanted.now) c.args.expr.now c.in-Unary.field-0 c.in-Unary.a c.get-in-Unary.result.now c.wanted_in-in-Unary.result c.in-Unary.is c.get-in-Unary.ensures c.wanted_in-in-Unary.ensures

pub wanted_in-returns-in-Binary : goal.wanted_in-returns-in-Binary
wanted_in-returns-in-Binary t c =
    binary_gives (is_wanted c.args.wanted.now) c.args.expr.now c.in-Binary.field-0 c.in-Binary.a c.in-Binary.b c.get-in-Binary.result.now c.get-in-Binary-2.result.now
    c.wanted_in-in-Binary.result c.wanted_in-in-Binary-2.result c.or-in-Binary.result
    c.in-Binary.is c.get-in-Binary.ensures c.get-in-Binary-2.ensures c.wanted_in-in-Binary.ensures c.wanted_in-in-Binary-2.ensures c.or-in-Binary.ensures

pub wanted_in-returns-in-Choice : goal.wanted_in-returns-in-Choice
wanted_in-returns-in-Choice t c =
    choice_gives (is_wanted c.args.wanted.now) c.args.expr.now c.in-Choice.condition c.in-Choice.a c.in-Choice.b c.get-in-Choice.result.now c.get-in-Choice-2.result.now c.get-in-Choice-3.result.now
    c.wanted_in-in-Choice.result c.wanted_in-in-Choice-2.result c.wanted_in-in-Choice-3.result c.or-in-Choice.result c.or-in-Choice-2.result
    c.in-Choice.is c.get-in-Choice.ensures c.get-in-Choice-2.ensures c.get-in-Choice-3.ensures c.wanted_in-in-Choice.ensures c.wanted_in-in-Choice-2.ensures c.wanted_in-in-Choice-3.ensures
    c.or-in-Choice.ensures c.or-in-Choice-2.ensures

pub wanted_among-returns-in-Some : goal.wanted_among-returns-in-Some
wanted_among-returns-in-Some t c =
    stops_at names_in (is_wanted c.args.wanted.now) c.args.exprs.now c.loop-expr.expr-index c.expr-item.result c.loop-expr-test.true c.expr-item.is _ c.in-Some.name.now
    c.loop-expr.invariant c.in-Some.ensures

pub wanted_among-loop-expr-preserved : goal.wanted_among-loop-expr-preserved
wanted_among-loop-expr-preserved t c =
    passes_at names_in (is_wanted c.args.wanted.now) c.args.exprs.now c.loop-expr.expr-index c.expr-item.result c.loop-expr-test.true c.expr-item.is _ c.wanted_in.result
    c.loop-expr.invariant c.wanted_in.ensures c.in_default.not-Some
