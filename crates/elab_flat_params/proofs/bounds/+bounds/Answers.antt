use Rattle.elab_flat_params.proofs.Divisors.{Bounds, ok_as, select_bounds, constant_select_bounds, cast_bounds, paren_bounds, unary_bounds, binary_bounds, choice_bounds, part_bounds, constant_part_bounds, concat_bounds, repeat_bounds, EachDecided}
use Rattle.elab_flat_params.proofs.bounds.+bounds.Goals as goal

pub bounds_defined-returns-in-Select : goal.bounds_defined-returns-in-Select
bounds_defined-returns-in-Select t c =
    let v = c.args.valuation.now in
    ok_as c.bounds_defined.result (Bounds v c.get.result.now) (Bounds v c.args.expr.now)
    (λ r h. select_bounds v c.args.expr.now c.in-Select.field-0 c.in-Select.index c.get.result.now r c.in-Select.is c.get.ensures h) c.bounds_defined.ensures

pub bounds_defined-returns-in-ConstantSelect : goal.bounds_defined-returns-in-ConstantSelect
bounds_defined-returns-in-ConstantSelect t c =
    let v = c.args.valuation.now in
    ok_as c.bounds_defined-in-ConstantSelect.result (Bounds v c.get-in-ConstantSelect.result.now) (Bounds v c.args.expr.now)
    (λ r h. constant_select_bounds v c.args.expr.now c.in-ConstantSelect.field-0 c.in-ConstantSelect.index c.get-in-ConstantSelect.result.now r c.in-ConstantSelect.is c.get-in-ConstantSelect.ensures h)
    c.bounds_defined-in-ConstantSelect.ensures

pub bounds_defined-returns-in-Cast : goal.bounds_defined-returns-in-Cast
bounds_defined-returns-in-Cast t c =
    let v = c.args.valuation.now in
    ok_as c.bounds_defined-in-Cast.result (Bounds v c.get-in-Cast.result.now) (Bounds v c.args.expr.now)
    (λ r h. cast_bounds v c.args.expr.now c.in-Cast.field-0 c.in-Cast.inner c.get-in-Cast.result.now r c.in-Cast.is c.get-in-Cast.ensures h) c.bounds_defined-in-Cast.ensures

pub bounds_defined-returns-in-Unary : goal.bounds_defined-returns-in-Unary
bounds_defined-returns-in-Unary t c =
    let v = c.args.valuation.now in
    ok_as c.bounds_defined-in-Unary.result (Bounds v c.get-in-Unary.result.now) (Bounds v c.args.expr.now)
    (λ r h. unary_bounds v c.args.expr.now c.in-Unary.field-0 c.in-Unary.a c.get-in-Unary.result.now r c.in-Unary.is c.get-in-Unary.ensures h) c.bounds_defined-in-Unary.ensures

pub bounds_defined-returns-in-Paren : goal.bounds_defined-returns-in-Paren
bounds_defined-returns-in-Paren t c =
    let v = c.args.valuation.now in
    ok_as c.bounds_defined-in-Paren.result (Bounds v c.get-in-Paren.result.now) (Bounds v c.args.expr.now)
    (λ r h. paren_bounds v c.args.expr.now c.in-Paren.inner c.get-in-Paren.result.now r c.in-Paren.is c.get-in-Paren.ensures h) c.bounds_defined-in-Paren.ensures

pub bounds_defined-returns-in_ok-own-in-Part : goal.bounds_defined-returns-in_ok-own-in-Part
bounds_defined-returns-in_ok-own-in-Part t c =
    part_bounds c.args.valuation.now c.args.expr.now c.in-Part.field-0 c.in-Part.span c.in-Part.a c.in-Part.b c.get-in-Part.result.now c.get-in-Part-2.result.now c.get-in-Part-3.result.now c.get-in-Part-4.result.now c.in_ok-first-in-Part.first c.in_ok-second-in-Part.second c.both.result c.in_ok-own-in-Part.own c.both-in-Part.result
    c.in-Part.is c.get-in-Part.ensures c.get-in-Part-2.ensures c.get-in-Part-3.ensures c.get-in-Part-4.ensures c.in_ok-first-in-Part.ensures c.in_ok-second-in-Part.ensures c.both.ensures c.in_ok-own-in-Part.ensures c.both-in-Part.ensures

pub bounds_defined-returns-in_ok-own-in-ConstantPart : goal.bounds_defined-returns-in_ok-own-in-ConstantPart
bounds_defined-returns-in_ok-own-in-ConstantPart t c =
    constant_part_bounds c.args.valuation.now c.args.expr.now c.in-ConstantPart.field-0 c.in-ConstantPart.span c.in-ConstantPart.a c.in-ConstantPart.b c.get-in-ConstantPart.result.now c.get-in-ConstantPart-2.result.now c.get-in-ConstantPart-3.result.now c.get-in-ConstantPart-4.result.now c.in_ok-first-in-ConstantPart.first c.in_ok-second-in-ConstantPart.second c.both-in-ConstantPart.result c.in_ok-own-in-ConstantPart.own c.both-in-ConstantPart-2.result
    c.in-ConstantPart.is c.get-in-ConstantPart.ensures c.get-in-ConstantPart-2.ensures c.get-in-ConstantPart-3.ensures c.get-in-ConstantPart-4.ensures c.in_ok-first-in-ConstantPart.ensures c.in_ok-second-in-ConstantPart.ensures c.both-in-ConstantPart.ensures c.in_ok-own-in-ConstantPart.ensures c.both-in-ConstantPart-2.ensures

pub bounds_defined-returns-in_ok-second-in-Binary : goal.bounds_defined-returns-in_ok-second-in-Binary
bounds_defined-returns-in_ok-second-in-Binary t c =
    binary_bounds c.args.valuation.now c.args.expr.now c.in-Binary.field-0 c.in-Binary.a c.in-Binary.b c.get-in-Binary.result.now c.get-in-Binary-2.result.now c.in_ok-first-in-Binary.first c.in_ok-second-in-Binary.second c.both-in-Binary.result
    c.in-Binary.is c.get-in-Binary.ensures c.get-in-Binary-2.ensures c.in_ok-first-in-Binary.ensures c.in_ok-second-in-Binary.ensures c.both-in-Binary.ensures

pub bounds_defined-returns-in_ok-second-in-Choice : goal.bounds_defined-returns-in_ok-second-in-Choice
bounds_defined-returns-in_ok-second-in-Choice t c =
    choice_bounds c.args.valuation.now c.args.expr.now c.in-Choice.condition c.in-Choice.a c.in-Choice.b c.get-in-Choice.result.now c.get-in-Choice-2.result.now c.get-in-Choice-3.result.now c.in_ok-test-in-Choice.test c.in_ok-first-in-Choice.first c.in_ok-second-in-Choice.second c.both-in-Choice.result c.both-in-Choice-2.result
    c.in-Choice.is c.get-in-Choice.ensures c.get-in-Choice-2.ensures c.get-in-Choice-3.ensures c.in_ok-test-in-Choice.ensures c.in_ok-first-in-Choice.ensures c.in_ok-second-in-Choice.ensures c.both-in-Choice.ensures c.both-in-Choice-2.ensures

pub bounds_defined-returns-in-Concat : goal.bounds_defined-returns-in-Concat
bounds_defined-returns-in-Concat t c =
    let v = c.args.valuation.now in
    ok_as c.all_defined.result (EachDecided v c.as_slice.result.now) (Bounds v c.args.expr.now)
    (λ r h. concat_bounds v c.args.expr.now c.in-Concat.parts c.as_slice.result.now r c.in-Concat.is c.as_slice.ensures h) c.all_defined.ensures

pub bounds_defined-returns-in_ok-all-in-Repeat : goal.bounds_defined-returns-in_ok-all-in-Repeat
bounds_defined-returns-in_ok-all-in-Repeat t c =
    repeat_bounds c.args.valuation.now c.args.expr.now c.in-Repeat.count c.get-in-Repeat.result.now c.get-in-Repeat-2.result.now c.in-Repeat.parts c.as_slice-in-Repeat.result.now c.in_ok-within-in-Repeat.within c.in_ok-own-in-Repeat.own c.both-in-Repeat.result c.in_ok-all-in-Repeat.all c.both-in-Repeat-2.result
    c.in-Repeat.is c.get-in-Repeat.ensures c.get-in-Repeat-2.ensures c.as_slice-in-Repeat.ensures c.in_ok-within-in-Repeat.ensures c.in_ok-own-in-Repeat.ensures c.both-in-Repeat.ensures c.in_ok-all-in-Repeat.ensures c.both-in-Repeat-2.ensures
