-- What each form of an expression gives.
use Rattle.std.proofs.Common.{◌≡◌, refl, sym, ◌∙◌, to_z, of_z, arith}
use Rattle.std.proofs.lemmas.Int.{ints}
use mir.Syntax.{w128}
use Rattle.vlog_tree_values.proofs.Forms.{select_formed, part_formed, constant_select_formed, constant_part_formed, cast_formed, paren_formed, unary_formed, binary_formed, choice_formed, concat_formed, repeat_formed}
use Rattle.vlog_tree_values.proofs.Facts.{unformed, undefined, paren_some, paren_none, needs_bound, needs_second, part_fits, part_shape, part_has, constant_part_has, select_has, constant_select_has, cast_has, paren_has, unary_has, binary_has, choice_has, concat_has, repeat_has, row_short, repeat_fits}
use Rattle.vlog_tree_values.proofs.Shaped.{constant_select_shape, reduction_shape, change_shape}
use Rattle.vlog_tree_values.proofs.Counted.{sized_where, taken_where, ready_where, inner_where}
use Rattle.vlog_tree_values.proofs.Rows.{next_part, next_formed, next_defined, next_width, next_fits, next_number}
use Rattle.vlog_tree.specs.Valuation.{named}
use Rattle.vlog_tree.specs.Value.{operand_of}
use Rattle.vlog_tree_values.proofs.Values.{select_defined, constant_select_defined, part_defined, constant_part_defined, cast_defined, unary_defined_at, choice_defined, concat_defined, repeat_defined, constant_select_value, part_value_is, paren_value_some, paren_value_none, binary_some, binary_none, constant_part_value, part_ready, part_long, constant_part_long, select_value, select_long, cast_value, cast_long, paren_ready, unary_ready, made_fits_word, unary_value, binary_left, binary_right, places_fit, choice_ready, choice_value, concat_value, concat_long, repeat_value, repeat_long, repeat_suits, shape_width, shape_sign, row_length}
use Rattle.vlog_tree_values.proofs.evaluate.+evaluation.Goals as goal

pub shape_of-returns-in_err-vector-in-Select-clause-none : goal.shape_of-returns-in_err-vector-in-Select-clause-none
shape_of-returns-in_err-vector-in-Select-clause-none t c = unformed c.args.valuation.now c.args.expr.now c.from_residual-in_err-vector-in-Select.result (λ h. c.in_err-vector-in-Select.ensures.none (select_formed _ _ _ _ c.in-Select.is h).0)

pub shape_of-returns-in_err-shape_of-in-Select-clause-none : goal.shape_of-returns-in_err-shape_of-in-Select-clause-none
shape_of-returns-in_err-shape_of-in-Select-clause-none t c = unformed c.args.valuation.now c.args.expr.now c.from_residual-in_err-shape_of-in-Select.result (λ h. c.in_err-shape_of-in-Select.ensures.none (rw c.get.ensures (select_formed _ _ _ _ c.in-Select.is h).1))

pub shape_of-returns-in_err-vector-in-Part-clause-none : goal.shape_of-returns-in_err-vector-in-Part-clause-none
shape_of-returns-in_err-vector-in-Part-clause-none t c = unformed c.args.valuation.now c.args.expr.now c.from_residual-in_err-vector-in-Part.result (λ h. c.in_err-vector-in-Part.ensures.none (part_formed _ _ _ _ _ _ c.in-Part.is h).0)

pub shape_of-returns-in_err-a-in-Part-clause-none : goal.shape_of-returns-in_err-a-in-Part-clause-none
shape_of-returns-in_err-a-in-Part-clause-none t c = unformed c.args.valuation.now c.args.expr.now c.from_residual-in_err-a-in-Part.result (λ h. let p = (part_formed _ _ _ _ _ _ c.in-Part.is h) in c.in_err-a-in-Part.ensures.none (needs_bound _ (named c.args.valuation.now c.in-Part.name) _ _ _ _ c.get-in-Part.ensures p.1 p.3))

pub shape_of-returns-in_err-b-in-Part-clause-none : goal.shape_of-returns-in_err-b-in-Part-clause-none
shape_of-returns-in_err-b-in-Part-clause-none t c = unformed c.args.valuation.now c.args.expr.now c.from_residual-in_err-b-in-Part.result (λ h. let p = (part_formed _ _ _ _ _ _ c.in-Part.is h) in c.in_err-b-in-Part.ensures.none (rw c.get-in-Part-2.ensures p.2) (rw c.get-in-Part-2.ensures (needs_second (named c.args.valuation.now c.in-Part.name) _ _ _ p.3)))

pub shape_of-returns-in_err-width-in-Part-clause-none : goal.shape_of-returns-in_err-width-in-Part-clause-none
shape_of-returns-in_err-width-in-Part-clause-none t c = unformed c.args.valuation.now c.args.expr.now c.from_residual-in_err-width-in-Part.result (λ h.
    let p = (part_formed _ _ _ _ _ _ c.in-Part.is h) in
    let i : to_z w128 (of_z w128 c.in_ok-a-in-Part.a) ≡ c.in_ok-a-in-Part.a = omega (arith, ints) in
    let j : to_z w128 (of_z w128 c.integer.result) ≡ c.integer.result = omega (arith, ints) in
    c.in_err-width-in-Part.ensures.none (rw (c.in_ok-vector-in-Part.ensures.some.1, i, j) (part_fits _ (named c.args.valuation.now c.in-Part.name) _ _ _ _ _ _ _ _ _ c.get-in-Part.ensures c.get-in-Part-2.ensures c.in_ok-a-in-Part.ensures.some c.in_ok-b-in-Part.ensures.some c.integer.ensures.value p.3 p.4)))

pub shape_of-returns-then-not-is_length-2-clause-none : goal.shape_of-returns-then-not-is_length-2-clause-none
shape_of-returns-then-not-is_length-2-clause-none t c = λ h. c.if-not-is_length-2.ensures (constant_select_formed _ _ _ _ c.in-ConstantSelect.is h).0

pub shape_of-returns-in_err-shape_of-in-ConstantSelect-clause-none : goal.shape_of-returns-in_err-shape_of-in-ConstantSelect-clause-none
shape_of-returns-in_err-shape_of-in-ConstantSelect-clause-none t c = unformed c.args.valuation.now c.args.expr.now c.from_residual-in_err-shape_of-in-ConstantSelect.result (λ h. c.in_err-shape_of-in-ConstantSelect.ensures.none (rw c.get-in-ConstantSelect.ensures (constant_select_formed _ _ _ _ c.in-ConstantSelect.is h).1))

pub shape_of-returns-then-not-is_length-3-clause-none : goal.shape_of-returns-then-not-is_length-3-clause-none
shape_of-returns-then-not-is_length-3-clause-none t c = λ h. c.if-not-is_length-3.ensures (constant_part_formed _ _ _ _ _ _ c.in-ConstantPart.is h).0

pub shape_of-returns-in_err-a-in-ConstantPart-clause-none : goal.shape_of-returns-in_err-a-in-ConstantPart-clause-none
shape_of-returns-in_err-a-in-ConstantPart-clause-none t c = unformed c.args.valuation.now c.args.expr.now c.from_residual-in_err-a-in-ConstantPart.result (λ h. let p = (constant_part_formed _ _ _ _ _ _ c.in-ConstantPart.is h) in c.in_err-a-in-ConstantPart.ensures.none (needs_bound _ c.in-ConstantPart.vector _ _ _ _ c.get-in-ConstantPart.ensures p.1 p.3))

pub shape_of-returns-in_err-b-in-ConstantPart-clause-none : goal.shape_of-returns-in_err-b-in-ConstantPart-clause-none
shape_of-returns-in_err-b-in-ConstantPart-clause-none t c = unformed c.args.valuation.now c.args.expr.now c.from_residual-in_err-b-in-ConstantPart.result (λ h. let p = (constant_part_formed _ _ _ _ _ _ c.in-ConstantPart.is h) in c.in_err-b-in-ConstantPart.ensures.none (rw c.get-in-ConstantPart-2.ensures p.2) (rw c.get-in-ConstantPart-2.ensures (needs_second c.in-ConstantPart.vector _ _ _ p.3)))

pub shape_of-returns-in_err-width-in-ConstantPart-clause-none : goal.shape_of-returns-in_err-width-in-ConstantPart-clause-none
shape_of-returns-in_err-width-in-ConstantPart-clause-none t c = unformed c.args.valuation.now c.args.expr.now c.from_residual-in_err-width-in-ConstantPart.result (λ h.
    let p = (constant_part_formed _ _ _ _ _ _ c.in-ConstantPart.is h) in
    let i : to_z w128 (of_z w128 c.in_ok-a-in-ConstantPart.a) ≡ c.in_ok-a-in-ConstantPart.a = omega (arith, ints) in
    let j : to_z w128 (of_z w128 c.integer-in-ConstantPart.result) ≡ c.integer-in-ConstantPart.result = omega (arith, ints) in
    c.in_err-width-in-ConstantPart.ensures.none (rw (i, j) (part_fits _ c.in-ConstantPart.vector _ _ _ _ _ _ _ _ _ c.get-in-ConstantPart.ensures c.get-in-ConstantPart-2.ensures c.in_ok-a-in-ConstantPart.ensures.some c.in_ok-b-in-ConstantPart.ensures.some c.integer-in-ConstantPart.ensures.value p.3 p.4)))

pub shape_of-returns-in_err-inner-in-Cast-clause-none : goal.shape_of-returns-in_err-inner-in-Cast-clause-none
shape_of-returns-in_err-inner-in-Cast-clause-none t c = unformed c.args.valuation.now c.args.expr.now c.from_residual-in_err-inner-in-Cast.result (λ h. c.in_err-inner-in-Cast.ensures.none (rw c.get-in-Cast.ensures (cast_formed _ _ _ _ c.in-Cast.is h)))

pub shape_of-returns-in_err-inner-in-Unary-clause-none : goal.shape_of-returns-in_err-inner-in-Unary-clause-none
shape_of-returns-in_err-inner-in-Unary-clause-none t c = unformed c.args.valuation.now c.args.expr.now c.from_residual-in_err-inner-in-Unary.result (λ h. c.in_err-inner-in-Unary.ensures.none (rw c.get-in-Unary.ensures (unary_formed _ _ _ _ c.in-Unary.is h)))

pub shape_of-returns-in_err-left-in-Binary-clause-none : goal.shape_of-returns-in_err-left-in-Binary-clause-none
shape_of-returns-in_err-left-in-Binary-clause-none t c = unformed c.args.valuation.now c.args.expr.now c.from_residual-in_err-left-in-Binary.result (λ h. c.in_err-left-in-Binary.ensures.none (rw c.get-in-Binary.ensures (binary_formed _ _ _ _ _ c.in-Binary.is h).0))

pub shape_of-returns-in_err-right-in-Binary-clause-none : goal.shape_of-returns-in_err-right-in-Binary-clause-none
shape_of-returns-in_err-right-in-Binary-clause-none t c = unformed c.args.valuation.now c.args.expr.now c.from_residual-in_err-right-in-Binary.result (λ h. c.in_err-right-in-Binary.ensures.none (rw c.get-in-Binary-2.ensures (binary_formed _ _ _ _ _ c.in-Binary.is h).1))

pub shape_of-returns-in_err-shape_of-in-Choice-clause-none : goal.shape_of-returns-in_err-shape_of-in-Choice-clause-none
shape_of-returns-in_err-shape_of-in-Choice-clause-none t c = unformed c.args.valuation.now c.args.expr.now c.from_residual-in_err-shape_of-in-Choice.result (λ h. c.in_err-shape_of-in-Choice.ensures.none (rw c.get-in-Choice.ensures (choice_formed _ _ _ _ _ c.in-Choice.is h).0))

pub shape_of-returns-in_err-left-in-Choice-clause-none : goal.shape_of-returns-in_err-left-in-Choice-clause-none
shape_of-returns-in_err-left-in-Choice-clause-none t c = unformed c.args.valuation.now c.args.expr.now c.from_residual-in_err-left-in-Choice.result (λ h. c.in_err-left-in-Choice.ensures.none (rw c.get-in-Choice-2.ensures (choice_formed _ _ _ _ _ c.in-Choice.is h).1))

pub shape_of-returns-in_err-right-in-Choice-clause-none : goal.shape_of-returns-in_err-right-in-Choice-clause-none
shape_of-returns-in_err-right-in-Choice-clause-none t c = unformed c.args.valuation.now c.args.expr.now c.from_residual-in_err-right-in-Choice.result (λ h. c.in_err-right-in-Choice.ensures.none (rw c.get-in-Choice-3.ensures (choice_formed _ _ _ _ _ c.in-Choice.is h).2))

pub shape_of-returns-in_err-width-in-Concat-clause-none : goal.shape_of-returns-in_err-width-in-Concat-clause-none
shape_of-returns-in_err-width-in-Concat-clause-none t c = unformed c.args.valuation.now c.args.expr.now c.from_residual-in_err-width-in-Concat.result (λ h. let p = (concat_formed _ _ _ c.in-Concat.is h) in c.in_err-width-in-Concat.ensures.none (rw c.as_slice.ensures p.0) (rw c.as_slice.ensures p.1.1))

pub shape_of-returns-then-not-is_length-4-clause-none : goal.shape_of-returns-then-not-is_length-4-clause-none
shape_of-returns-then-not-is_length-4-clause-none t c = λ h. c.if-not-is_length-4.ensures (rw (c.in_ok-width-in-Concat.ensures.some.width, c.as_slice.ensures) (concat_formed _ _ _ c.in-Concat.is h).1)

pub shape_of-returns-in_err-count-in-Repeat-clause-none : goal.shape_of-returns-in_err-count-in-Repeat-clause-none
shape_of-returns-in_err-count-in-Repeat-clause-none t c = unformed c.args.valuation.now c.args.expr.now c.from_residual-in_err-count-in-Repeat.result (λ h. let p = (repeat_formed _ _ _ _ c.in-Repeat.is h) in c.in_err-count-in-Repeat.ensures.none (rw c.get-in-Repeat.ensures p.0) (rw c.get-in-Repeat.ensures p.1))

pub shape_of-returns-in_err-row-in-Repeat-clause-none : goal.shape_of-returns-in_err-row-in-Repeat-clause-none
shape_of-returns-in_err-row-in-Repeat-clause-none t c = unformed c.args.valuation.now c.args.expr.now c.from_residual-in_err-row-in-Repeat.result (λ h. let p = (repeat_formed _ _ _ _ c.in-Repeat.is h) in c.in_err-row-in-Repeat.ensures.none (rw c.as_slice-in-Repeat.ensures p.2) (rw c.as_slice-in-Repeat.ensures (row_short _ (operand_of c.args.valuation.now c.in-Repeat.count) _ p.3)))

pub shape_of-returns-in_err-width-in-Repeat-clause-none : goal.shape_of-returns-in_err-width-in-Repeat-clause-none
shape_of-returns-in_err-width-in-Repeat-clause-none t c = unformed c.args.valuation.now c.args.expr.now c.from_residual-in_err-width-in-Repeat.result (λ h.
    let p = (repeat_formed _ _ _ _ c.in-Repeat.is h) in
    let i : to_z w128 (of_z w128 c.integer-in-Repeat.result) ≡ c.integer-in-Repeat.result = omega (arith, ints) in
    c.in_err-width-in-Repeat.ensures.none (rw i (repeat_fits _ _ _ _ _ _ _ _ _ c.get-in-Repeat.ensures c.as_slice-in-Repeat.ensures c.in_ok-count-in-Repeat.ensures.some c.integer-in-Repeat.ensures.value c.in_ok-row-in-Repeat.ensures.some p.3)))

pub shape_of-returns-in_ok-shape_of-in-Select-clause-some : goal.shape_of-returns-in_ok-shape_of-in-Select-clause-some
shape_of-returns-in_ok-shape_of-in-Select-clause-some t c = select_has _ _ _ _ _ _ _ _ _ c.in-Select.is c.in_ok-vector-in-Select.ensures.some.0 c.in_ok-vector-in-Select.ensures.some.1 c.in_ok-vector-in-Select.ensures.fits.0 c.get.ensures c.in_ok-shape_of-in-Select.ensures.some.formed c.depth_of.ensures c.select_shape.ensures.width c.select_shape.ensures.sign

pub shape_of-returns-in_ok-width-in-Part-clause-some : goal.shape_of-returns-in_ok-width-in-Part-clause-some
shape_of-returns-in_ok-width-in-Part-clause-some t c =
    let i : to_z w128 (of_z w128 c.in_ok-a-in-Part.a) ≡ c.in_ok-a-in-Part.a = omega (arith, ints) in
    let j : to_z w128 (of_z w128 c.integer.result) ≡ c.integer.result = omega (arith, ints) in
    let f = rw (i, j) at c.in_ok-width-in-Part.ensures.some.0 in
    let n = rw (i, j) at c.in_ok-width-in-Part.ensures.some.1 in
    part_has _ _ _ _ _ _ _ _ _ _ c.in-Part.is c.in_ok-vector-in-Part.ensures.some.0 c.in_ok-vector-in-Part.ensures.some.1
    (part_shape _ _ _ _ _ _ _ _ _ _ _ _ c.get-in-Part.ensures c.get-in-Part-2.ensures c.in_ok-a-in-Part.ensures.some c.in_ok-b-in-Part.ensures.some c.integer.ensures.value f n) f n

pub shape_of-returns-in_ok-shape_of-in-ConstantSelect-clause-some : goal.shape_of-returns-in_ok-shape_of-in-ConstantSelect-clause-some
shape_of-returns-in_ok-shape_of-in-ConstantSelect-clause-some t c = constant_select_has _ _ _ _ _ c.in-ConstantSelect.is c.if-not-is_length-2.ensures c.get-in-ConstantSelect.ensures c.in_ok-shape_of-in-ConstantSelect.ensures.some.formed

pub shape_of-returns-in_ok-width-in-ConstantPart-clause-some : goal.shape_of-returns-in_ok-width-in-ConstantPart-clause-some
shape_of-returns-in_ok-width-in-ConstantPart-clause-some t c =
    let i : to_z w128 (of_z w128 c.in_ok-a-in-ConstantPart.a) ≡ c.in_ok-a-in-ConstantPart.a = omega (arith, ints) in
    let j : to_z w128 (of_z w128 c.integer-in-ConstantPart.result) ≡ c.integer-in-ConstantPart.result = omega (arith, ints) in
    let f = rw (i, j) at c.in_ok-width-in-ConstantPart.ensures.some.0 in
    let n = rw (i, j) at c.in_ok-width-in-ConstantPart.ensures.some.1 in
    constant_part_has _ _ _ _ _ _ _ _ _ c.in-ConstantPart.is c.if-not-is_length-3.ensures
    (part_shape _ _ _ _ _ _ _ _ _ _ _ _ c.get-in-ConstantPart.ensures c.get-in-ConstantPart-2.ensures c.in_ok-a-in-ConstantPart.ensures.some c.in_ok-b-in-ConstantPart.ensures.some c.integer-in-ConstantPart.ensures.value f n) f n

pub shape_of-returns-in_ok-inner-in-Cast-clause-some : goal.shape_of-returns-in_ok-inner-in-Cast-clause-some
shape_of-returns-in_ok-inner-in-Cast-clause-some t c = cast_has _ _ _ _ _ _ _ _ c.in-Cast.is c.get-in-Cast.ensures c.in_ok-inner-in-Cast.ensures.some c.is_signed.ensures

pub shape_of-returns-in-Paren-clause-some : goal.shape_of-returns-in-Paren-clause-some
shape_of-returns-in-Paren-clause-some t c = paren_some _ _ _ _ c.shape_of-in-Paren.result c.in-Paren.is c.get-in-Paren.ensures c.shape_of-in-Paren.ensures.some

pub shape_of-returns-in-Paren-clause-none : goal.shape_of-returns-in-Paren-clause-none
shape_of-returns-in-Paren-clause-none t c = paren_none _ _ _ _ c.shape_of-in-Paren.result c.in-Paren.is c.get-in-Paren.ensures c.shape_of-in-Paren.ensures.none

pub shape_of-returns-in_ok-inner-in-Unary-clause-some : goal.shape_of-returns-in_ok-inner-in-Unary-clause-some
shape_of-returns-in_ok-inner-in-Unary-clause-some t c = unary_has _ _ _ _ _ _ _ _ _ c.in-Unary.is c.get-in-Unary.ensures c.in_ok-inner-in-Unary.ensures.some c.made_shape.ensures.width c.made_shape.ensures.sign

pub shape_of-returns-in_ok-right-in-Binary-clause-some : goal.shape_of-returns-in_ok-right-in-Binary-clause-some
shape_of-returns-in_ok-right-in-Binary-clause-some t c = binary_has _ _ _ _ _ _ _ _ _ _ _ _ _ _ c.in-Binary.is c.get-in-Binary.ensures c.get-in-Binary-2.ensures c.in_ok-left-in-Binary.ensures.some c.in_ok-right-in-Binary.ensures.some c.family_of.ensures c.joined_shape.ensures.width c.joined_shape.ensures.sign

pub shape_of-returns-in_ok-right-in-Choice-clause-some : goal.shape_of-returns-in_ok-right-in-Choice-clause-some
shape_of-returns-in_ok-right-in-Choice-clause-some t c = choice_has _ _ _ _ _ _ _ _ _ _ _ _ _ _ c.in-Choice.is c.get-in-Choice.ensures c.get-in-Choice-2.ensures c.get-in-Choice-3.ensures c.in_ok-shape_of-in-Choice.ensures.some.formed c.in_ok-left-in-Choice.ensures.some c.in_ok-right-in-Choice.ensures.some c.longer.ensures.width c.longer.ensures.sign

pub shape_of-returns-else-not-is_length-4-clause-some : goal.shape_of-returns-else-not-is_length-4-clause-some
shape_of-returns-else-not-is_length-4-clause-some t c = concat_has _ _ _ _ _ c.in-Concat.is c.as_slice.ensures c.in_ok-width-in-Concat.ensures.some c.if-not-is_length-4.ensures

pub shape_of-returns-in_ok-width-in-Repeat-clause-some : goal.shape_of-returns-in_ok-width-in-Repeat-clause-some
shape_of-returns-in_ok-width-in-Repeat-clause-some t c =
    let i : to_z w128 (of_z w128 c.integer-in-Repeat.result) ≡ c.integer-in-Repeat.result = omega (arith, ints) in
    let n = rw i at c.in_ok-width-in-Repeat.ensures.some.0 in
    repeat_has _ _ _ _ _ _ _ _ _ _ _ c.in-Repeat.is c.get-in-Repeat.ensures c.as_slice-in-Repeat.ensures c.in_ok-count-in-Repeat.ensures.some c.integer-in-Repeat.ensures.value c.in_ok-row-in-Repeat.ensures.some n c.in_ok-width-in-Repeat.ensures.some.1

pub value_at-returns-in_err-vector-in-Select-clause-none : goal.value_at-returns-in_err-vector-in-Select-clause-none
value_at-returns-in_err-vector-in-Select-clause-none t c = undefined c.args.valuation.now c.args.expr.now c.args.here.0 c.args.here.1 c.from_residual-in_err-vector-in-Select.result (λ h. c.in_err-vector-in-Select.ensures.none (select_formed _ _ _ _ c.in-Select.is c.requires.formed).0)

pub value_at-returns-in_err-index-in-Select-clause-none : goal.value_at-returns-in_err-index-in-Select-clause-none
value_at-returns-in_err-index-in-Select-clause-none t c = undefined c.args.valuation.now c.args.expr.now c.args.here.0 c.args.here.1 c.from_residual-in_err-index-in-Select.result (λ h. c.in_err-index-in-Select.ensures.none (rw c.get.ensures (select_formed _ _ _ _ c.in-Select.is c.requires.formed).1) (rw c.get.ensures (select_defined _ _ _ _ _ _ c.in-Select.is h)))

pub value_at-extended-requires-in-Select-clause-wider : goal.value_at-extended-requires-in-Select-clause-wider
value_at-extended-requires-in-Select-clause-wider t c = select_long _ _ _ _ _ _ _ _ _ _ c.in-Select.is c.in_ok-vector-in-Select.ensures.some.1 c.get.ensures c.in_ok-index-in-Select.ensures.some c.selected.ensures c.requires.long

pub value_at-returns-in_err-vector-in-Part-clause-none : goal.value_at-returns-in_err-vector-in-Part-clause-none
value_at-returns-in_err-vector-in-Part-clause-none t c = undefined c.args.valuation.now c.args.expr.now c.args.here.0 c.args.here.1 c.from_residual-in_err-vector-in-Part.result (λ h. c.in_err-vector-in-Part.ensures.none (part_formed _ _ _ _ _ _ c.in-Part.is c.requires.formed).0)

pub value_at-returns-in_err-a-in-Part-clause-none : goal.value_at-returns-in_err-a-in-Part-clause-none
value_at-returns-in_err-a-in-Part-clause-none t c = undefined c.args.valuation.now c.args.expr.now c.args.here.0 c.args.here.1 c.from_residual-in_err-a-in-Part.result (λ h. c.in_err-a-in-Part.ensures.none (rw c.get-in-Part.ensures (part_formed _ _ _ _ _ _ c.in-Part.is c.requires.formed).1) (rw c.get-in-Part.ensures (part_defined _ _ _ _ _ _ _ _ c.in-Part.is h).0))

pub value_at-returns-in_err-b-in-Part-clause-none : goal.value_at-returns-in_err-b-in-Part-clause-none
value_at-returns-in_err-b-in-Part-clause-none t c = undefined c.args.valuation.now c.args.expr.now c.args.here.0 c.args.here.1 c.from_residual-in_err-b-in-Part.result (λ h. c.in_err-b-in-Part.ensures.none (rw c.get-in-Part-2.ensures (part_formed _ _ _ _ _ _ c.in-Part.is c.requires.formed).2) (rw c.get-in-Part-2.ensures (part_defined _ _ _ _ _ _ _ _ c.in-Part.is h).1))

pub value_at-returns-in_err-part-in-Part-clause-none : goal.value_at-returns-in_err-part-in-Part-clause-none
value_at-returns-in_err-part-in-Part-clause-none t c = undefined c.args.valuation.now c.args.expr.now c.args.here.0 c.args.here.1 c.from_residual-in_err-part-in-Part.result (λ h. let p = (part_formed _ _ _ _ _ _ c.in-Part.is c.requires.formed) in c.in_err-part-in-Part.ensures.none (rw c.in_ok-vector-in-Part.ensures.some.1 (part_ready _ (named c.args.valuation.now c.in-Part.name) _ _ _ _ _ _ _ _ _ c.get-in-Part.ensures c.get-in-Part-2.ensures c.in_ok-a-in-Part.ensures.some c.in_ok-b-in-Part.ensures.some p.3 p.4)))

pub value_at-extended-requires-in-Part-clause-wider : goal.value_at-extended-requires-in-Part-clause-wider
value_at-extended-requires-in-Part-clause-wider t c = part_long _ _ _ _ _ _ _ _ _ _ _ _ _ _ _ c.in-Part.is c.in_ok-vector-in-Part.ensures.some.1 c.get-in-Part.ensures c.get-in-Part-2.ensures c.in_ok-a-in-Part.ensures.some c.in_ok-b-in-Part.ensures.some c.in_ok-part-in-Part.ensures.some c.requires.long

pub value_at-returns-in_err-index-in-ConstantSelect-clause-none : goal.value_at-returns-in_err-index-in-ConstantSelect-clause-none
value_at-returns-in_err-index-in-ConstantSelect-clause-none t c = undefined c.args.valuation.now c.args.expr.now c.args.here.0 c.args.here.1 c.from_residual-in_err-index-in-ConstantSelect.result (λ h. c.in_err-index-in-ConstantSelect.ensures.none (rw c.get-in-ConstantSelect.ensures (constant_select_formed _ _ _ _ c.in-ConstantSelect.is c.requires.formed).1) (rw c.get-in-ConstantSelect.ensures (constant_select_defined _ _ _ _ _ _ c.in-ConstantSelect.is h)))

pub value_at-extended-requires-in-ConstantSelect-clause-wider : goal.value_at-extended-requires-in-ConstantSelect-clause-wider
value_at-extended-requires-in-ConstantSelect-clause-wider t c = rw c.bit_at.ensures c.requires.some

pub value_at-returns-in_err-a-in-ConstantPart-clause-none : goal.value_at-returns-in_err-a-in-ConstantPart-clause-none
value_at-returns-in_err-a-in-ConstantPart-clause-none t c = undefined c.args.valuation.now c.args.expr.now c.args.here.0 c.args.here.1 c.from_residual-in_err-a-in-ConstantPart.result (λ h. c.in_err-a-in-ConstantPart.ensures.none (rw c.get-in-ConstantPart.ensures (constant_part_formed _ _ _ _ _ _ c.in-ConstantPart.is c.requires.formed).1) (rw c.get-in-ConstantPart.ensures (constant_part_defined _ _ _ _ _ _ _ _ c.in-ConstantPart.is h).0))

pub value_at-returns-in_err-b-in-ConstantPart-clause-none : goal.value_at-returns-in_err-b-in-ConstantPart-clause-none
value_at-returns-in_err-b-in-ConstantPart-clause-none t c = undefined c.args.valuation.now c.args.expr.now c.args.here.0 c.args.here.1 c.from_residual-in_err-b-in-ConstantPart.result (λ h. c.in_err-b-in-ConstantPart.ensures.none (rw c.get-in-ConstantPart-2.ensures (constant_part_formed _ _ _ _ _ _ c.in-ConstantPart.is c.requires.formed).2) (rw c.get-in-ConstantPart-2.ensures (constant_part_defined _ _ _ _ _ _ _ _ c.in-ConstantPart.is h).1))

pub value_at-part-requires-in-ConstantPart : goal.value_at-part-requires-in-ConstantPart
value_at-part-requires-in-ConstantPart t c = (constant_part_formed _ _ _ _ _ _ c.in-ConstantPart.is c.requires.formed).0

pub value_at-returns-in_err-part-in-ConstantPart-clause-none : goal.value_at-returns-in_err-part-in-ConstantPart-clause-none
value_at-returns-in_err-part-in-ConstantPart-clause-none t c = undefined c.args.valuation.now c.args.expr.now c.args.here.0 c.args.here.1 c.from_residual-in_err-part-in-ConstantPart.result (λ h. let p = (constant_part_formed _ _ _ _ _ _ c.in-ConstantPart.is c.requires.formed) in c.in_err-part-in-ConstantPart.ensures.none (part_ready _ c.in-ConstantPart.vector _ _ _ _ _ _ _ _ _ c.get-in-ConstantPart.ensures c.get-in-ConstantPart-2.ensures c.in_ok-a-in-ConstantPart.ensures.some c.in_ok-b-in-ConstantPart.ensures.some p.3 p.4))

pub value_at-extended-requires-in-ConstantPart-clause-wider : goal.value_at-extended-requires-in-ConstantPart-clause-wider
value_at-extended-requires-in-ConstantPart-clause-wider t c = constant_part_long _ _ _ _ _ _ _ _ _ _ _ _ _ _ c.in-ConstantPart.is c.get-in-ConstantPart.ensures c.get-in-ConstantPart-2.ensures c.in_ok-a-in-ConstantPart.ensures.some c.in_ok-b-in-ConstantPart.ensures.some c.in_ok-part-in-ConstantPart.ensures.some c.requires.long

pub value_at-returns-in_err-inner-in-Cast-clause-none : goal.value_at-returns-in_err-inner-in-Cast-clause-none
value_at-returns-in_err-inner-in-Cast-clause-none t c = undefined c.args.valuation.now c.args.expr.now c.args.here.0 c.args.here.1 c.from_residual-in_err-inner-in-Cast.result (λ h. c.in_err-inner-in-Cast.ensures.none (rw c.get-in-Cast.ensures (cast_formed _ _ _ _ c.in-Cast.is c.requires.formed)) (rw c.get-in-Cast.ensures (cast_defined _ _ _ _ _ _ c.in-Cast.is h)))

pub value_at-extended-requires-in-Cast-clause-wider : goal.value_at-extended-requires-in-Cast-clause-wider
value_at-extended-requires-in-Cast-clause-wider t c = cast_long _ _ _ _ _ _ _ _ c.in-Cast.is c.get-in-Cast.ensures c.in_ok-inner-in-Cast.ensures.some c.requires.long

pub value_at-operand-requires : goal.value_at-operand-requires
value_at-operand-requires t c = paren_ready _ _ _ _ c.in-Paren.is c.requires

pub value_at-operand-requires-in-Unary : goal.value_at-operand-requires-in-Unary
value_at-operand-requires-in-Unary t c = unary_ready _ _ _ _ _ _ _ _ _ c.in-Unary.is c.requires c.formed.ensures.same (inner_where _ _ _ _ _ _ _ _ _ _ _ _ c.in-Unary.is c.formed.ensures.same c.requires.formed c.is_reduction.ensures c.shape_where-own.ensures c.inner_place-place.ensures.width c.inner_place-place.ensures.sign).0 (inner_where _ _ _ _ _ _ _ _ _ _ _ _ c.in-Unary.is c.formed.ensures.same c.requires.formed c.is_reduction.ensures c.shape_where-own.ensures c.inner_place-place.ensures.width c.inner_place-place.ensures.sign).1

pub value_at-returns-in_err-inner-in-Unary-clause-none : goal.value_at-returns-in_err-inner-in-Unary-clause-none
value_at-returns-in_err-inner-in-Unary-clause-none t c = undefined c.args.valuation.now c.args.expr.now c.args.here.0 c.args.here.1 c.from_residual-in_err-inner-in-Unary.result (λ h. c.in_err-inner-in-Unary.ensures.none (unary_defined_at _ _ _ _ _ _ _ _ _ _ _ c.in-Unary.is c.operand-in-Unary.ensures.same (shape_width _ _ _ _ _ c.formed.ensures.same (inner_where _ _ _ _ _ _ _ _ _ _ _ _ c.in-Unary.is c.formed.ensures.same c.requires.formed c.is_reduction.ensures c.shape_where-own.ensures c.inner_place-place.ensures.width c.inner_place-place.ensures.sign).0) (shape_sign _ _ _ _ _ c.formed.ensures.same (inner_where _ _ _ _ _ _ _ _ _ _ _ _ c.in-Unary.is c.formed.ensures.same c.requires.formed c.is_reduction.ensures c.shape_where-own.ensures c.inner_place-place.ensures.width c.inner_place-place.ensures.sign).0) (inner_where _ _ _ _ _ _ _ _ _ _ _ _ c.in-Unary.is c.formed.ensures.same c.requires.formed c.is_reduction.ensures c.shape_where-own.ensures c.inner_place-place.ensures.width c.inner_place-place.ensures.sign).1 (inner_where _ _ _ _ _ _ _ _ _ _ _ _ c.in-Unary.is c.formed.ensures.same c.requires.formed c.is_reduction.ensures c.shape_where-own.ensures c.inner_place-place.ensures.width c.inner_place-place.ensures.sign).2 h))

pub value_at-made-requires-clause-some : goal.value_at-made-requires-clause-some
value_at-made-requires-clause-some t c = c.requires.some

pub value_at-operand-requires-in-Binary : goal.value_at-operand-requires-in-Binary
value_at-operand-requires-in-Binary t c = (ready_where _ _ _ _ _ _ _ _ _ _ _ c.in-Binary.is c.requires (taken_where _ _ _ _ _ _ _ _ _ _ _ _ _ _ _ _ _ _ _ _ c.in-Binary.is c.formed-in-Binary.ensures.same c.formed-in-Binary-2.ensures.same c.requires.formed c.family_of-family.ensures c.placing-counting.ensures.left c.placing-counting.ensures.right c.shape_where-m.ensures c.shape_where-n.ensures c.left_place-left.ensures.width c.right_place-right.ensures.width c.left_place-left.ensures.sign c.right_place-right.ensures.sign)).0

pub value_at-returns-in_err-a-in-Binary-clause-none : goal.value_at-returns-in_err-a-in-Binary-clause-none
value_at-returns-in_err-a-in-Binary-clause-none t c = undefined c.args.valuation.now c.args.expr.now c.args.here.0 c.args.here.1 c.from_residual-in_err-a-in-Binary.result (λ h. c.in_err-a-in-Binary.ensures.none (binary_left _ _ _ _ _ _ _ _ _ _ _ _ c.in-Binary.is c.operand-in-Binary.ensures.same (taken_where _ _ _ _ _ _ _ _ _ _ _ _ _ _ _ _ _ _ _ _ c.in-Binary.is c.formed-in-Binary.ensures.same c.formed-in-Binary-2.ensures.same c.requires.formed c.family_of-family.ensures c.placing-counting.ensures.left c.placing-counting.ensures.right c.shape_where-m.ensures c.shape_where-n.ensures c.left_place-left.ensures.width c.right_place-right.ensures.width c.left_place-left.ensures.sign c.right_place-right.ensures.sign) h))

pub value_at-operand-requires-in-Binary-2 : goal.value_at-operand-requires-in-Binary-2
value_at-operand-requires-in-Binary-2 t c = (ready_where _ _ _ _ _ _ _ _ _ _ _ c.in-Binary.is c.requires (taken_where _ _ _ _ _ _ _ _ _ _ _ _ _ _ _ _ _ _ _ _ c.in-Binary.is c.formed-in-Binary.ensures.same c.formed-in-Binary-2.ensures.same c.requires.formed c.family_of-family.ensures c.placing-counting.ensures.left c.placing-counting.ensures.right c.shape_where-m.ensures c.shape_where-n.ensures c.left_place-left.ensures.width c.right_place-right.ensures.width c.left_place-left.ensures.sign c.right_place-right.ensures.sign)).1

pub value_at-returns-in_err-b-in-Binary-clause-none : goal.value_at-returns-in_err-b-in-Binary-clause-none
value_at-returns-in_err-b-in-Binary-clause-none t c = undefined c.args.valuation.now c.args.expr.now c.args.here.0 c.args.here.1 c.from_residual-in_err-b-in-Binary.result (λ h. c.in_err-b-in-Binary.ensures.none (binary_right _ _ _ _ _ _ _ _ _ _ _ _ c.in-Binary.is c.operand-in-Binary-2.ensures.same (taken_where _ _ _ _ _ _ _ _ _ _ _ _ _ _ _ _ _ _ _ _ c.in-Binary.is c.formed-in-Binary.ensures.same c.formed-in-Binary-2.ensures.same c.requires.formed c.family_of-family.ensures c.placing-counting.ensures.left c.placing-counting.ensures.right c.shape_where-m.ensures c.shape_where-n.ensures c.left_place-left.ensures.width c.right_place-right.ensures.width c.left_place-left.ensures.sign c.right_place-right.ensures.sign) h))

pub value_at-joined-requires-clause-some : goal.value_at-joined-requires-clause-some
value_at-joined-requires-clause-some t c = c.requires.some

pub value_at-returns-in_err-condition-in-Choice-clause-none : goal.value_at-returns-in_err-condition-in-Choice-clause-none
value_at-returns-in_err-condition-in-Choice-clause-none t c = undefined c.args.valuation.now c.args.expr.now c.args.here.0 c.args.here.1 c.from_residual-in_err-condition-in-Choice.result (λ h. c.in_err-condition-in-Choice.ensures.none (rw c.get-in-Choice.ensures (choice_formed _ _ _ _ _ c.in-Choice.is c.requires.formed).0) (rw c.get-in-Choice.ensures (choice_defined _ _ _ _ _ _ _ c.in-Choice.is h).0))

pub value_at-operand-requires-in-Choice : goal.value_at-operand-requires-in-Choice
value_at-operand-requires-in-Choice t c = (choice_ready _ _ _ _ _ _ c.in-Choice.is c.requires).0

pub value_at-returns-in_err-a-in-Choice-clause-none : goal.value_at-returns-in_err-a-in-Choice-clause-none
value_at-returns-in_err-a-in-Choice-clause-none t c = undefined c.args.valuation.now c.args.expr.now c.args.here.0 c.args.here.1 c.from_residual-in_err-a-in-Choice.result (λ h. c.in_err-a-in-Choice.ensures.none (rw c.operand-in-Choice.ensures.same (choice_defined _ _ _ _ _ _ _ c.in-Choice.is h).1))

pub value_at-operand-requires-in-Choice-2 : goal.value_at-operand-requires-in-Choice-2
value_at-operand-requires-in-Choice-2 t c = (choice_ready _ _ _ _ _ _ c.in-Choice.is c.requires).1

pub value_at-returns-in_err-b-in-Choice-clause-none : goal.value_at-returns-in_err-b-in-Choice-clause-none
value_at-returns-in_err-b-in-Choice-clause-none t c = undefined c.args.valuation.now c.args.expr.now c.args.here.0 c.args.here.1 c.from_residual-in_err-b-in-Choice.result (λ h. c.in_err-b-in-Choice.ensures.none (rw c.operand-in-Choice-2.ensures.same (choice_defined _ _ _ _ _ _ _ c.in-Choice.is h).2))

pub value_at-returns-in_err-row-in-Concat-clause-none : goal.value_at-returns-in_err-row-in-Concat-clause-none
value_at-returns-in_err-row-in-Concat-clause-none t c = undefined c.args.valuation.now c.args.expr.now c.args.here.0 c.args.here.1 c.from_residual-in_err-row-in-Concat.result (λ h. c.in_err-row-in-Concat.ensures.none (rw c.row.ensures.same (concat_defined _ _ _ _ _ c.in-Concat.is h)))

pub value_at-extended-requires-in-Concat-clause-wider : goal.value_at-extended-requires-in-Concat-clause-wider
value_at-extended-requires-in-Concat-clause-wider t c = concat_long _ _ _ _ _ _ c.in-Concat.is c.row.ensures.same c.in_ok-row-in-Concat.ensures.some c.requires.long

pub value_at-returns-in_err-count-in-Repeat-clause-none : goal.value_at-returns-in_err-count-in-Repeat-clause-none
value_at-returns-in_err-count-in-Repeat-clause-none t c = undefined c.args.valuation.now c.args.expr.now c.args.here.0 c.args.here.1 c.from_residual-in_err-count-in-Repeat.result (λ h. c.in_err-count-in-Repeat.ensures.none (rw c.get-in-Repeat.ensures (repeat_formed _ _ _ _ c.in-Repeat.is c.requires.formed).0) (rw c.get-in-Repeat.ensures (repeat_defined _ _ _ _ _ _ c.in-Repeat.is h).0))

pub value_at-returns-in_err-row-in-Repeat-clause-none : goal.value_at-returns-in_err-row-in-Repeat-clause-none
value_at-returns-in_err-row-in-Repeat-clause-none t c = undefined c.args.valuation.now c.args.expr.now c.args.here.0 c.args.here.1 c.from_residual-in_err-row-in-Repeat.result (λ h. c.in_err-row-in-Repeat.ensures.none (rw c.row-in-Repeat.ensures.same (repeat_defined _ _ _ _ _ _ c.in-Repeat.is h).1))

pub value_at-returns-in_err-all-in-Repeat-clause-none : goal.value_at-returns-in_err-all-in-Repeat-clause-none
value_at-returns-in_err-all-in-Repeat-clause-none t c = undefined c.args.valuation.now c.args.expr.now c.args.here.0 c.args.here.1 c.from_residual-in_err-all-in-Repeat.result (λ h.
    let p = (repeat_formed _ _ _ _ c.in-Repeat.is c.requires.formed) in
    let i : to_z w128 (of_z w128 c.integer.result) ≡ c.integer.result = omega (arith, ints) in
    c.in_err-all-in-Repeat.ensures.none (rw i (repeat_suits _ _ _ _ _ _ _ _ _ c.get-in-Repeat.ensures c.row-in-Repeat.ensures.same c.in_ok-count-in-Repeat.ensures.some c.integer.ensures.value c.in_ok-row-in-Repeat.ensures.some p.3)))

pub value_at-extended-requires-in-Repeat-clause-wider : goal.value_at-extended-requires-in-Repeat-clause-wider
value_at-extended-requires-in-Repeat-clause-wider t c =
    let i : to_z w128 (of_z w128 c.integer.result) ≡ c.integer.result = omega (arith, ints) in
    let n = rw i at c.in_ok-all-in-Repeat.ensures.some.0 in
    repeat_long _ _ _ _ _ _ _ _ _ _ _ c.in_ok-all-in-Repeat.all c.in-Repeat.is c.get-in-Repeat.ensures c.row-in-Repeat.ensures.same c.in_ok-count-in-Repeat.ensures.some c.integer.ensures.value c.in_ok-row-in-Repeat.ensures.some n c.requires.long

pub value_at-returns-in_ok-index-in-Select-clause-some : goal.value_at-returns-in_ok-index-in-Select-clause-some
value_at-returns-in_ok-index-in-Select-clause-some t c = select_value _ _ _ _ _ _ _ _ _ _ _ _ c.in-Select.is c.in_ok-vector-in-Select.ensures.some.1 c.get.ensures c.in_ok-index-in-Select.ensures.some c.selected.ensures c.extended-in-Select.ensures

pub value_at-returns-in_ok-part-in-Part-clause-some : goal.value_at-returns-in_ok-part-in-Part-clause-some
value_at-returns-in_ok-part-in-Part-clause-some t c = part_value_is _ _ _ _ _ _ _ _ _ _ _ _ _ _ _ _ _ c.in-Part.is c.in_ok-vector-in-Part.ensures.some.1 c.get-in-Part.ensures c.get-in-Part-2.ensures c.in_ok-a-in-Part.ensures.some c.in_ok-b-in-Part.ensures.some c.in_ok-part-in-Part.ensures.some c.extended-in-Part.ensures

pub value_at-returns-in_ok-index-in-ConstantSelect-clause-some : goal.value_at-returns-in_ok-index-in-ConstantSelect-clause-some
value_at-returns-in_ok-index-in-ConstantSelect-clause-some t c = constant_select_value _ _ _ _ _ _ _ _ _ _ _ c.in-ConstantSelect.is c.get-in-ConstantSelect.ensures c.in_ok-index-in-ConstantSelect.ensures.some c.bit_at.ensures c.extended-in-ConstantSelect.ensures

pub value_at-returns-in_ok-part-in-ConstantPart-clause-some : goal.value_at-returns-in_ok-part-in-ConstantPart-clause-some
value_at-returns-in_ok-part-in-ConstantPart-clause-some t c = constant_part_value _ _ _ _ _ _ _ _ _ _ _ _ _ _ _ _ c.in-ConstantPart.is c.get-in-ConstantPart.ensures c.get-in-ConstantPart-2.ensures c.in_ok-a-in-ConstantPart.ensures.some c.in_ok-b-in-ConstantPart.ensures.some c.in_ok-part-in-ConstantPart.ensures.some c.extended-in-ConstantPart.ensures

pub value_at-returns-in_ok-inner-in-Cast-clause-some : goal.value_at-returns-in_ok-inner-in-Cast-clause-some
value_at-returns-in_ok-inner-in-Cast-clause-some t c = cast_value _ _ _ _ _ _ _ _ _ _ c.in-Cast.is c.get-in-Cast.ensures c.in_ok-inner-in-Cast.ensures.some c.extended-in-Cast.ensures

pub value_at-returns-in-Paren-clause-some : goal.value_at-returns-in-Paren-clause-some
value_at-returns-in-Paren-clause-some t c = paren_value_some _ _ _ _ _ _ c.value_at.result c.in-Paren.is c.operand.ensures.same c.value_at.ensures.some

pub value_at-returns-in-Paren-clause-none : goal.value_at-returns-in-Paren-clause-none
value_at-returns-in-Paren-clause-none t c = paren_value_none _ _ _ _ _ _ c.value_at.result c.in-Paren.is c.operand.ensures.same c.value_at.ensures.none

pub value_at-returns-in_ok-inner-in-Unary-clause-some : goal.value_at-returns-in_ok-inner-in-Unary-clause-some
value_at-returns-in_ok-inner-in-Unary-clause-some t c = unary_value _ _ _ _ _ _ _ _ _ _ _ _ _ _ c.in-Unary.is c.formed.ensures.same c.operand-in-Unary.ensures.same (inner_where _ _ _ _ _ _ _ _ _ _ _ _ c.in-Unary.is c.formed.ensures.same c.requires.formed c.is_reduction.ensures c.shape_where-own.ensures c.inner_place-place.ensures.width c.inner_place-place.ensures.sign).0 (inner_where _ _ _ _ _ _ _ _ _ _ _ _ c.in-Unary.is c.formed.ensures.same c.requires.formed c.is_reduction.ensures c.shape_where-own.ensures c.inner_place-place.ensures.width c.inner_place-place.ensures.sign).1 (inner_where _ _ _ _ _ _ _ _ _ _ _ _ c.in-Unary.is c.formed.ensures.same c.requires.formed c.is_reduction.ensures c.shape_where-own.ensures c.inner_place-place.ensures.width c.inner_place-place.ensures.sign).2 c.in_ok-inner-in-Unary.ensures.some c.made.ensures

pub value_at-returns-in_ok-b-in-Binary-clause-some : goal.value_at-returns-in_ok-b-in-Binary-clause-some
value_at-returns-in_ok-b-in-Binary-clause-some t c = binary_some _ _ _ _ _ _ _ _ _ _ _ _ _ _ _ c.joined.result c.in-Binary.is c.operand-in-Binary.ensures.same c.operand-in-Binary-2.ensures.same (taken_where _ _ _ _ _ _ _ _ _ _ _ _ _ _ _ _ _ _ _ _ c.in-Binary.is c.formed-in-Binary.ensures.same c.formed-in-Binary-2.ensures.same c.requires.formed c.family_of-family.ensures c.placing-counting.ensures.left c.placing-counting.ensures.right c.shape_where-m.ensures c.shape_where-n.ensures c.left_place-left.ensures.width c.right_place-right.ensures.width c.left_place-left.ensures.sign c.right_place-right.ensures.sign) c.in_ok-a-in-Binary.ensures.some c.in_ok-b-in-Binary.ensures.some c.joined.ensures.some

pub value_at-returns-in_ok-b-in-Binary-clause-none : goal.value_at-returns-in_ok-b-in-Binary-clause-none
value_at-returns-in_ok-b-in-Binary-clause-none t c = binary_none _ _ _ _ _ _ _ _ _ _ _ _ _ _ _ c.joined.result c.in-Binary.is c.operand-in-Binary.ensures.same c.operand-in-Binary-2.ensures.same (taken_where _ _ _ _ _ _ _ _ _ _ _ _ _ _ _ _ _ _ _ _ c.in-Binary.is c.formed-in-Binary.ensures.same c.formed-in-Binary-2.ensures.same c.requires.formed c.family_of-family.ensures c.placing-counting.ensures.left c.placing-counting.ensures.right c.shape_where-m.ensures c.shape_where-n.ensures c.left_place-left.ensures.width c.right_place-right.ensures.width c.left_place-left.ensures.sign c.right_place-right.ensures.sign) c.in_ok-a-in-Binary.ensures.some c.in_ok-b-in-Binary.ensures.some c.joined.ensures.none

pub value_at-returns-in_ok-b-in-Choice-clause-some : goal.value_at-returns-in_ok-b-in-Choice-clause-some
value_at-returns-in_ok-b-in-Choice-clause-some t c = choice_value _ _ _ _ _ _ _ _ _ _ _ _ _ _ _ c.in-Choice.is c.get-in-Choice.ensures c.operand-in-Choice.ensures.same c.operand-in-Choice-2.ensures.same c.in_ok-condition-in-Choice.ensures.some c.in_ok-a-in-Choice.ensures.some c.in_ok-b-in-Choice.ensures.some c.chosen.ensures

pub value_at-returns-in_ok-row-in-Concat-clause-some : goal.value_at-returns-in_ok-row-in-Concat-clause-some
value_at-returns-in_ok-row-in-Concat-clause-some t c = concat_value _ _ _ _ _ _ _ _ c.in-Concat.is c.row.ensures.same c.in_ok-row-in-Concat.ensures.some c.extended-in-Concat.ensures

pub value_at-returns-in_ok-all-in-Repeat-clause-some : goal.value_at-returns-in_ok-all-in-Repeat-clause-some
value_at-returns-in_ok-all-in-Repeat-clause-some t c =
    let i : to_z w128 (of_z w128 c.integer.result) ≡ c.integer.result = omega (arith, ints) in
    let n = rw i at c.in_ok-all-in-Repeat.ensures.some.1 in
    repeat_value _ _ _ _ _ _ _ _ _ _ _ _ c.in_ok-all-in-Repeat.all _ c.in-Repeat.is c.get-in-Repeat.ensures c.row-in-Repeat.ensures.same c.in_ok-count-in-Repeat.ensures.some c.integer.ensures.value c.in_ok-row-in-Repeat.ensures.some n c.extended-in-Repeat.ensures

pub value_at-bit_at-requires : goal.value_at-bit_at-requires
value_at-bit_at-requires t c = (constant_select_formed _ _ _ _ c.in-ConstantSelect.is c.requires.formed).0

pub value_at-made-requires-clause-fits : goal.value_at-made-requires-clause-fits
value_at-made-requires-clause-fits t c = λ n. made_fits_word _ _ _ _ _ _ _ _ (inner_where _ _ _ _ _ _ _ _ _ _ _ _ c.in-Unary.is c.formed.ensures.same c.requires.formed c.is_reduction.ensures c.shape_where-own.ensures c.inner_place-place.ensures.width c.inner_place-place.ensures.sign).1 c.in_ok-inner-in-Unary.ensures.some n

pub value_at-joined-requires-clause-fits : goal.value_at-joined-requires-clause-fits
value_at-joined-requires-clause-fits t c = places_fit _ _ _ _ _ _ _ _ _ _ _ _ _ _ (taken_where _ _ _ _ _ _ _ _ _ _ _ _ _ _ _ _ _ _ _ _ c.in-Binary.is c.formed-in-Binary.ensures.same c.formed-in-Binary-2.ensures.same c.requires.formed c.family_of-family.ensures c.placing-counting.ensures.left c.placing-counting.ensures.right c.shape_where-m.ensures c.shape_where-n.ensures c.left_place-left.ensures.width c.right_place-right.ensures.width c.left_place-left.ensures.sign c.right_place-right.ensures.sign) c.in_ok-a-in-Binary.ensures.some c.in_ok-b-in-Binary.ensures.some

pub value_at-row-requires : goal.value_at-row-requires
value_at-row-requires t c = let p = (concat_formed _ _ _ c.in-Concat.is c.requires.formed) in record { formed = p.0; length = p.1 }

pub value_at-row-requires-in-Repeat : goal.value_at-row-requires-in-Repeat
value_at-row-requires-in-Repeat t c = let p = (repeat_formed _ _ _ _ c.in-Repeat.is c.requires.formed) in record { formed = p.2; length = row_length c.args.valuation.now (operand_of c.args.valuation.now c.in-Repeat.count) c.in-Repeat.items p.3 }

pub row_word-loop-item-preserved : goal.row_word-loop-item-preserved
row_word-loop-item-preserved t c =
    let o = c.in_ok-low.ensures.some in
    let d = next_part c.args.items.now c.loop-item.item-index c.item-item.result c.item-item.result (omega arith) c.item-item.is in
    record {
      formed = next_formed _ _ _ _ d c.loop-item.invariant.formed;
      defined = next_defined _ _ _ _ _ _ _ d o c.loop-item.invariant.defined;
      width = next_width _ _ _ _ _ _ _ _ _ d o c.width.ensures c.loop-item.invariant.width;
      fits = next_fits _ _ _ c.in_ok-low.field-0.word c.width.ensures c.appended-number.ensures.fits;
      number = next_number _ _ _ _ _ _ _ _ _ d o c.appended-number.ensures.value c.loop-item.invariant.number;
    }

pub own_shape-formed-requires : goal.own_shape-formed-requires
own_shape-formed-requires t c = cast_formed _ _ _ _ c.in-Cast.is c.requires

pub own_shape-formed-requires-in-Paren : goal.own_shape-formed-requires-in-Paren
own_shape-formed-requires-in-Paren t c = paren_formed _ _ _ c.in-Paren.is c.requires

pub own_shape-formed-requires-in-Unary : goal.own_shape-formed-requires-in-Unary
own_shape-formed-requires-in-Unary t c = unary_formed _ _ _ _ c.in-Unary.is c.requires

pub own_shape-formed-requires-in-Binary : goal.own_shape-formed-requires-in-Binary
own_shape-formed-requires-in-Binary t c = (binary_formed _ _ _ _ _ c.in-Binary.is c.requires).0

pub own_shape-formed-requires-in-Binary-2 : goal.own_shape-formed-requires-in-Binary-2
own_shape-formed-requires-in-Binary-2 t c = (binary_formed _ _ _ _ _ c.in-Binary.is c.requires).1

pub own_shape-formed-requires-in-Choice : goal.own_shape-formed-requires-in-Choice
own_shape-formed-requires-in-Choice t c = (choice_formed _ _ _ _ _ c.in-Choice.is c.requires).1

pub own_shape-formed-requires-in-Choice-2 : goal.own_shape-formed-requires-in-Choice-2
own_shape-formed-requires-in-Choice-2 t c = (choice_formed _ _ _ _ _ c.in-Choice.is c.requires).2

pub own_shape-returns-in-ConstantSelect : goal.own_shape-returns-in-ConstantSelect
own_shape-returns-in-ConstantSelect t c = constant_select_shape _ _ _ _ c.in-ConstantSelect.is c.requires

pub own_shape-returns-in-Cast : goal.own_shape-returns-in-Cast
own_shape-returns-in-Cast t c = cast_has _ _ _ _ _ _ _ _ c.in-Cast.is c.formed.ensures.same c.own_shape-inner.ensures c.is_signed.ensures

pub own_shape-returns-in-Paren : goal.own_shape-returns-in-Paren
own_shape-returns-in-Paren t c = paren_has _ _ _ _ _ _ c.in-Paren.is c.formed-in-Paren.ensures.same c.own_shape.ensures

pub own_shape-returns-then-is_reduction : goal.own_shape-returns-then-is_reduction
own_shape-returns-then-is_reduction t c = reduction_shape _ _ _ _ c.in-Unary.is (sym c.is_reduction.ensures ∙ c.if-is_reduction.true) c.requires

pub own_shape-returns-else-is_reduction : goal.own_shape-returns-else-is_reduction
own_shape-returns-else-is_reduction t c = change_shape _ _ _ _ _ _ _ c.in-Unary.is c.formed-in-Unary.ensures.same (sym c.is_reduction.ensures ∙ c.if-is_reduction.false) c.own_shape-in-Unary.ensures

pub own_shape-returns-in-Binary : goal.own_shape-returns-in-Binary
own_shape-returns-in-Binary t c = sized_where _ _ _ _ _ _ _ _ _ _ _ _ _ _ _ _ c.in-Binary.is c.formed-in-Binary.ensures.same c.formed-in-Binary-2.ensures.same c.requires c.family_of-family.ensures c.sizing-counting.ensures.left c.sizing-counting.ensures.right c.shape_where-left.ensures c.shape_where-right.ensures c.joined_shape.ensures.width c.joined_shape.ensures.sign

pub own_shape-returns-in-Choice : goal.own_shape-returns-in-Choice
own_shape-returns-in-Choice t c = choice_has _ _ _ _ _ _ _ _ _ _ _ _ _ _ c.in-Choice.is refl c.formed-in-Choice.ensures.same c.formed-in-Choice-2.ensures.same (choice_formed _ _ _ _ _ c.in-Choice.is c.requires).0 c.own_shape-left.ensures c.own_shape-right.ensures c.longer.ensures.width c.longer.ensures.sign

pub value_at-formed-requires : goal.value_at-formed-requires
value_at-formed-requires t c = unary_formed _ _ _ _ c.in-Unary.is c.requires.formed

pub value_at-formed-requires-in-Binary : goal.value_at-formed-requires-in-Binary
value_at-formed-requires-in-Binary t c = (binary_formed _ _ _ _ _ c.in-Binary.is c.requires.formed).0

pub value_at-formed-requires-in-Binary-2 : goal.value_at-formed-requires-in-Binary-2
value_at-formed-requires-in-Binary-2 t c = (binary_formed _ _ _ _ _ c.in-Binary.is c.requires.formed).1
