use Rattle.std.proofs.Common.{refl, ap, ◌∙◌}
use Rattle.std.proofs.lemmas.Result.{IfOk-at_ok, IfOk-weaker}
use Rattle.vlog_tree.specs.declared.expr.Expr.TheVariants as e
use Rattle.set_read_lookup.proofs.PresentForms.{concat_present, repeat_present, select_present, part_present, constant_select_present, constant_part_present, cast_present, paren_present, unary_present, binary_present, choice_present}
use Rattle.set_read_lookup.proofs.present.+present.Goals as goal

pub present-returns-in_ok-boxed-in-Select : goal.present-returns-in_ok-boxed-in-Select
present-returns-in_ok-boxed-in-Select t c =
    select_present c.args.expr.now c.in-Select.name _ c.in-Select.index _ _ _ c.in-Select.is c.get.ensures c.in_ok-boxed-in-Select.ensures c.in_ok-name-in-Select.ensures refl

pub present-returns-in_ok-a-in-Part : goal.present-returns-in_ok-a-in-Part
present-returns-in_ok-a-in-Part t c =
    part_present c.args.expr.now c.in-Part.name _ c.in-Part.span c.in-Part.a c.in-Part.b _ _ _ _ _
    c.in-Part.is c.get-in-Part.ensures c.get-in-Part-2.ensures
    (c.in_ok-a-in-Part.ensures.first ∙ c.in_ok-first-in-Part.ensures) (IfOk-at_ok _ c.in_ok-a-in-Part.ensures.second c.boxed-in-Part-2.ensures) c.in_ok-name-in-Part.ensures refl

pub present-returns-in_ok-boxed-in-ConstantSelect : goal.present-returns-in_ok-boxed-in-ConstantSelect
present-returns-in_ok-boxed-in-ConstantSelect t c =
    constant_select_present c.args.expr.now c.in-ConstantSelect.v c.in-ConstantSelect.a _ _ _
    c.in-ConstantSelect.is c.get-in-ConstantSelect.ensures c.in_ok-boxed-in-ConstantSelect.ensures refl

pub present-returns-in_ok-a-in-ConstantPart : goal.present-returns-in_ok-a-in-ConstantPart
present-returns-in_ok-a-in-ConstantPart t c =
    constant_part_present c.args.expr.now c.in-ConstantPart.vector c.in-ConstantPart.span c.in-ConstantPart.a c.in-ConstantPart.b _ _ _ _ _
    c.in-ConstantPart.is c.get-in-ConstantPart.ensures c.get-in-ConstantPart-2.ensures
    (c.in_ok-a-in-ConstantPart.ensures.first ∙ c.in_ok-first-in-ConstantPart.ensures) (IfOk-at_ok _ c.in_ok-a-in-ConstantPart.ensures.second c.boxed-in-ConstantPart-2.ensures) refl

pub present-returns-in_ok-boxed-in-Cast : goal.present-returns-in_ok-boxed-in-Cast
present-returns-in_ok-boxed-in-Cast t c =
    cast_present c.args.expr.now c.in-Cast.cast c.in-Cast.inner _ _ _ c.in-Cast.is c.get-in-Cast.ensures c.in_ok-boxed-in-Cast.ensures refl

pub present-returns-in_ok-boxed-in-Paren : goal.present-returns-in_ok-boxed-in-Paren
present-returns-in_ok-boxed-in-Paren t c =
    paren_present c.args.expr.now c.in-Paren.inner _ _ _ c.in-Paren.is c.get-in-Paren.ensures c.in_ok-boxed-in-Paren.ensures refl

pub present-returns-in_ok-row-in-Concat : goal.present-returns-in_ok-row-in-Concat
present-returns-in_ok-row-in-Concat t c =
    concat_present c.args.expr.now c.in-Concat.parts _ _ _ c.in-Concat.is c.as_slice.ensures c.in_ok-row-in-Concat.ensures refl

pub present-returns-in_ok-count-in-Repeat : goal.present-returns-in_ok-count-in-Repeat
present-returns-in_ok-count-in-Repeat t c =
    repeat_present c.args.expr.now c.in-Repeat.count _ _ c.in-Repeat.parts _ _ _
    c.in-Repeat.is c.get-in-Repeat.ensures c.as_slice-in-Repeat.ensures
    (c.in_ok-count-in-Repeat.ensures.first ∙ c.in_ok-first-in-Repeat.ensures) (IfOk-at_ok _ c.in_ok-count-in-Repeat.ensures.second c.row-in-Repeat.ensures) refl

pub present-returns-in_ok-boxed-in-Unary : goal.present-returns-in_ok-boxed-in-Unary
present-returns-in_ok-boxed-in-Unary t c =
    unary_present c.args.expr.now c.in-Unary.op c.in-Unary.a _ _ _ c.in-Unary.is c.get-in-Unary.ensures c.in_ok-boxed-in-Unary.ensures refl

pub present-returns-in_ok-a-in-Binary : goal.present-returns-in_ok-a-in-Binary
present-returns-in_ok-a-in-Binary t c =
    binary_present c.args.expr.now c.in-Binary.op c.in-Binary.a c.in-Binary.b _ _ _ _ _
    c.in-Binary.is c.get-in-Binary.ensures c.get-in-Binary-2.ensures
    (c.in_ok-a-in-Binary.ensures.first ∙ c.in_ok-first-in-Binary.ensures) (IfOk-at_ok _ c.in_ok-a-in-Binary.ensures.second c.boxed-in-Binary-2.ensures) refl

pub present-returns-in_ok-condition-in-Choice : goal.present-returns-in_ok-condition-in-Choice
present-returns-in_ok-condition-in-Choice t c =
    IfOk-weaker c.choice.result _ _
    (λ r h. choice_present c.args.expr.now c.in-Choice.condition c.in-Choice.a c.in-Choice.b _ _ _ _ _ _ r
    c.in-Choice.is c.get-in-Choice.ensures c.get-in-Choice-2.ensures c.get-in-Choice-3.ensures
    (c.in_ok-condition-in-Choice.ensures.first ∙ c.in_ok-first-in-Choice.ensures) (IfOk-at_ok _ c.in_ok-condition-in-Choice.ensures.second c.boxed-in-Choice-2.ensures) refl h)
    c.choice.ensures

pub choice-returns : goal.choice-returns
choice-returns t c = ap (e.Choice c.args.condition c.args.first) c.in_ok-boxed.ensures
