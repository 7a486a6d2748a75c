use Rattle.std.proofs.Common.{◌≡◌, Ok, refl}
use Rattle.std.proofs.lemmas.Result.{IfOk-weaker, IfOk-at_ok}
use Rattle.elab_flat_move.proofs.Exprs.{concat_moved, repeat_moved, select_moved, part_moved, constant_select_moved, constant_part_moved, cast_moved, paren_moved, unary_moved, binary_moved, choice_moved}
use Rattle.elab_flat_move.proofs.Pairs.{made}
use Rattle.elab_flat_move.proofs.expr.Mover.+expr.Goals as goal

pub expr-returns-in_ok-boxed-in-Select : goal.expr-returns-in_ok-boxed-in-Select
expr-returns-in_ok-boxed-in-Select t c =
    IfOk-weaker c.select.result _ _
    (λ r h. select_moved c.args.self.now.prefix.now c.args.self.now.params.now c.args.expr.now c.in-Select.name c.in-Select.index _ _ r c.in-Select.is c.get.ensures c.in_ok-boxed-in-Select.ensures h)
    c.select.ensures

pub expr-returns-in_ok-a-in-Part : goal.expr-returns-in_ok-a-in-Part
expr-returns-in_ok-a-in-Part t c =
    IfOk-weaker c.part.result _ _
    (λ r h. part_moved c.args.self.now.prefix.now c.args.self.now.params.now c.args.expr.now c.in-Part.name c.in-Part.span c.in-Part.a c.in-Part.b _ _ _ _ r
    c.in-Part.is c.get-in-Part.ensures c.get-in-Part-2.ensures (made _ _ _ c.in_ok-a-in-Part.ensures.first c.boxed-in-Part.ensures) (made _ _ _ c.in_ok-a-in-Part.ensures.second c.boxed-in-Part-2.ensures) h)
    c.part.ensures

pub expr-returns-in_ok-boxed-in-ConstantSelect : goal.expr-returns-in_ok-boxed-in-ConstantSelect
expr-returns-in_ok-boxed-in-ConstantSelect t c =
    constant_select_moved c.args.self.now.prefix.now c.args.self.now.params.now c.args.expr.now c.in-ConstantSelect.vector c.in-ConstantSelect.index _ _ _
    c.in-ConstantSelect.is c.get-in-ConstantSelect.ensures c.in_ok-boxed-in-ConstantSelect.ensures refl

pub expr-returns-in_ok-a-in-ConstantPart : goal.expr-returns-in_ok-a-in-ConstantPart
expr-returns-in_ok-a-in-ConstantPart t c =
    constant_part_moved c.args.self.now.prefix.now c.args.self.now.params.now c.args.expr.now c.in-ConstantPart.vector c.in-ConstantPart.span c.in-ConstantPart.a c.in-ConstantPart.b _ _ _ _ _
    c.in-ConstantPart.is c.get-in-ConstantPart.ensures c.get-in-ConstantPart-2.ensures
    (made _ _ _ c.in_ok-a-in-ConstantPart.ensures.first c.boxed-in-ConstantPart.ensures) (made _ _ _ c.in_ok-a-in-ConstantPart.ensures.second c.boxed-in-ConstantPart-2.ensures) refl

pub expr-returns-in_ok-boxed-in-Cast : goal.expr-returns-in_ok-boxed-in-Cast
expr-returns-in_ok-boxed-in-Cast t c =
    cast_moved c.args.self.now.prefix.now c.args.self.now.params.now c.args.expr.now c.in-Cast.cast c.in-Cast.inner _ _ _ c.in-Cast.is c.get-in-Cast.ensures c.in_ok-boxed-in-Cast.ensures refl

pub expr-returns-in_ok-boxed-in-Paren : goal.expr-returns-in_ok-boxed-in-Paren
expr-returns-in_ok-boxed-in-Paren t c =
    paren_moved c.args.self.now.prefix.now c.args.self.now.params.now c.args.expr.now c.in-Paren.inner _ _ _ c.in-Paren.is c.get-in-Paren.ensures c.in_ok-boxed-in-Paren.ensures refl

pub expr-returns-in_ok-exprs-in-Concat : goal.expr-returns-in_ok-exprs-in-Concat
expr-returns-in_ok-exprs-in-Concat t c =
    concat_moved c.args.self.now.prefix.now c.args.self.now.params.now c.args.expr.now c.in-Concat.parts _ _ _ c.in-Concat.is c.as_slice.ensures c.in_ok-exprs-in-Concat.ensures refl

pub expr-returns-in_ok-count-in-Repeat : goal.expr-returns-in_ok-count-in-Repeat
expr-returns-in_ok-count-in-Repeat t c =
    repeat_moved c.args.self.now.prefix.now c.args.self.now.params.now c.args.expr.now c.in-Repeat.count _ _ c.in-Repeat.parts _ _ _
    c.in-Repeat.is c.get-in-Repeat.ensures c.as_slice-in-Repeat.ensures
    (made _ _ _ c.in_ok-count-in-Repeat.ensures.first c.boxed-in-Repeat.ensures) (made _ _ _ c.in_ok-count-in-Repeat.ensures.second c.exprs-in-Repeat.ensures) refl

pub expr-returns-in_ok-boxed-in-Unary : goal.expr-returns-in_ok-boxed-in-Unary
expr-returns-in_ok-boxed-in-Unary t c =
    unary_moved c.args.self.now.prefix.now c.args.self.now.params.now c.args.expr.now c.in-Unary.op c.in-Unary.a _ _ _ c.in-Unary.is c.get-in-Unary.ensures c.in_ok-boxed-in-Unary.ensures refl

pub expr-returns-in_ok-a-in-Binary : goal.expr-returns-in_ok-a-in-Binary
expr-returns-in_ok-a-in-Binary t c =
    binary_moved c.args.self.now.prefix.now c.args.self.now.params.now c.args.expr.now c.in-Binary.op c.in-Binary.a c.in-Binary.b _ _ _ _ _
    c.in-Binary.is c.get-in-Binary.ensures c.get-in-Binary-2.ensures
    (made _ _ _ c.in_ok-a-in-Binary.ensures.first c.boxed-in-Binary.ensures) (made _ _ _ c.in_ok-a-in-Binary.ensures.second c.boxed-in-Binary-2.ensures) refl

pub expr-returns-in_ok-condition-in-Choice : goal.expr-returns-in_ok-condition-in-Choice
expr-returns-in_ok-condition-in-Choice t c =
    let all = c.in_ok-condition-in-Choice.ensures in
    choice_moved c.args.self.now.prefix.now c.args.self.now.params.now c.args.expr.now c.in-Choice.condition c.in-Choice.a c.in-Choice.b _ _ _ _ _ _ _
    c.in-Choice.is c.get-in-Choice-3.ensures c.get-in-Choice.ensures c.get-in-Choice-2.ensures
    (made _ _ _ all.first c.boxed-in-Choice-3.ensures)
    (made _ _ _ (IfOk-at_ok (λ p. c.boxed-in-Choice.result ≡ Ok p.0) all.second c.both-ends.ensures.first) c.boxed-in-Choice.ensures)
    (made _ _ _ (IfOk-at_ok (λ p. c.boxed-in-Choice-2.result ≡ Ok p.1) all.second c.both-ends.ensures.second) c.boxed-in-Choice-2.ensures) refl
