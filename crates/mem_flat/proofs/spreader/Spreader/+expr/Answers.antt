use Rattle.std.proofs.Common.{◌≡◌, Ok, refl, rules}
use Rattle.std.proofs.lemmas.Result.{IfOk-weaker, IfOk-at_ok}
use Rattle.vlog_tree.specs.declared.expr.Expr.{the_lemmas}
use Rattle.mem_flat.proofs.Exprs.{concat_spread, repeat_spread, select_spread, part_spread, constant_select_spread, constant_part_spread, cast_spread, paren_spread, unary_spread, binary_spread, choice_spread, select_asked, part_asked, constant_select_asked, constant_part_asked, cast_asked, paren_asked, concat_asked, repeat_asked, unary_asked, binary_asked, choice_asked, each_asked}
use Rattle.elab_flat_move.proofs.Pairs.{made}
use Rattle.mem_flat.proofs.spreader.Spreader.+expr.Goals as goal

pub expr-returns-in_ok-spread-in-Select : goal.expr-returns-in_ok-spread-in-Select
expr-returns-in_ok-spread-in-Select t c =
    IfOk-weaker c.select.result _ _
    (λ r h. select_spread c.args.self.now.rest.now c.args.expr.now c.in-Select.name c.in-Select.index _ _ r c.in-Select.is c.get-index.ensures c.in_ok-spread-in-Select.ensures h)
    c.select.ensures

pub expr-returns-in_ok-name-in-Part : goal.expr-returns-in_ok-name-in-Part
expr-returns-in_ok-name-in-Part t c =
    let all = c.in_ok-name-in-Part.ensures in
    part_spread c.args.self.now.rest.now c.args.expr.now c.in-Part.name _ c.in-Part.span c.in-Part.a c.in-Part.b _ _ _ _ _
    c.in-Part.is (made _ _ _ all.first c.copied_name-in-Part.ensures) c.get.ensures c.get-in-Part.ensures
    (made _ _ _ (IfOk-at_ok (λ p. c.boxed-in-Part.result ≡ Ok p.0) all.second c.both-ends.ensures.first) c.boxed-in-Part.ensures)
    (made _ _ _ (IfOk-at_ok (λ p. c.boxed-in-Part-2.result ≡ Ok p.1) all.second c.both-ends.ensures.second) c.boxed-in-Part-2.ensures) refl

pub expr-returns-in_ok-boxed-in-ConstantSelect : goal.expr-returns-in_ok-boxed-in-ConstantSelect
expr-returns-in_ok-boxed-in-ConstantSelect t c =
    constant_select_spread c.args.self.now.rest.now c.args.expr.now c.in-ConstantSelect.vector c.in-ConstantSelect.index _ _ _
    c.in-ConstantSelect.is c.get-in-ConstantSelect.ensures c.in_ok-boxed-in-ConstantSelect.ensures refl

pub expr-returns-in_ok-a-in-ConstantPart : goal.expr-returns-in_ok-a-in-ConstantPart
expr-returns-in_ok-a-in-ConstantPart t c =
    constant_part_spread c.args.self.now.rest.now c.args.expr.now c.in-ConstantPart.vector c.in-ConstantPart.span c.in-ConstantPart.a c.in-ConstantPart.b _ _ _ _ _
    c.in-ConstantPart.is c.get-in-ConstantPart.ensures c.get-in-ConstantPart-2.ensures
    (made _ _ _ c.in_ok-a-in-ConstantPart.ensures.first c.boxed-in-ConstantPart.ensures) (made _ _ _ c.in_ok-a-in-ConstantPart.ensures.second c.boxed-in-ConstantPart-2.ensures) refl

pub expr-returns-in_ok-boxed-in-Cast : goal.expr-returns-in_ok-boxed-in-Cast
expr-returns-in_ok-boxed-in-Cast t c =
    cast_spread c.args.self.now.rest.now c.args.expr.now c.in-Cast.cast c.in-Cast.inner _ _ _ c.in-Cast.is c.get-in-Cast.ensures c.in_ok-boxed-in-Cast.ensures refl

pub expr-returns-in_ok-boxed-in-Paren : goal.expr-returns-in_ok-boxed-in-Paren
expr-returns-in_ok-boxed-in-Paren t c =
    paren_spread c.args.self.now.rest.now c.args.expr.now c.in-Paren.inner _ _ _ c.in-Paren.is c.get-in-Paren.ensures c.in_ok-boxed-in-Paren.ensures refl

pub expr-returns-in_ok-exprs-in-Concat : goal.expr-returns-in_ok-exprs-in-Concat
expr-returns-in_ok-exprs-in-Concat t c =
    concat_spread c.args.self.now.rest.now c.args.expr.now c.in-Concat.parts _ _ _ c.in-Concat.is c.as_slice.ensures c.in_ok-exprs-in-Concat.ensures refl

pub expr-returns-in_ok-count-in-Repeat : goal.expr-returns-in_ok-count-in-Repeat
expr-returns-in_ok-count-in-Repeat t c =
    repeat_spread c.args.self.now.rest.now c.args.expr.now c.in-Repeat.count _ _ c.in-Repeat.parts _ _ _
    c.in-Repeat.is c.get-in-Repeat.ensures c.as_slice-in-Repeat.ensures
    (made _ _ _ c.in_ok-count-in-Repeat.ensures.first c.boxed-in-Repeat.ensures) (made _ _ _ c.in_ok-count-in-Repeat.ensures.second c.exprs-in-Repeat.ensures) refl

pub expr-returns-in_ok-boxed-in-Unary : goal.expr-returns-in_ok-boxed-in-Unary
expr-returns-in_ok-boxed-in-Unary t c =
    unary_spread c.args.self.now.rest.now c.args.expr.now c.in-Unary.op c.in-Unary.a _ _ _ c.in-Unary.is c.get-in-Unary.ensures c.in_ok-boxed-in-Unary.ensures refl

pub expr-returns-in_ok-a-in-Binary : goal.expr-returns-in_ok-a-in-Binary
expr-returns-in_ok-a-in-Binary t c =
    binary_spread c.args.self.now.rest.now c.args.expr.now c.in-Binary.op c.in-Binary.a c.in-Binary.b _ _ _ _ _
    c.in-Binary.is c.get-in-Binary.ensures c.get-in-Binary-2.ensures
    (made _ _ _ c.in_ok-a-in-Binary.ensures.first c.boxed-in-Binary.ensures) (made _ _ _ c.in_ok-a-in-Binary.ensures.second c.boxed-in-Binary-2.ensures) refl

pub expr-returns-in_ok-condition-in-Choice : goal.expr-returns-in_ok-condition-in-Choice
expr-returns-in_ok-condition-in-Choice t c =
    let all = c.in_ok-condition-in-Choice.ensures in
    choice_spread c.args.self.now.rest.now c.args.expr.now c.in-Choice.condition c.in-Choice.a c.in-Choice.b _ _ _ _ _ _ _
    c.in-Choice.is c.get-in-Choice-3.ensures c.get-in-Choice.ensures c.get-in-Choice-2.ensures
    (made _ _ _ all.first c.boxed-in-Choice-3.ensures)
    (made _ _ _ (IfOk-at_ok (λ p. c.boxed-in-Choice.result ≡ Ok p.0) all.second c.both-ends-in-Choice.ensures.first) c.boxed-in-Choice.ensures)
    (made _ _ _ (IfOk-at_ok (λ p. c.boxed-in-Choice-2.result ≡ Ok p.1) all.second c.both-ends-in-Choice.ensures.second) c.boxed-in-Choice-2.ensures) refl

pub expr-boxed-requires : goal.expr-boxed-requires
expr-boxed-requires t c = (search (rules, the_lemmas), (select_asked c.args.self.now.rest.now _ _ _ _ c.in-Select.is c.get-index.ensures c.requires).1)

pub expr-select-requires : goal.expr-select-requires
expr-select-requires t c = (select_asked c.args.self.now.rest.now _ _ _ _ c.in-Select.is c.get-index.ensures c.requires).0

pub expr-boxed-requires-in-Part : goal.expr-boxed-requires-in-Part
expr-boxed-requires-in-Part t c = (search (rules, the_lemmas), (part_asked c.args.self.now.rest.now _ _ _ _ _ _ _ c.in-Part.is c.get.ensures refl c.requires).0)

pub expr-boxed-requires-in-Part-2 : goal.expr-boxed-requires-in-Part-2
expr-boxed-requires-in-Part-2 t c = (search (rules, the_lemmas), (part_asked c.args.self.now.rest.now _ _ _ _ _ _ _ c.in-Part.is c.get.ensures c.get-in-Part.ensures c.requires).1)

pub expr-boxed-requires-in-ConstantSelect : goal.expr-boxed-requires-in-ConstantSelect
expr-boxed-requires-in-ConstantSelect t c = (search (rules, the_lemmas), constant_select_asked c.args.self.now.rest.now _ _ _ _ c.in-ConstantSelect.is c.get-in-ConstantSelect.ensures c.requires)

pub expr-boxed-requires-in-ConstantPart : goal.expr-boxed-requires-in-ConstantPart
expr-boxed-requires-in-ConstantPart t c = (search (rules, the_lemmas), (constant_part_asked c.args.self.now.rest.now _ _ _ _ _ _ _ c.in-ConstantPart.is c.get-in-ConstantPart.ensures refl c.requires).0)

pub expr-boxed-requires-in-ConstantPart-2 : goal.expr-boxed-requires-in-ConstantPart-2
expr-boxed-requires-in-ConstantPart-2 t c = (search (rules, the_lemmas), (constant_part_asked c.args.self.now.rest.now _ _ _ _ _ _ _ c.in-ConstantPart.is c.get-in-ConstantPart.ensures c.get-in-ConstantPart-2.ensures c.requires).1)

pub expr-boxed-requires-in-Cast : goal.expr-boxed-requires-in-Cast
expr-boxed-requires-in-Cast t c = (search (rules, the_lemmas), cast_asked c.args.self.now.rest.now _ _ _ _ c.in-Cast.is c.get-in-Cast.ensures c.requires)

pub expr-boxed-requires-in-Paren : goal.expr-boxed-requires-in-Paren
expr-boxed-requires-in-Paren t c = (search (rules, the_lemmas), paren_asked c.args.self.now.rest.now _ _ _ c.in-Paren.is c.get-in-Paren.ensures c.requires)

pub expr-exprs-requires : goal.expr-exprs-requires
expr-exprs-requires t c = (search (rules, the_lemmas), concat_asked c.args.self.now.rest.now _ _ _ c.in-Concat.is c.as_slice.ensures c.requires)

pub expr-boxed-requires-in-Repeat : goal.expr-boxed-requires-in-Repeat
expr-boxed-requires-in-Repeat t c = (search (rules, the_lemmas), (repeat_asked c.args.self.now.rest.now _ _ _ _ _ c.in-Repeat.is c.get-in-Repeat.ensures refl c.requires).0)

pub expr-exprs-requires-in-Repeat : goal.expr-exprs-requires-in-Repeat
expr-exprs-requires-in-Repeat t c = (search (rules, the_lemmas), (repeat_asked c.args.self.now.rest.now _ _ _ _ _ c.in-Repeat.is c.get-in-Repeat.ensures c.as_slice-in-Repeat.ensures c.requires).1)

pub expr-boxed-requires-in-Unary : goal.expr-boxed-requires-in-Unary
expr-boxed-requires-in-Unary t c = (search (rules, the_lemmas), unary_asked c.args.self.now.rest.now _ _ _ _ c.in-Unary.is c.get-in-Unary.ensures c.requires)

pub expr-boxed-requires-in-Binary : goal.expr-boxed-requires-in-Binary
expr-boxed-requires-in-Binary t c = (search (rules, the_lemmas), (binary_asked c.args.self.now.rest.now _ _ _ _ _ _ c.in-Binary.is c.get-in-Binary.ensures refl c.requires).0)

pub expr-boxed-requires-in-Binary-2 : goal.expr-boxed-requires-in-Binary-2
expr-boxed-requires-in-Binary-2 t c = (search (rules, the_lemmas), (binary_asked c.args.self.now.rest.now _ _ _ _ _ _ c.in-Binary.is c.get-in-Binary.ensures c.get-in-Binary-2.ensures c.requires).1)

pub expr-boxed-requires-in-Choice : goal.expr-boxed-requires-in-Choice
expr-boxed-requires-in-Choice t c = (search (rules, the_lemmas), (choice_asked c.args.self.now.rest.now _ _ _ _ _ _ _ c.in-Choice.is refl c.get-in-Choice.ensures refl c.requires).1)

pub expr-boxed-requires-in-Choice-2 : goal.expr-boxed-requires-in-Choice-2
expr-boxed-requires-in-Choice-2 t c = (search (rules, the_lemmas), (choice_asked c.args.self.now.rest.now _ _ _ _ _ _ _ c.in-Choice.is refl c.get-in-Choice.ensures c.get-in-Choice-2.ensures c.requires).2)

pub expr-boxed-requires-in-Choice-3 : goal.expr-boxed-requires-in-Choice-3
expr-boxed-requires-in-Choice-3 t c = (search (rules, the_lemmas), (choice_asked c.args.self.now.rest.now _ _ _ _ _ _ _ c.in-Choice.is c.get-in-Choice-3.ensures c.get-in-Choice.ensures c.get-in-Choice-2.ensures c.requires).0)

pub exprs-expr-requires : goal.exprs-expr-requires
exprs-expr-requires t c = (search (rules, the_lemmas), each_asked c.args.self.now.rest.now c.args.exprs.now c.loop-expr.expr-index c.expr-item.result _ c.requires c.loop-expr-test.true c.expr-item.is)
