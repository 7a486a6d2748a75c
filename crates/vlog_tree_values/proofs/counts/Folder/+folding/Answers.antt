use Rattle.std.proofs.Common.{◌≡◌, Ok, arith}
use Rattle.std.proofs.lemmas.Result.{IfOk-at_ok, IfOk-weaker}
use Rattle.vlog_tree_values.proofs.Meanings.{select_means, part_means, constant_select_means, constant_part_means, cast_means, paren_means, concat_means, repeat_means, unary_means, binary_means, choice_means, count_through, next_folded, all_folded}
use Rattle.vlog_tree_values.proofs.Rows.{next_part}
use Rattle.vlog_tree_values.proofs.counts.Folder.+folding.Goals as goal

pub expr-returns-in_ok-name-in-Select : goal.expr-returns-in_ok-name-in-Select
expr-returns-in_ok-name-in-Select t c =
    let all = c.in_ok-name-in-Select.ensures in
    select_means c.args.self.now.valuation.now c.in-Select.name _ c.in-Select.index _ _ c.args.expr.now c.in-Select.is c.get.ensures
    (IfOk-at_ok _ all.first c.name-in-Select.ensures) (IfOk-at_ok _ all.second c.boxed.ensures)

pub expr-returns-in_ok-name-in-Part : goal.expr-returns-in_ok-name-in-Part
expr-returns-in_ok-name-in-Part t c =
    let all = c.in_ok-name-in-Part.ensures in
    let first = IfOk-at_ok (λ p. c.number.result ≡ Ok p.0) all.second c.both-numbers.ensures.first in
    let second = IfOk-at_ok (λ p. c.number-in-Part.result ≡ Ok p.1) all.second c.both-numbers.ensures.second in
    part_means c.args.self.now.valuation.now c.in-Part.name _ c.in-Part.span c.in-Part.a c.in-Part.b _ _ _ _ c.args.expr.now c.in-Part.is c.get-in-Part.ensures c.get-in-Part-2.ensures
    (IfOk-at_ok _ all.first c.name-in-Part.ensures) (IfOk-at_ok _ first c.number.ensures) (IfOk-at_ok _ second c.number-in-Part.ensures)

pub expr-returns-in_ok-boxed-in-ConstantSelect : goal.expr-returns-in_ok-boxed-in-ConstantSelect
expr-returns-in_ok-boxed-in-ConstantSelect t c =
    constant_select_means c.args.self.now.valuation.now c.in-ConstantSelect.v c.in-ConstantSelect.a _ _ c.args.expr.now c.in-ConstantSelect.is c.get-in-ConstantSelect.ensures c.in_ok-boxed-in-ConstantSelect.ensures

pub expr-returns-in_ok-a-in-ConstantPart : goal.expr-returns-in_ok-a-in-ConstantPart
expr-returns-in_ok-a-in-ConstantPart t c =
    let all = c.in_ok-a-in-ConstantPart.ensures in
    constant_part_means c.args.self.now.valuation.now c.in-ConstantPart.vector c.in-ConstantPart.span c.in-ConstantPart.a c.in-ConstantPart.b _ _ _ _ c.args.expr.now c.in-ConstantPart.is
    c.get-in-ConstantPart.ensures c.get-in-ConstantPart-2.ensures (IfOk-at_ok _ all.first c.number-in-ConstantPart.ensures) (IfOk-at_ok _ all.second c.number-in-ConstantPart-2.ensures)

pub expr-returns-in_ok-boxed-in-Cast : goal.expr-returns-in_ok-boxed-in-Cast
expr-returns-in_ok-boxed-in-Cast t c =
    cast_means c.args.self.now.valuation.now c.in-Cast.cast c.in-Cast.inner _ _ c.args.expr.now c.in-Cast.is c.get-in-Cast.ensures c.in_ok-boxed-in-Cast.ensures

pub expr-returns-in-Paren : goal.expr-returns-in-Paren
expr-returns-in-Paren t c =
    IfOk-weaker c.expr.result _ _ (λ r h. paren_means c.args.self.now.valuation.now c.in-Paren.inner _ r c.args.expr.now c.in-Paren.is c.get-in-Paren.ensures h) c.expr.ensures

pub expr-returns-in_ok-row-in-Concat : goal.expr-returns-in_ok-row-in-Concat
expr-returns-in_ok-row-in-Concat t c =
    concat_means c.args.self.now.valuation.now c.in-Concat.items _ _ c.args.expr.now c.in-Concat.is c.as_slice.ensures c.in_ok-row-in-Concat.ensures

pub expr-returns-in_ok-count-in-Repeat : goal.expr-returns-in_ok-count-in-Repeat
expr-returns-in_ok-count-in-Repeat t c =
    let all = c.in_ok-count-in-Repeat.ensures in
    repeat_means c.args.self.now.valuation.now c.in-Repeat.count _ _ c.in-Repeat.items _ _ c.args.expr.now c.in-Repeat.is c.get-in-Repeat.ensures c.as_slice-in-Repeat.ensures
    (IfOk-at_ok _ all.first c.number-in-Repeat.ensures) (IfOk-at_ok _ all.second c.row-in-Repeat.ensures)

pub expr-returns-in_ok-boxed-in-Unary : goal.expr-returns-in_ok-boxed-in-Unary
expr-returns-in_ok-boxed-in-Unary t c =
    unary_means c.args.self.now.valuation.now c.in-Unary.op c.in-Unary.inner _ _ c.args.expr.now c.in-Unary.is c.get-in-Unary.ensures c.in_ok-boxed-in-Unary.ensures

pub expr-returns-in_ok-a-in-Binary : goal.expr-returns-in_ok-a-in-Binary
expr-returns-in_ok-a-in-Binary t c =
    let all = c.in_ok-a-in-Binary.ensures in
    binary_means c.args.self.now.valuation.now c.in-Binary.op c.in-Binary.a c.in-Binary.b _ _ _ _ c.args.expr.now c.in-Binary.is c.get-in-Binary.ensures c.get-in-Binary-2.ensures
    (IfOk-at_ok _ all.first c.boxed-in-Binary.ensures) (IfOk-at_ok _ all.second c.boxed-in-Binary-2.ensures)

pub expr-returns-in_ok-condition-in-Choice : goal.expr-returns-in_ok-condition-in-Choice
expr-returns-in_ok-condition-in-Choice t c =
    let all = c.in_ok-condition-in-Choice.ensures in
    let first = IfOk-at_ok (λ p. c.boxed-in-Choice.result ≡ Ok p.0) all.second c.both-ends.ensures.first in
    let second = IfOk-at_ok (λ p. c.boxed-in-Choice-2.result ≡ Ok p.1) all.second c.both-ends.ensures.second in
    choice_means c.args.self.now.valuation.now c.in-Choice.condition c.in-Choice.a c.in-Choice.b _ _ _ _ _ _ c.args.expr.now c.in-Choice.is c.get-in-Choice-3.ensures c.get-in-Choice.ensures c.get-in-Choice-2.ensures
    (IfOk-at_ok _ all.first c.boxed-in-Choice-3.ensures) (IfOk-at_ok _ first c.boxed-in-Choice.ensures) (IfOk-at_ok _ second c.boxed-in-Choice-2.ensures)

pub number-returns : goal.number-returns
number-returns t c =
    IfOk-weaker c.new.result _ _ (λ r h. rw h (count_through c.args.self.now.valuation.now c.args.expr.now _ _ c.in_ok-expr.ensures c.settled.ensures)) c.new.ensures

pub row-loop-expr-preserved : goal.row-loop-expr-preserved
row-loop-expr-preserved t c =
    let next = next_part c.args.exprs.now c.loop-expr.expr-index c.expr-item.result c.expr-item.result (omega arith) c.expr-item.is in
    next_folded c.args.self.now.valuation.now c.args.exprs.now _ _ c.loop-expr.all c.push.new.self _ _ next c.in_ok-expr.ensures c.in_ok-push.ensures.ok c.loop-expr.invariant

pub row-returns : goal.row-returns
row-returns t c = all_folded c.args.self.now.valuation.now c.args.exprs.now c.loop-expr.all c.loop-expr.expr-index (omega arith) c.loop-expr.invariant
