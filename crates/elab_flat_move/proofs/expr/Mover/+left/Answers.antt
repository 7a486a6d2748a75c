use Rattle.std.proofs.Common.{◌≡◌, Ok, refl}
use Rattle.std.proofs.lemmas.Result.{IfOk-at_ok}
use Rattle.elab_flat_move.proofs.Lefts.{name_moved, select_moved, part_moved, concat_moved}
use Rattle.elab_flat_move.proofs.Pairs.{made}
use Rattle.elab_flat_move.proofs.expr.Mover.+left.Goals as goal

pub left-returns-in_ok-text-in-Name : goal.left-returns-in_ok-text-in-Name
left-returns-in_ok-text-in-Name t c =
    name_moved c.args.self.now.prefix.now c.args.self.now.params.now c.args.left.now c.in-Name.name _ _ c.in-Name.is c.bytes.ensures c.in_ok-text-in-Name.ensures

pub left-returns-in_ok-name-in-Select : goal.left-returns-in_ok-name-in-Select
left-returns-in_ok-name-in-Select t c =
    select_moved c.args.self.now.prefix.now c.args.self.now.params.now c.args.left.now c.in-Select.name _ _ c.in-Select.index _
    c.in-Select.is c.bytes-in-Select.ensures (made _ _ _ c.in_ok-name-in-Select.ensures.first c.text-in-Select.ensures) (made _ _ _ c.in_ok-name-in-Select.ensures.second c.expr.ensures)

pub left-returns-in_ok-name-in-Part : goal.left-returns-in_ok-name-in-Part
left-returns-in_ok-name-in-Part t c =
    let all = c.in_ok-name-in-Part.ensures in
    part_moved c.args.self.now.prefix.now c.args.self.now.params.now c.args.left.now c.in-Part.name _ _ c.in-Part.span c.in-Part.a c.in-Part.b _ _
    c.in-Part.is c.bytes-in-Part.ensures (made _ _ _ all.first c.text-in-Part.ensures)
    (made _ _ _ (IfOk-at_ok (λ p. c.expr-in-Part.result ≡ Ok p.0) all.second c.both-ends.ensures.first) c.expr-in-Part.ensures)
    (made _ _ _ (IfOk-at_ok (λ p. c.expr-in-Part-2.result ≡ Ok p.1) all.second c.both-ends.ensures.second) c.expr-in-Part-2.ensures)

pub left-returns-in_ok-lefts-in-Concat : goal.left-returns-in_ok-lefts-in-Concat
left-returns-in_ok-lefts-in-Concat t c =
    concat_moved c.args.self.now.prefix.now c.args.self.now.params.now c.args.left.now c.in-Concat.parts _ _ _ c.in-Concat.is c.as_slice.ensures c.in_ok-lefts-in-Concat.ensures refl
