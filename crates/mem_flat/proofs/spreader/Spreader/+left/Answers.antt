use Rattle.std.proofs.Common.{◌≡◌, Ok, refl, rules}
use Rattle.std.proofs.lemmas.Result.{IfOk-at_ok}
use Rattle.vlog_tree.specs.declared.stmt.Lval.{the_lemmas}
use Rattle.mem_flat.proofs.Lefts.{name_spread, select_spread, part_spread, concat_spread, select_asked, part_asked, concat_asked, each_asked}
use Rattle.elab_flat_move.proofs.Pairs.{made}
use Rattle.mem_flat.proofs.spreader.Spreader.+left.Goals as goal

pub left-returns-in_ok-copy-in-Name : goal.left-returns-in_ok-copy-in-Name
left-returns-in_ok-copy-in-Name t c =
    name_spread c.args.self.now.rest.now c.args.left.now c.in-Name.name _ _ c.in-Name.is c.bytes.ensures c.in_ok-copy-in-Name.ensures

pub left-returns-in_ok-name-in-Select : goal.left-returns-in_ok-name-in-Select
left-returns-in_ok-name-in-Select t c =
    select_spread c.args.self.now.rest.now c.args.left.now c.in-Select.name _ _ c.in-Select.index _
    c.in-Select.is c.bytes-in-Select.ensures (made _ _ _ c.in_ok-name-in-Select.ensures.first c.copy-in-Select.ensures) (made _ _ _ c.in_ok-name-in-Select.ensures.second c.expr.ensures)

pub left-returns-in_ok-name-in-Part : goal.left-returns-in_ok-name-in-Part
left-returns-in_ok-name-in-Part t c =
    let all = c.in_ok-name-in-Part.ensures in
    part_spread c.args.self.now.rest.now c.args.left.now c.in-Part.name _ _ c.in-Part.span c.in-Part.a c.in-Part.b _ _
    c.in-Part.is c.bytes-in-Part.ensures (made _ _ _ all.first c.copy-in-Part.ensures)
    (made _ _ _ (IfOk-at_ok (λ p. c.expr-in-Part.result ≡ Ok p.0) all.second c.both-ends.ensures.first) c.expr-in-Part.ensures)
    (made _ _ _ (IfOk-at_ok (λ p. c.expr-in-Part-2.result ≡ Ok p.1) all.second c.both-ends.ensures.second) c.expr-in-Part-2.ensures)

pub left-returns-in_ok-lefts-in-Concat : goal.left-returns-in_ok-lefts-in-Concat
left-returns-in_ok-lefts-in-Concat t c =
    concat_spread c.args.self.now.rest.now c.args.left.now c.in-Concat.parts _ _ _ c.in-Concat.is c.as_slice.ensures c.in_ok-lefts-in-Concat.ensures refl

pub left-expr-requires : goal.left-expr-requires
left-expr-requires t c = (select_asked c.args.self.now.rest.now c.args.left.now c.in-Select.name c.in-Select.index c.in-Select.is c.requires).1

pub left-expr-requires-in-Part : goal.left-expr-requires-in-Part
left-expr-requires-in-Part t c = (part_asked c.args.self.now.rest.now c.args.left.now c.in-Part.name c.in-Part.span c.in-Part.a c.in-Part.b c.in-Part.is c.requires).0

pub left-expr-requires-in-Part-2 : goal.left-expr-requires-in-Part-2
left-expr-requires-in-Part-2 t c = (part_asked c.args.self.now.rest.now c.args.left.now c.in-Part.name c.in-Part.span c.in-Part.a c.in-Part.b c.in-Part.is c.requires).1

pub left-lefts-requires : goal.left-lefts-requires
left-lefts-requires t c = (search (rules, the_lemmas), concat_asked c.args.self.now.rest.now c.args.left.now c.in-Concat.parts _ c.in-Concat.is c.as_slice.ensures c.requires)

pub lefts-left-requires : goal.lefts-left-requires
lefts-left-requires t c = (search (rules, the_lemmas), each_asked c.args.self.now.rest.now c.args.lefts.now c.loop-left.left-index c.left-item.result _ c.requires c.loop-left-test.true c.left-item.is)
