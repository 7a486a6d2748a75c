use Rattle.std.proofs.Common.{◌-◌, arith, length, sym, ◌∙◌}
use Rattle.std.proofs.lemmas.Bool.{ltb-true, eqb-true}
use Rattle.elab_step_copies.proofs.Noting.{got_among}
use Rattle.elab_step_copies.proofs.lists.ends_with.Goals as goal

pub returns-in-Some : goal.returns-in-Some
returns-in-Some c e =
    let list = c.args.list.now in
    let item = c.in-Some.ensures.item in
    let some = ltb-true 0 (length list) (sym item.0) in
    got_among list (length list - 1) c.in-Some.last.now c.args.number (omega (arith, some)) (sym item.1 ∙ eqb-true c.in-Some.last.now c.args.number e)
