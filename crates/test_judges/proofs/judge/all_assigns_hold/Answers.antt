use Rattle.std.proofs.Common.{◌<◌, length, get_or, ap, ◌∙◌, arith}
use Rattle.elab_step_nets.proofs.Boards.{item_among}
use Rattle.test_judges.proofs.judge.all_assigns_hold.Goals as goal

pub assign_holds-requires-clause-store : goal.assign_holds-requires-clause-store
assign_holds-requires-clause-store c =
    let xs = c.args.flat.now.assigns in
    let x = c.equation-item.result in
    let i = c.loop-equation.equation-index in
    let l = ap length c.as_slice-equation-items.ensures in
    let lt : i < length xs = omega (arith, l) in
    c.requires.can.assigns x (item_among xs i x x lt (c.equation-item.is ∙ ap (λ z. get_or z i x) c.as_slice-equation-items.ensures))
