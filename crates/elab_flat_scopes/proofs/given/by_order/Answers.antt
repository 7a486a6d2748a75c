use Rattle.std.proofs.Common.{◌≤◌, arith, drop, length, map}
use Rattle.elab_flat_scopes.specs.Borrowed.{name_meant, given_meant}
use Rattle.elab_flat_scopes.proofs.Orders.{all_given}
use Rattle.elab_flat_scopes.proofs.given.by_order.Goals as goal

pub returns : goal.returns
returns c =
    let le : length c.args.exprs.now ≤ c.loop-value.value-index = omega arith in
    all_given (map name_meant (drop c.loop-value.at c.args.names.now)) c.args.exprs.now c.loop-value.value-index (map given_meant c.loop-value.all.items) _ le c.loop-value.invariant.given
