use Rattle.std.proofs.Common.{arith, refl}
use Rattle.vlog_read_expr.proofs.SignTests.{yes_by, no_by}
use Rattle.std.proofs.lemmas.Result.{err_from_is_err_and}
use Rattle.vlog_read.proofs.HeaderSteps.{begins_group}
use Rattle.vlog_read.proofs.HeaderSteps.{groups_of, names_of, groups_refuse, names_refuse}
use Rattle.vlog_read.proofs.header.read_ports.Goals as goal

pub returns-then-is_direction : goal.returns-then-is_direction
returns-then-is_direction c =
    let a = c.in_ok-list.ensures.found in
    record {
      spelt = (begins_group _ _ _ _ a.spelt (yes_by _ c.is_direction.ensures c.if-is_direction.true), a.spelt);
      only = λ x k q. let o = groups_of _ _ (yes_by _ c.is_direction.ensures c.if-is_direction.true) x k q in a.only o.0 k o.1;
      height_is = a.height_is;
      low = a.low;
      past = a.past;
      within = a.within;
    }

pub returns : goal.returns
returns c =
    let a = c.in_ok-list-2.ensures.found in
    record { spelt = a.spelt; only = λ x k q. let o = names_of _ _ (no_by _ c.is_direction.ensures c.if-is_direction.false) x k q in a.only o.0 k o.1; height_is = refl; low = omega arith; past = a.past; within = a.within }

pub returns-in_err-list : goal.returns-in_err-list
returns-in_err-list c =
    let p = err_from_is_err_and c.from_residual.result c.from_residual.ensures.1 in
    rw (p.1, p.2) (groups_refuse _ _ _ (yes_by _ c.is_direction.ensures c.if-is_direction.true) _ c.in_err-list.ensures.found)

pub returns-in_err-list-2 : goal.returns-in_err-list-2
returns-in_err-list-2 c =
    let p = err_from_is_err_and c.from_residual-in_err-list-2.result c.from_residual-in_err-list-2.ensures.1 in
    rw (p.1, p.2) (names_refuse _ _ _ (no_by _ c.is_direction.ensures c.if-is_direction.false) _ c.in_err-list-2.ensures.found)
