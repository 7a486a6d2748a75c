use Rattle.std.proofs.Common.{◌++◌, subst}
use Rattle.std.specs.Option.{option_to_list, option_map}
use Rattle.set_read_lookup.specs.Tests.{IsPresent, Judges}
use Rattle.set_read_lookup.proofs.Judged.{judge_both}
use Rattle.set_read_lookup.proofs.formed.property_is.Goals as goal

pub returns : goal.returns
returns c =
    let P = IsPresent c.args.valuation.now in
    let x = c.args.property.now in
    judge_both P (option_to_list (option_map (λ u. u.condition) x.length.until)) (x.assume ++ (x.commit ++ x.hand)) c.in_ok-until.until c.both-2.result c.both-3.result c.both-3.ensures
    c.in_ok-until.ensures
    (judge_both P x.assume (x.commit ++ x.hand) c.in_ok-assume.assume c.both.result c.both-2.result c.both-2.ensures
    (subst (λ z. Judges P z c.in_ok-assume.assume) c.as_slice.ensures c.in_ok-assume.ensures)
    (judge_both P x.commit x.hand c.in_ok-commit.commit c.in_ok-hand.hand c.both.result c.both.ensures
    (subst (λ z. Judges P z c.in_ok-commit.commit) c.as_slice-2.ensures c.in_ok-commit.ensures)
    (subst (λ z. Judges P z c.in_ok-hand.hand) c.as_slice-3.ensures c.in_ok-hand.ensures)))
