use Rattle.std.proofs.Common.{◌≡◌, get_or, true, false, ap, arith}
use Rattle.cdcl.proofs.MarkLemmas.{bit, count_set}
use Rattle.cdcl.proofs.conflict.mark_place.Goals as goal

pub returns-then-place-start-clause-count : goal.returns-then-place-start-clause-count
returns-then-place-start-clause-count c =
    let le = c.if-place-start.true in
    let was : bit (get_or c.args.seen.now c.args.place false) ≡ 0 = ap bit c.if-seen-place.false in
    omega (arith, count_set c.args.seen.now c.args.start c.args.place true le c.requires, was)
