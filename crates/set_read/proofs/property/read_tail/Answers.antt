use Rattle.std.proofs.Common.{arith, ◌<◌}
use Rattle.std.proofs.lemmas.Result.{err_from_is_err_and}
use Rattle.vlog_tree.specs.Lists.{highest}
use Rattle.vlog_tree.specs.Spelling.{height}
use Rattle.set_read.specs.Parts.{tail_height}
use Rattle.set_read.proofs.Steps.{passes}
use Rattle.set_read.proofs.PropertySteps.{hand_end, after_hand, covers_end, after_covers, after_next}
use Rattle.set_read.proofs.property.read_tail.Goals as goal

pub returns-in_err-hand-clause-only : goal.returns-in_err-hand-clause-only
returns-in_err-hand-clause-only c =
    let p = err_from_is_err_and c.from_residual.result c.from_residual.ensures.1 in
    rw (p.1, p.2) (λ x j q g. passes (498 < highest height x.hand) (498 < tail_height x) (λ h. h) _ (c.in_err-hand.ensures.only x.hand q.0 q.3 (hand_end c.args.tokens.now c.args.at x j q)))

pub returns-in-Err-clause-only : goal.returns-in-Err-clause-only
returns-in-Err-clause-only c =
    rw c.dropping.ensures (λ x j q g. let a = after_hand c.args.tokens.now c.args.at _ c.in_ok-hand.ensures.only x j q in passes (0 < 0) _ (λ h. absurd (omega (arith, h))) _ (c.in-Err.ensures.only x.covers a.0 a.2 (covers_end c.args.tokens.now _ x j a)))

pub returns-in_err-end-clause-only : goal.returns-in_err-end-clause-only
returns-in_err-end-clause-only c =
    let p = err_from_is_err_and c.from_residual-in_err-end.result c.from_residual-in_err-end.ensures.1 in
    rw (p.1, p.2) (λ x j q g. let a = after_covers c.args.tokens.now _ _ c.in-Ok.ensures.only x j (after_hand c.args.tokens.now c.args.at _ c.in_ok-hand.ensures.only x j q) in absurd (c.in_err-end.ensures.none a.1.1))

pub returns-in_err-next-clause-only : goal.returns-in_err-next-clause-only
returns-in_err-next-clause-only c =
    let p = err_from_is_err_and c.from_residual-in_err-next.result c.from_residual-in_err-next.ensures.1 in
    rw (p.1, p.2) (λ x j q g. let a = after_covers c.args.tokens.now _ _ c.in-Ok.ensures.only x j (after_hand c.args.tokens.now c.args.at _ c.in_ok-hand.ensures.only x j q) in passes (0 < 0) _ (λ h. absurd (omega (arith, h))) _ ((rw c.in_ok-end.ensures.ok.1 at c.in_err-next.ensures.only) x.next a.1.0 a.1.2 a.1.3))

pub returns-in_err-end-2-clause-only : goal.returns-in_err-end-2-clause-only
returns-in_err-end-2-clause-only c =
    let p = err_from_is_err_and c.from_residual-in_err-end-2.result c.from_residual-in_err-end-2.ensures.1 in
    rw (p.1, p.2) (λ x j q g. let a = after_next c.args.tokens.now _ _ (rw c.in_ok-end.ensures.ok.1 at c.in_ok-next.ensures.only) x j (after_covers c.args.tokens.now _ _ c.in-Ok.ensures.only x j (after_hand c.args.tokens.now c.args.at _ c.in_ok-hand.ensures.only x j q)) in absurd (c.in_err-end-2.ensures.none a.0))

pub returns-in_err-end-3-clause-only : goal.returns-in_err-end-3-clause-only
returns-in_err-end-3-clause-only c =
    let p = err_from_is_err_and c.from_residual-in_err-end-3.result c.from_residual-in_err-end-3.ensures.1 in
    rw (p.1, p.2) (λ x j q g. let a = after_next c.args.tokens.now _ _ (rw c.in_ok-end.ensures.ok.1 at c.in_ok-next.ensures.only) x j (after_covers c.args.tokens.now _ _ c.in-Ok.ensures.only x j (after_hand c.args.tokens.now c.args.at _ c.in_ok-hand.ensures.only x j q)) in absurd ((rw c.in_ok-end-2.ensures.ok.1 at c.in_err-end-3.ensures.none) a.1))

pub returns-clause-only : goal.returns-clause-only
returns-clause-only c = λ x j q g. let a = after_next c.args.tokens.now _ _ (rw c.in_ok-end.ensures.ok.1 at c.in_ok-next.ensures.only) x j (after_covers c.args.tokens.now _ _ c.in-Ok.ensures.only x j (after_hand c.args.tokens.now c.args.at _ c.in_ok-hand.ensures.only x j q)) in omega (arith, a.2, c.in_ok-end-2.ensures.ok.1, c.in_ok-end-3.ensures.ok.1)
