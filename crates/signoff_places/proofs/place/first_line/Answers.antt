use Rattle.std.proofs.Common.{sym, ◌∙◌, length, arith, below_more}
use Rattle.std.proofs.lemmas.List.{take_all}
use Rattle.signoff_places.proofs.LineLemmas.{first_line_to}
use Rattle.signoff_places.proofs.place.first_line.Goals as goal

pub returns-then-is_feed : goal.returns-then-is_feed
returns-then-is_feed c = sym (first_line_to c.args.text.now c.loop-at.at (omega arith) c.loop-at.invariant (λ _. sym c.is_feed.ensures ∙ c.if-is_feed.true))

pub loop-at-preserved : goal.loop-at-preserved
loop-at-preserved c = below_more _ _ c.loop-at.invariant (sym c.is_feed.ensures ∙ c.if-is_feed.false)

pub returns : goal.returns
returns c =
    let text = c.args.text.now in
    sym (first_line_to text (length text) (omega arith) (λ k lt. c.loop-at.invariant k (omega arith)) (λ lt. absurd (omega arith)) ∙ take_all (length text) text (omega arith))
