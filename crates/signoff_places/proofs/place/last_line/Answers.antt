use Rattle.std.proofs.Common.{◌≡◌, ℕ, ◌+◌, ◌-◌, false, get_or, length, sym, ap, ◌∙◌, arith}
use Rattle.std.proofs.lemmas.List.{take_rest}
use Rattle.signoff_places.specs.Lines.{is_feed}
use Rattle.signoff_places.proofs.LineLemmas.{last_line_from, from_less}
use Rattle.signoff_places.proofs.place.last_line.Goals as goal

pub returns-then-is_feed : goal.returns-then-is_feed
returns-then-is_feed c =
    let text = c.args.text.now in
    let n : ℕ = c.loop-at.at - 1 + 1 in
    let before : n - 1 ≡ c.loop-at.at - 1 = omega arith in
    take_rest text n ∙ sym (last_line_from text n (omega arith) (λ k from below. c.loop-at.invariant k (omega arith) below)
    (λ _. ap (λ m. is_feed (get_or text m 0)) before ∙ (sym c.is_feed.ensures ∙ c.if-is_feed.true)))

pub loop-at-preserved : goal.loop-at-preserved
loop-at-preserved c =
    let text = c.args.text.now in
    from_less (λ k. is_feed (get_or text k 0) ≡ false) c.loop-at.at (length text) c.loop-at.invariant (sym c.is_feed.ensures ∙ c.if-is_feed.false)

pub returns : goal.returns
returns c =
    let text = c.args.text.now in
    sym (last_line_from text 0 (omega arith) (λ k from below. c.loop-at.invariant k (omega arith) below) (λ some. absurd (omega arith)))
