use Rattle.std.proofs.Common.{◌≡◌, Ok, ap, ◌∙◌, sym}
use Rattle.std.proofs.lemmas.Result.{IfOk-weaker, IfOk-at_ok}
use Rattle.mem_laws.specs.Spread.{chosen}
use Rattle.elab_flat_move.proofs.Pairs.{made}
use Rattle.mem_flat.proofs.Forms.{chosen_made, first_and_rest}
use Rattle.mem_flat.proofs.words.+chosen.Goals as goal

pub returns-in_ok-test-in-len1-up : goal.returns-in_ok-test-in-len1-up
returns-in_ok-test-in-len1-up t c =
    let all = c.in_ok-test-in-len1-up.ensures in
    IfOk-weaker c.choice.result _ _
    (λ r h. chosen_made c.args.name.now c.args.width c.args.index.now _ _ _ _ _ r (made _ _ _ all.first c.is_word.ensures)
    (made _ _ _ (IfOk-at_ok (λ p. c.word_read.result ≡ Ok p.0) all.second c.both-ends.ensures.first) c.word_read.ensures)
    (made _ _ _ (IfOk-at_ok (λ p. c.chosen.result ≡ Ok p.1) all.second c.both-ends.ensures.second) c.chosen.ensures) h
    ∙ ap (chosen c.args.name.now c.args.width c.args.index.now) (first_and_rest c.args.words.now c.in-len1-up.len_at_least)) c.choice.ensures
