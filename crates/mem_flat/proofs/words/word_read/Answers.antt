use Rattle.std.proofs.Common.{◌≡◌, Ok, ap, ◌∙◌}
use Rattle.std.proofs.lemmas.Result.{IfOk-at_ok}
use Rattle.elab_flat_move.proofs.Pairs.{made}
use Rattle.mem_laws.specs.Spread.{number}
use Rattle.mem_flat.proofs.Forms.{read_made}
use Rattle.mem_flat.proofs.words.word_read.Goals as goal

pub returns : goal.returns
returns c =
    let all = c.in_ok-name.ensures in
    read_made _ c.args.name.now c.args.width c.args.word _ _ (made _ _ _ all.first c.word_name.ensures)
    (made _ _ _ (IfOk-at_ok (λ p. c.new-high.result ≡ Ok p.0) all.second c.both-ends.ensures.first) c.new-high.ensures ∙ (c.number.ensures ∙ ap (number 8) c.from.ensures))
    (made _ _ _ (IfOk-at_ok (λ p. c.new.result ≡ Ok p.1) all.second c.both-ends.ensures.second) c.new.ensures ∙ c.number-2.ensures)
