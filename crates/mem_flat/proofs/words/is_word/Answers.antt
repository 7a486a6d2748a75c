use Rattle.std.proofs.Common.{ap, ◌∙◌}
use Rattle.std.proofs.lemmas.Result.{IfOk-weaker}
use Rattle.mem_laws.specs.Spread.{number}
use Rattle.mem_flat.proofs.Forms.{word_made}
use Rattle.mem_flat.proofs.words.is_word.Goals as goal

pub returns : goal.returns
returns c = IfOk-weaker c.binary.result _ _ (λ r h. h ∙ word_made c.args.index.now _ _ c.args.word c.in_ok-index.ensures (c.number.ensures ∙ ap (number 8) c.from.ensures)) c.binary.ensures
