use Rattle.std.proofs.Common.{ap, ◌∙◌}
use Rattle.std.proofs.lemmas.Result.{IfOk-weaker}
use Rattle.mem_laws.specs.Spread.{number}
use Rattle.mem_flat.proofs.Forms.{bits_made}
use Rattle.mem_flat.proofs.words.bits_from.Goals as goal

pub returns : goal.returns
returns c =
    IfOk-weaker c.binary.result _ _
    (λ r h. h ∙ bits_made c.args.right.now _ _ _ _ _ c.args.width c.args.from c.in_ok-right.ensures c.number.ensures c.signed_zero.ensures c.in_ok-right-2.ensures (c.number-2.ensures ∙ ap (number 8) c.from.ensures)) c.binary.ensures
