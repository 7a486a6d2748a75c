use Rattle.std.proofs.Common.{◌≡◌, ℕ, List, Some, true, sym, ap, ◌∙◌}
use Rattle.desk_core.specs.Blocks.{is_signed_off}
use Rattle.desk_core.proofs.Numbering.{signed}
use Rattle.desk_core.proofs.signing.sign_block.Goals as goal

pub returns-clause-step : goal.returns-clause-step
returns-clause-step g c =
    let m = c.bytes-2.result.now in
    let s = c.bytes-3.result.now in
    let report = c.bytes-4.result.now in
    let off : is_signed_off c.bytes.result.now ≡ true = cc (c.is_signed_off.ensures, c.if-not-is_signed_off.false) in
    signed c.args.name.now m s report c.in_ok-number.number c.args.block.now (g.K.Keeper.tables c.args.keeper.now) (g.K.Keeper.tables c.number_of.new.keeper)
    (c.in-Some.is ∙ ap (λ (x : List ℕ). Some x) (sym c.bytes-2.ensures)) (c.in-Some-set.is ∙ ap (λ (x : List ℕ). Some x) (sym c.bytes-3.ensures))
    (c.in-Some-report.is ∙ ap (λ (x : List ℕ). Some x) (sym c.bytes-4.ensures)) (ap is_signed_off (c.bytes-4.ensures ∙ sym c.bytes.ensures) ∙ off) c.in_ok-number.ensures.ok
