use Rattle.elab_step_flow.proofs.Bits.{without_is, without_kept}
use Rattle.elab_step_flow.proofs.sets.without.Goals as goal

pub returns : goal.returns
returns c = record { cleared = λ b lt. without_is c.args.word c.args.bits b c.ranges.bits.fits lt; kept = λ b h. without_kept c.args.word c.args.bits b h }
