use Rattle.std.proofs.Common.{refl}
use Rattle.elab_flat_drivers.specs.Parts.{part_meant}
use Rattle.elab_flat_drivers.proofs.Naming.{meant_at}
use Rattle.elab_flat_params.proofs.Divisors.{decided_false}
use Rattle.elab_flat_widths.specs.Outputs.{IsOf}
use Rattle.elab_flat_widths.proofs.output.are_of.Goals as goal

pub returns-then-not-is_of : goal.returns-then-not-is_of
returns-then-not-is_of c = λ all.
    let q = part_meant c.part-item.result in
    decided_false (IsOf c.args.names.now q) c.is_of.result c.is_of.ensures c.if-not-is_of.true
    (all q (meant_at part_meant c.args.parts.now c.args.parts.now _ c.loop-part.part-index c.part-item.result c.loop-part-test.true c.part-item.is refl refl))
