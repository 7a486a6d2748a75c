use Rattle.std.proofs.Common.{refl, inl}
use Rattle.elab_flat_drivers.specs.Parts.{part_meant}
use Rattle.elab_flat_drivers.proofs.Naming.{meant_at}
use Rattle.elab_flat_widths.proofs.left.total_bits.Goals as goal

pub part_bits-requires : goal.part_bits-requires
part_bits-requires c =
    c.requires (part_meant c.part-item.result) (meant_at part_meant c.args.parts.now c.args.parts.now _ c.loop-part.part-index c.part-item.result c.loop-part-test.true c.part-item.is refl refl)

pub returns-in-None-clause-none : goal.returns-in-None-clause-none
returns-in-None-clause-none c = inl (
  part_meant c.part-item.result,
  meant_at part_meant c.args.parts.now c.args.parts.now _ c.loop-part.part-index c.part-item.result c.loop-part-test.true c.part-item.is refl refl,
  rw c.in-None.is at c.in_ok-bits.ensures.none,
)
