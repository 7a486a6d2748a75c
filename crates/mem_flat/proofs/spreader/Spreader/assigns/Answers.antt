use Rattle.mem_faults.proofs.Keeping.{among_at}
use Rattle.mem_flat.proofs.spreader.Spreader.assigns.Goals as goal

pub assign-requires : goal.assign-requires
assign-requires c = c.requires c.assign-item.result (among_at c.args.assigns.now c.loop-assign.assign-index c.assign-item.result _ c.loop-assign-test.true c.assign-item.is)
