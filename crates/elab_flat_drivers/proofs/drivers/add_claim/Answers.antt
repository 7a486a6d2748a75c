use Rattle.std.proofs.Common.{sym, ◌∙◌}
use Rattle.elab_flat_drivers.proofs.Spots.{narrow_spot}
use Rattle.elab_flat_drivers.proofs.drivers.add_claim.Goals as goal

pub claim_at-requires-clause-narrow : goal.claim_at-requires-clause-narrow
claim_at-requires-clause-narrow c = narrow_spot c.args.signals.now _ c.in-Some.spot c.requires.narrow (sym c.in-Some.is ∙ c.spot.ensures)
