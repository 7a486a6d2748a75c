use Rattle.elab_flat.proofs.Usable.{can_flatten}
use Rattle.elab_flat.proofs.law.checked_scopes_flatten.Goals as goal

pub returns : goal.returns
returns c = can_flatten
