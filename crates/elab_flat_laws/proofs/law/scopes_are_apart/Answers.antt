use Rattle.elab_flat_laws.proofs.Apart.{are_apart}
use Rattle.elab_flat_laws.proofs.law.scopes_are_apart.Goals as goal

pub returns : goal.returns
returns c = are_apart
