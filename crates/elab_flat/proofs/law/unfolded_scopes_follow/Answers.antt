use Rattle.elab_flat.proofs.Following.{are_followed}
use Rattle.elab_flat.proofs.law.unfolded_scopes_follow.Goals as goal

pub returns : goal.returns
returns c = are_followed
