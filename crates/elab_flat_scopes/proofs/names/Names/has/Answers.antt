use Rattle.std.proofs.Common.{is_some, ap, ◌∙◌}
use Rattle.elab_flat_scopes.proofs.Finding.{has_place}
use Rattle.elab_flat_scopes.proofs.names.Names.has.Goals as goal

pub returns : goal.returns
returns c = c.is_some.ensures ∙ (ap is_some c.place.ensures ∙ has_place 0 c.args.self.now c.args.name.now)
