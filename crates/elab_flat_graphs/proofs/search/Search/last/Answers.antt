use Rattle.std.proofs.Common.{refl}
use Rattle.elab_flat_graphs.specs.Searching.{searched}
use Rattle.elab_flat_graphs.proofs.Searching.{ends_within}
use Rattle.elab_flat_graphs.proofs.search.Search.last.Goals as goal

pub returns-clause-vertex : goal.returns-clause-vertex
returns-clause-vertex c = ends_within (searched c.args.self.now) _ _ _ _ _ _ c.requires c.deref.ensures.value refl c.last_of.ensures.last
