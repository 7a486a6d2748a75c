use Rattle.elab_flat_scopes.specs.Borrowed.{decl_meant}
use Rattle.elab_flat_scopes.proofs.Joining.{joined_is}
use Rattle.elab_flat_scopes.proofs.signal.joined.Goals as goal

pub returns : goal.returns
returns c = λ all are.
    joined_is all c.args.sides.now are (decl_meant c.args.decl.now) c.bytes-name.result.now c.bytes-name.ensures c.has.result c.has-2.result c.has-3.result c.has.ensures c.has-2.ensures c.has-3.ensures
