use Rattle.elab_flat_scopes.specs.Borrowed.{decl_meant, given_meant}
use Rattle.elab_flat_names.proofs.Fitting.{by_value}
use Rattle.elab_flat_names.proofs.Seconds.{first_at}
use Rattle.elab_flat_names.proofs.inner.is_bad.Goals as goal

pub returns-else-not-port : goal.returns-else-not-port
returns-else-not-port c =
    let d = given_meant c.args.gift.now in
    by_value c.args.ports.now c.args.signals.now d (decl_meant c.in-Some.port.now) (first_at c.args.ports.now c.at.result c.in-Some.port c.bytes.result.now d.name c.at.ensures c.in-Some.is c.bytes.ensures)
    c.if-port.false c.if-not-port.false c.is_assignable.result c.is_assignable.ensures
