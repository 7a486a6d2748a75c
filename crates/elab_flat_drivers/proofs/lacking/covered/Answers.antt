use Rattle.std.proofs.Common.{◌≡◌, length, map, replicate, sym, ap, subst, ◌∙◌}
use Rattle.elab_flat_drivers.specs.Driving.{AreNarrow, driver_meant}
use Rattle.elab_flat_drivers.specs.Wanting.{driven_table}
use Rattle.elab_flat_drivers.proofs.Lacks.{covers_ready, same_table}
use Rattle.std.proofs.lemmas.Result.{IfOk-weaker}
use Rattle.elab_flat_drivers.proofs.lacking.covered.Goals as goal

pub driven-requires-clause-narrow : goal.driven-requires-clause-narrow
driven-requires-clause-narrow c = subst AreNarrow (sym c.requires.same) c.requires.can.drives.narrow

pub driven-requires-clause-ready : goal.driven-requires-clause-ready
driven-requires-clause-ready c = covers_ready c.args.flat.now c.requires.can _ (ap (map driver_meant) c.deref.ensures.value ∙ c.in_ok-covers.ensures)

pub returns : goal.returns
returns c =
    let gs = c.args.signals.now in
    let ds = map driver_meant c.deref.result.now in
    IfOk-weaker c.driven.result (λ r. r.items ≡ driven_table gs (replicate (length gs) 0) ds) _
    (λ r h. h ∙ same_table c.requires.same (ap (map driver_meant) c.deref.ensures.value ∙ c.in_ok-covers.ensures)) c.driven.ensures
