use Rattle.std.proofs.Common.{◌≡◌, map, sym, ap, subst, ◌∙◌}
use Rattle.std.specs.List.{flat_map}
use Rattle.std.proofs.lemmas.Result.{IfOk-weaker}
use Rattle.vlog_tree_runs.specs.Places.{Among}
use Rattle.elab_flat_drivers.specs.Parts.{part_meant}
use Rattle.elab_flat_drivers.specs.Claims.{part_claims}
use Rattle.elab_flat_drivers.specs.Driving.{AreNarrow}
use Rattle.elab_flat_drivers.proofs.Lacks.{same_claims}
use Rattle.elab_flat_drivers.proofs.lacking.wanted.Goals as goal

pub named-requires-clause-narrow : goal.named-requires-clause-narrow
named-requires-clause-narrow c = subst AreNarrow (sym c.requires.same) c.requires.can.drives.narrow

pub named-requires-clause-ready : goal.named-requires-clause-ready
named-requires-clause-ready c = λ q h. c.requires.can.wants q (subst (λ z. Among z q) (ap (map part_meant) c.deref.ensures.value ∙ c.in_ok-parts.ensures) h)

pub returns : goal.returns
returns c =
    IfOk-weaker c.named.result (λ r. r.items ≡ flat_map (part_claims c.args.signals.now) (map part_meant c.deref.result.now)) _
    (λ r h. h ∙ same_claims c.requires.same (ap (map part_meant) c.deref.ensures.value ∙ c.in_ok-parts.ensures)) c.named.ensures
