use Rattle.std.proofs.Common.{◌∷◌, ◌++◌, ap, map, ◌∙◌}
use Rattle.std.specs.List.{flat_map}
use Rattle.elab_flat_drivers.specs.Parts.{part_meant, reads_of}
use Rattle.elab_step_flow.specs.Cases.{expr_meant}
use Rattle.elab_step_flow.proofs.Reading.{exprs_read}
use Rattle.elab_step_flow.proofs.places.places_compared.Goals as goal

pub returns : goal.returns
returns c =
    let labels = map expr_meant c.args.labels.now in
    exprs_read c.args.scope.now c.requires _ _ (c.args.subject.now ∷ labels) c.in_ok-places.places.items c.names.ensures
    (ap (map part_meant) c.deref.ensures.value ∙ (c.in_ok-add_all_reads.ensures ∙ ap (λ z. z ++ flat_map reads_of labels) c.in_ok-reads.ensures)) c.in_ok-places.ensures
