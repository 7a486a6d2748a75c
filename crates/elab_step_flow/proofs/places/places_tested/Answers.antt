use Rattle.std.proofs.Common.{◌∷◌, [], sym, ap, map, ◌∙◌}
use Rattle.std.proofs.lemmas.List.{append-nil}
use Rattle.elab_flat_drivers.specs.Parts.{part_meant, reads_of}
use Rattle.elab_step_flow.proofs.Reading.{exprs_read}
use Rattle.elab_step_flow.proofs.places.places_tested.Goals as goal

pub returns : goal.returns
returns c =
    exprs_read c.args.scope.now c.requires _ _ (c.args.expr.now ∷ []) c.in_ok-places.places.items c.names.ensures
    (ap (map part_meant) c.deref.ensures.value ∙ (c.in_ok-reads.ensures ∙ sym (append-nil (reads_of c.args.expr.now)))) c.in_ok-places.ensures
