use Rattle.std.proofs.Common.{◌++◌, List, ap, map, ◌∙◌}
use Rattle.elab_flat_drivers.specs.declared.parts.Part.{Part}
use Rattle.elab_flat_drivers.specs.Parts.{part_meant, reads_of}
use Rattle.elab_flat_drivers.specs.Wanting.{left_reads}
use Rattle.elab_step_flow.proofs.Reading.{assignment_read}
use Rattle.elab_step_flow.proofs.places.places_read.Goals as goal

pub returns : goal.returns
returns c =
    let all = left_reads c.args.left.now ++ reads_of c.args.right.now in
    assignment_read c.args.scope.now c.requires _ _ c.args.left.now c.args.right.now c.in_ok-places.places.items c.names.ensures
    (ap (map part_meant) c.deref.ensures.value ∙ (c.in_ok-add_store_reads.ensures ∙ ap (λ (z : List Part). map part_meant z ++ all) c.new-reads.ensures.items)) c.in_ok-places.ensures
