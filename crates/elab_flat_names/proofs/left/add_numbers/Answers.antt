use Rattle.std.proofs.Common.{◌++◌, map, refl, ap, ◌∙◌}
use Rattle.std.specs.List.{flat_map}
use Rattle.elab_flat_faults.specs.Texts.{numbers_in}
use Rattle.elab_flat_drivers.specs.Parts.{part_meant}
use Rattle.elab_flat_names.specs.Exprs.{expr_meant}
use Rattle.elab_flat_names.proofs.Reading.{parts_numbers}
use Rattle.elab_flat_drivers.proofs.Growing.{ended}
use Rattle.elab_flat_names.proofs.left.add_numbers.Goals as goal

pub returns : goal.returns
returns c =
    ended (λ xs. flat_map numbers_in (map part_meant xs)) c.deref-part-items.result.now c.loop-part.part-index (map expr_meant c.loop-part.all.items) (map expr_meant c.args.all.now.items) (flat_map numbers_in (map part_meant c.deref-part-items.result.now)) refl c.loop-part-test.false c.loop-part.invariant
    ∙ ap (λ z. map expr_meant c.args.all.now.items ++ z) (ap (λ xs. flat_map numbers_in (map part_meant xs)) c.deref-part-items.ensures.value ∙ (ap (flat_map numbers_in) c.in_ok-parts.ensures ∙ parts_numbers c.args.left.now))
